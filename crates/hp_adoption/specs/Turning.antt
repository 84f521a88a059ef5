-- The parts of a turn.
use Rattle.std.specs.Prelude.{ℕ, suc, ◌+◌, Bool, if◌then◌else◌, List, [], ◌∷◌, ◌++◌, Option, Some, None, Result, Ok, Err}
use Rattle.std.specs.Option.{option_map}
use Rattle.hp_elements.specs.declared.tag.Tag.{Tag}
use Rattle.hp_control.specs.declared.change.Change.{Change}
use Rattle.hp_control.specs.declared.change.Refusal.{Refusal}
use Rattle.hp_control.specs.declared.change.Refusal.TheVariants.{Crossed, NoMemory}
use Rattle.hp_control.specs.declared.edit.Child.TheVariants as child
use Rattle.hp_control.specs.declared.edit.Edit.{Edit}
use Rattle.hp_control.specs.declared.edit.Edit.TheVariants.{NewElement, Put, MoveChildren}
use Rattle.hp_control.specs.declared.edit.Place.{Place}
use Rattle.hp_control.specs.declared.edit.Place.TheVariants.{Into}
use Rattle.hp_control.specs.declared.edit.Ref.{Ref}
use Rattle.hp_control.specs.declared.element.OpenElement.{OpenElement}
use Rattle.hp_control.specs.declared.element.FormattingEntry.{FormattingEntry}
use Rattle.hp_control.specs.declared.element.FormattingEntry.TheVariants.{Element}
use Rattle.hp_control.specs.Acts.{element_for}
use Rattle.hp_control.specs.Adoption.{Adopted, Climbed, Seat, pass_all, settled}
use Rattle.hp_control.specs.Faithful.{Split}
use Rattle.hp_control.specs.Plan.{Plan, Runs}
use Rattle.hp_views.specs.View.{Sight}
use Rattle.hp_adoption.specs.AdoptPlans.{Turned}

-- the turn was carried out, or it crosses so, or memory is wanting
abbrev pub Turns : Result Bool Refusal → Sight → Sight → (Split → Plan Turned) → Type 0
Turns (Ok goes_on) old new plan = Runs old.heard new.heard (plan old.split) (Ok (record { split = new.split; goes_on = goes_on }))
Turns (Err (Crossed crossing)) old new plan = Runs old.heard new.heard (plan old.split) (Err crossing)
Turns (Err NoMemory) old new plan = Unit {0}

abbrev pub seat_depth : Option Seat → Option ℕ
seat_depth = option_map (λ s. s.depth)

-- the depth of the last element of those that pass a test
abbrev pub last_by : Bool → Option ℕ → Option ℕ
last_by here None = if here then Some 0 else None
last_by here (Some k) = Some (suc k)

abbrev pub last_within : (OpenElement → Bool) → List OpenElement → Option ℕ
last_within test [] = None
last_within test (e ∷ es) = last_by (test e) (last_within test es)

-- what a node that is made anew is in the list of edits
abbrev pub renewing : Ref → Ref → Tag → List Edit
renewing last made tag = NewElement tag ∷ Put (child.Element last) (Into made) ∷ []

-- the last edits of a turn
abbrev pub closing : Ref → Place → Ref → Ref → Tag → List Edit
closing last where_ block made tag = Put (child.Element last) where_ ∷ NewElement tag ∷ MoveChildren block made ∷ Put (child.Element made) (Into block) ∷ []

abbrev pub from_block : OpenElement → List FormattingEntry → ℕ → Climbed
from_block block list next = record { formatting = list; next = next; kept = block ∷ []; last = block.id; bookmark = None; edits = [] }

-- the block's children go into a new element of the tag, which goes into the block; by the block's id and what stands above it
abbrev pub closed_parts : (ℕ → Ref) → Place → ℕ → Tag → List OpenElement → ℕ → Climbed → Adopted
closed_parts ref where_ entry tag above block k = record {
  over = above ++ element_for k.next tag ∷ k.kept;
  formatting = settled k.bookmark entry (Element k.next tag) k.formatting;
  next = k.next + 1;
  edits = k.edits ++ closing (ref k.last) where_ (ref block) (ref k.next) tag;
}

-- what a turn makes of the stack's parts above the formatting element, and of the list
abbrev pub adopted_parts : (ℕ → Ref) → Place → ℕ → Tag → List OpenElement → OpenElement → List OpenElement → List FormattingEntry → ℕ → Adopted
adopted_parts ref where_ entry tag above block between list next = closed_parts ref where_ entry tag above block.id (pass_all ref block.id 0 between (from_block block list next))

abbrev pub with_parts : Adopted → Change → Change
with_parts a c = record c { stack = a.over ++ c.stack; formatting = a.formatting; made = a.next }
