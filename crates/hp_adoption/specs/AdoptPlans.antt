-- The adoption agency algorithm: what it asks of the older state and what it changes of a view (13.2.6.4.7).
use Rattle.std.specs.Prelude.{ℕ, zero, suc, ◌+◌, Bool, true, false, not, ◌&&◌, if◌then◌else◌, List, [], ◌∷◌, ◌++◌, Option, Some, None, take, drop, slice_get}
use Rattle.std.specs.Option.{is_some, option_map}
use Rattle.std.specs.Str.{bytes_eq}
use Rattle.hp_elements.specs.declared.kinds.Kinds.TheVariants as kinds
use Rattle.hp_elements.specs.declared.tag.Tag.{Tag}
use Rattle.hp_control.specs.declared.edit.Place.{Place}
use Rattle.hp_control.specs.declared.element.OpenElement.{OpenElement}
use Rattle.hp_control.specs.declared.element.FormattingEntry.{FormattingEntry}
use Rattle.hp_control.specs.declared.element.FormattingEntry.TheVariants.{Element}
use Rattle.hp_control.specs.declared.question.Crossing.TheVariants.{X1}
use Rattle.hp_control.specs.declared.question.EntryKind.{EntryKind}
use Rattle.hp_control.specs.declared.question.EntryKind.TheVariants.{Absent, Closed, Hidden, InScope}
use Rattle.hp_control.specs.Adoption.{Seat, Spot, Adopted, adopted, furthest, hides, edit_at}
use Rattle.hp_control.specs.Faithful.{Split}
use Rattle.hp_control.specs.Plan.{Plan, gives, crosses, followed_by}
use Rattle.hp_control.specs.States.{is_html}
use Rattle.hp_control.specs.Walks.{has_entry}
use Rattle.hp_views.specs.declared.walks.Walk.{Walk}
use Rattle.hp_views.specs.declared.walks.Walk.TheVariants.{Found, Stopped, PastAll}
use Rattle.hp_views.specs.Asking.{ask_listed}
use Rattle.hp_views.specs.ClosingPlans.{walk_plan}
use Rattle.hp_views.specs.FieldPlans.{with_change}
use Rattle.hp_views.specs.ListPlans.{with_entries}
use Rattle.hp_views.specs.PlacePlans.{place_plan}
use Rattle.hp_views.specs.StackPlans.{current_is_plan, own_popped, pop_plan}
use Rattle.hp_views.specs.Walks.{entry_walk, id_walk}
use Rattle.hp_adoption.specs.Entries.{ref_of}

-- what a turn leaves, and whether there may be another
pub record Turned : Type 0 where
  pub split : Split
  pub goes_on : Bool

-- the own elements below that depth alone
abbrev pub below_depth : ℕ → Split → Split
below_depth depth v = with_change (record v.change { stack = drop (depth + 1) v.change.stack }) v

-- the list without the entry of that id
abbrev pub struck : ℕ → Split → Split
struck id v = with_change (with_entries (edit_at id 1 [] v.change.formatting) v.change) v

abbrev pub with_adopted : Adopted → Split → Split
with_adopted a v = record v {
  change = record v.change { stack = a.over ++ v.change.stack; formatting = a.formatting; made = a.next };
  edits = v.edits ++ a.edits;
}

abbrev pub an_entry : ℕ → Tag → Spot
an_entry id tag = record { depth = 0; id = id; tag = tag }

-- a furthest block stands in the stack above the formatting element, which has that depth
abbrev pub untangled : ℕ → Tag → ℕ → Seat → Split → Place → Split
untangled id tag depth block v where_ =
    with_adopted (adopted (ref_of (is_some v.page)) where_ (an_entry id tag) block (take depth v.change.stack) v.change.formatting v.change.made) (below_depth depth v)

abbrev pub untangle_plan : Bool → ℕ → Tag → ℕ → Seat → Split → Plan Split
untangle_plan fostering id tag depth block v = followed_by (place_plan fostering (below_depth depth v)) (λ w. gives (untangled id tag depth block v w))

-- the block by its depth
abbrev pub seat_at : ℕ → List OpenElement → Option Seat
seat_at block es = option_map (λ e. record { depth = block; element = e }) (slice_get es block)

abbrev pub untangle_in : Bool → ℕ → Tag → ℕ → Split → Option Seat → Plan Split
untangle_in fostering id tag depth v None = gives v
untangle_in fostering id tag depth v (Some block) = untangle_plan fostering id tag depth block v

abbrev pub untangle_at : Bool → ℕ → Tag → ℕ → ℕ → Split → Plan Split
untangle_at fostering id tag depth block v = untangle_in fostering id tag depth v (seat_at block v.change.stack)

abbrev pub block_turn : Bool → ℕ → Tag → ℕ → Split → Option Seat → Plan Turned
block_turn fostering id tag depth v None = gives (record { split = struck id (own_popped (depth + 1) v); goes_on = false })
block_turn fostering id tag depth v (Some block) = followed_by (untangle_plan fostering id tag depth block v) (λ w. gives (record { split = w; goes_on = true }))

abbrev pub stays : Split → Plan Turned
stays v = gives (record { split = v; goes_on = false })

-- the formatting element is an own one
abbrev pub own_turn : Bool → ℕ → Tag → Split → Walk → Plan Turned
own_turn fostering id tag v (Found depth) = if hides (take depth v.change.stack) then stays v else block_turn fostering id tag depth v (furthest (take depth v.change.stack))
own_turn fostering id tag v _ = stays (struck id v)

abbrev pub entry_turn : Bool → Split → Option FormattingEntry → Plan Turned
entry_turn fostering v (Some (Element id tag)) = own_turn fostering id tag v (id_walk id v.change.stack)
entry_turn fostering v _ = stays v

abbrev pub walk_turn : List ℕ → Split → Plan Turned
walk_turn name v = followed_by (walk_plan name v) (λ w. gives (record { split = w; goes_on = false }))

-- by how the older entry stands: a turn that has to change older elements crosses
abbrev pub kind_turn : List ℕ → Split → EntryKind → Plan Turned
kind_turn name v Absent = walk_turn name v
kind_turn name v Closed = crosses X1
kind_turn name v Hidden = stays v
kind_turn name v InScope = if hides v.change.stack then stays v else crosses X1

abbrev pub older_turn : List ℕ → Split → Plan Turned
older_turn name v = followed_by (ask_listed v.change.popped v.change.cuts name) (λ s. kind_turn name v s.kind)

abbrev pub turn_on : Bool → List ℕ → Split → Walk → Plan Turned
turn_on fostering name v (Found k) = entry_turn fostering v (slice_get v.change.formatting k)
turn_on fostering name v Stopped = walk_turn name v
turn_on fostering name v PastAll = older_turn name v

abbrev pub turn_plan : Bool → List ℕ → Split → Plan Turned
turn_plan fostering name v = turn_on fostering name v (entry_walk name v.change.formatting)

abbrev pub turns_on : (Split → Plan Split) → Split → Bool → Plan Split
turns_on next v true = next v
turns_on next v false = gives v

-- at most so many turns
unfoldable pub turns_plan : ℕ → Bool → List ℕ → Split → Plan Split
turns_plan zero fostering name v = gives v
turns_plan (suc n) fostering name v = followed_by (turn_plan fostering name v) (λ t. turns_on (turns_plan n fostering name) t.split t.goes_on)

-- has the older current node the name and no entry
abbrev pub plain_older : List ℕ → Split → Bool → Plan Bool
plain_older name v false = gives false
plain_older name v true = followed_by (ask_listed v.change.popped v.change.cuts name) (λ s. gives (not s.top))

abbrev pub plain_below : List ℕ → Split → Plan Bool
plain_below name v = followed_by (current_is_plan (kinds.Html name) v) (plain_older name v)

abbrev pub plain_on : List ℕ → Split → List OpenElement → Plan Bool
plain_on name v [] = plain_below name v
plain_on name v (e ∷ es) = gives (is_html e && bytes_eq name e.name && not (has_entry e.id v.change.formatting))

-- has the current node the name and no entry
abbrev pub is_plain_plan : List ℕ → Split → Plan Bool
is_plain_plan name v = plain_on name v v.change.stack

abbrev pub adopt_by : Bool → List ℕ → Split → Bool → Plan Split
adopt_by fostering name v true = pop_plan v
adopt_by fostering name v false = turns_plan 8 fostering name v

abbrev pub adopt_plan : Bool → List ℕ → Split → Plan Split
adopt_plan fostering name v = followed_by (is_plain_plan name v) (adopt_by fostering name v)
