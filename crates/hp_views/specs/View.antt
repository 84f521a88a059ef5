-- What a view shows, and what each call on it promises.
use Rattle.std.specs.Prelude.{◌≡◌, ℕ, Option, Result, Ok, Err}
use Rattle.std.specs.Option.{option_map}
use Rattle.hp_control.specs.declared.change.Refusal.{Refusal}
use Rattle.hp_control.specs.declared.change.Refusal.TheVariants.{Crossed, NoMemory}
use Rattle.hp_control.specs.Plan.{Plan, Heard, Runs}
use Rattle.hp_control.specs.Faithful.{Split, Page}
use Rattle.hp_control.specs.Steps.{Step}
use Rattle.hp_views.specs.StackPlans.{all_popped}
use Rattle.hp_views.specs.declared.view.View.{View}
use Rattle.hp_views.specs.declared.view.PageFacts.{PageFacts}

-- what was answered and kept, and what was changed
pub record Sight : Type 0 where
  pub heard : Heard
  pub split : Split

abbrev pub page_of : Option PageFacts → Option Page
page_of = option_map (λ p. record { head = p.head; quirks = p.quirks })

abbrev pub split_of : {B : Type 0} → View B → Split
split_of view = record { change = view.change; edits = view.edits; older_text = view.older_text; page = page_of view.page }

abbrev pub sight : {B : Type 0} → (B → Heard) → View B → Sight
sight heard view = record { heard = heard view.below; split = split_of view }

-- the plan was carried out, or it crosses so, or memory is wanting
abbrev pub Carries : Result (Unit {0}) Refusal → Sight → Sight → (Split → Plan Split) → Type 0
Carries (Ok _) old new plan = Runs old.heard new.heard (plan old.split) (Ok new.split)
Carries (Err (Crossed crossing)) old new plan = Runs old.heard new.heard (plan old.split) (Err crossing)
Carries (Err NoMemory) old new plan = Unit {0}

-- the same of a step, which has its law with it
abbrev pub Meets : Result (Unit {0}) Refusal → Sight → Sight → Step → Type 0
Meets result old new step = Carries result old new step.plan

-- it was found out and nothing was changed, or memory is wanting
pub record Finds {X : Type 0} (old new : Sight) (plan : Split → Plan X) (x : X) : Type 0 where
  pub runs : Runs old.heard new.heard (plan old.split) (Ok x)
  pub same : new.split ≡ old.split

abbrev pub Answers : {X : Type 0} → Result X Refusal → Sight → Sight → (Split → Plan X) → Type 0
Answers (Ok x) old new plan = Finds old new plan x
Answers (Err (Crossed crossing)) old new plan = ⊥
Answers (Err NoMemory) old new plan = Unit {0}

-- the same of a call that is no act: memory alone may be wanting
abbrev pub Knows : {X E : Type 0} → Result X E → Sight → Sight → (Split → Plan X) → Type 0
Knows (Ok x) old new plan = Finds old new plan x
Knows (Err e) old new plan = Unit {0}

-- one question was asked, and the answer read
abbrev pub Learns : {X E : Type 0} → Result X E → Heard → Heard → Plan X → Type 0
Learns (Ok x) old new plan = Runs old new plan (Ok x)
Learns (Err e) old new plan = Unit {0}

-- all own elements were popped, and so many older ones, and nothing was asked; or memory is wanting
abbrev pub PopsPast : {B : Type 0} → Result (Unit {0}) Refusal → ℕ → Split → B → Split → B → Type 0
PopsPast (Ok _) older old old_below new new_below = (new ≡ all_popped older old) × (new_below ≡ old_below)
PopsPast (Err (Crossed crossing)) older old old_below new new_below = ⊥
PopsPast (Err NoMemory) older old old_below new new_below = Unit {0}
