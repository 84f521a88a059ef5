-- How a row goes on after an act, and that a token was handled.
use Rattle.std.specs.Prelude.{ℕ, ◌<◌, true, false, None, Result, Ok, Err}
use Rattle.hp_elements.specs.declared.kinds.Kinds.TheVariants as kinds
use Rattle.hp_control.specs.declared.change.Refusal.{Refusal}
use Rattle.hp_control.specs.declared.change.Refusal.TheVariants.{Crossed, NoMemory}
use Rattle.hp_control.specs.Faithful.{Split}
use Rattle.hp_control.specs.Plan.{Plan, Runs}
use Rattle.hp_views.specs.StackPlans.{current_is_plan}
use Rattle.hp_views.specs.View.{Finds, Sight}
use Rattle.hp_acts.specs.declared.turns.Handled.{Handled}
use Rattle.hp_acts.specs.declared.turns.Next.{Next}
use Rattle.hp_acts.specs.declared.turns.Next.TheVariants.{At}
use Rattle.hp_acts.specs.RowPlans.{Reached}

-- what comes next stands behind that place
abbrev pub GoesLater : ℕ → Next → Type 0
GoesLater at (At next) = at < next
GoesLater at _ = Unit {0}

-- nothing is asked of the parser
abbrev pub nothing_asked : Handled
nothing_asked = record { switch = None; stopped = false }

abbrev pub unskipped : Split → Split
unskipped v = record v { change = record v.change { skip_lf = false } }

-- the token was handled by the plan; or it crosses so, or memory is wanting
abbrev pub Handles : Result Handled Refusal → Sight → Sight → (Split → Plan Reached) → Type 0
Handles (Ok handled) old new plan = Runs old.heard new.heard (plan old.split) (Ok (record { split = new.split; handled = handled }))
Handles (Err (Crossed crossing)) old new plan = Runs old.heard new.heard (plan old.split) (Err crossing)
Handles (Err NoMemory) old new plan = Unit {0}

-- the same behind the question whether the older current node is HTML, which it is: that is asked before all else
abbrev pub HandlesBelow : Result Handled Refusal → Sight → Sight → (Split → Plan Reached) → Type 0
HandlesBelow result old new plan = (first : Sight) → Finds first old (current_is_plan kinds.AnyHtml) true → Handles result first new plan
