-- That an act, a test, an act of a row at its place, or a whole row was carried out on a view.
use Rattle.std.specs.Prelude.{◌≡◌, ℕ, ◌+◌, ◌⊎◌, Bool, true, false, not, List, Option, Some, None, Result, Ok, Err}
use Rattle.hp_elements.specs.declared.act.Act.{Act}
use Rattle.hp_elements.specs.declared.act.Act.TheVariants as act
use Rattle.hp_elements.specs.declared.act.Act.TheVariants.{If, Unless}
use Rattle.hp_elements.specs.declared.token.Mode.{Mode}
use Rattle.hp_elements.specs.declared.token.Token.{Token}
use Rattle.hp_control.specs.declared.change.Refusal.{Refusal}
use Rattle.hp_control.specs.declared.change.Refusal.TheVariants.{Crossed, NoMemory}
use Rattle.hp_control.specs.Faithful.{Split}
use Rattle.hp_control.specs.Plan.{Plan, gives, followed_by, Heard, Runs}
use Rattle.hp_control.specs.Running.{Partway}
use Rattle.hp_views.specs.View.{Sight, Carries, Answers, split_of}
use Rattle.hp_views.specs.declared.view.View.{View}
use Rattle.hp_acts.specs.declared.turns.Next.{Next}
use Rattle.hp_acts.specs.declared.turns.Next.TheVariants.{At, Rules, Done, Again}
use Rattle.hp_acts.specs.declared.turns.Turn.{Turn}
use Rattle.hp_acts.specs.Plans.{act_plan, test_plan}
use Rattle.hp_acts.specs.RowPlans.{Reached, Came, left, again, acts_plan, nothing_more, rules_plan, where_left}
use Rattle.hp_acts.specs.Spending.{IsLeftOf}

-- by the plan, where there is one
abbrev pub CarriesBy : Result (Unit {0}) Refusal → Sight → Sight → Option (Split → Plan Split) → Type 0
CarriesBy result old new None = Unit {0}
CarriesBy result old new (Some plan) = Carries result old new plan

abbrev pub unit_of : Result Bool Refusal → Result (Unit {0}) Refusal
unit_of (Ok b) = Ok tt
unit_of (Err e) = Err e

-- a test answers whether it holds, or whether it doesn't; any other act answers yes
abbrev pub Carried : Bool → Token → Act → Result Bool Refusal → Sight → Sight → Type 0
Carried fostering t (If test otherwise) result old new = Answers result old new (test_plan t test)
Carried fostering t (Unless test otherwise) result old new = Answers result old new (λ v. followed_by (test_plan t test v) (λ b. gives (not b)))
Carried fostering t act result old new = CarriesBy (unit_of result) old new (act_plan fostering t act)

-- how far a turn is, on its view
abbrev pub reached : {B : Type 0} → View B → Turn → Reached
reached view turn = record { split = split_of view; handled = turn.handled }

-- the rules of the mode in which a turn began, where a row may use them
abbrev pub present_plan : (Bool → Mode → Reached → Plan Came) → Option Mode → Reached → Plan Came
present_plan follow None = nothing_more
present_plan follow (Some m) = follow false m

-- what is left of a row behind an act, where go tells its rest from a place on
abbrev pub going : (Bool → Mode → Reached → Plan Came) → (ℕ → Reached → Plan Came) → ℕ → Reached → Token → Next → Plan Came
going follow go at r t (At place) = go place r
going follow go at r t (Rules m fostering) = followed_by (follow fostering m r) (where_left (go (at + 1)))
going follow go at r t Done = gives (left r)
going follow go at r t Again = gives (again t r)

-- the act was carried out, and so much of its row is left; or the row crosses so, or memory is wanting
abbrev pub Goes : Result Next Refusal → Heard → Heard → Plan Came → (Next → Plan Came) → Type 0
Goes (Ok next) old new whole rest = Partway old new whole (rest next)
Goes (Err (Crossed crossing)) old new whole rest = Runs old new whole (Err crossing)
Goes (Err NoMemory) old new whole rest = Unit {0}

-- the places where a row goes on behind an act that stands at a place
abbrev pub IsWay : Act → ℕ → ℕ → Type 0
IsWay act.Done at place = ⊥
IsWay act.Again at place = ⊥
IsWay (act.AgainAs name) at place = ⊥
IsWay (act.If test otherwise) at place = (place ≡ at + 1) ⊎ (place ≡ otherwise)
IsWay (act.Unless test otherwise) at place = (place ≡ at + 1) ⊎ (place ≡ otherwise)
IsWay _ at place = place ≡ at + 1

abbrev pub UsesRules : Act → Type 0
UsesRules (act.As m) = Unit {0}
UsesRules (act.AsFostered m) = Unit {0}
UsesRules act.AsPresent = Unit {0}
UsesRules _ = ⊥

abbrev pub GoesBy : Act → ℕ → Next → Type 0
GoesBy a at (At place) = IsWay a at place
GoesBy a at (Rules m fostering) = UsesRules a
GoesBy a at _ = Unit {0}

-- what is left of the token where its row goes on; all of it, where it is to be whole
abbrev pub Stays : Bool → Token → Token → Next → Type 0
Stays whole old new (At place) = IsLeftOf old new × (whole ≡ true → new ≡ old)
Stays whole old new (Rules m fostering) = new ≡ old
Stays whole old new Done = new ≡ old
Stays whole old new Again = Unit {0}

-- a row for a token, where the rules of other modes are used so many deep
abbrev pub row_plan : ℕ → Option Mode → Bool → Token → ℕ → ℕ → List Act → Reached → Plan Came
row_plan depth present fostering t = acts_plan (rules_plan depth t) (present_plan (rules_plan depth t) present) fostering t

-- a row, or a whole turn, was carried out; or it crosses so, or memory is wanting
abbrev pub Comes : Result Bool Refusal → Heard → Heard → Plan Came → Token → Reached → Type 0
Comes (Ok false) old new plan t r = Runs old new plan (Ok (left r))
Comes (Ok true) old new plan t r = Runs old new plan (Ok (again t r))
Comes (Err (Crossed crossing)) old new plan t r = Runs old new plan (Err crossing)
Comes (Err NoMemory) old new plan t r = Unit {0}
