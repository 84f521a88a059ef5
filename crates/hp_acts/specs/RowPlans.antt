-- What a row asks and changes, act by act from a place on; the rules of a mode; and a turn of a token, which begins with
-- dispatch (13.2.6).
use Rattle.std.specs.Prelude.{ℕ, zero, suc, ◌+◌, nat_lt, Bool, true, false, if◌then◌else◌, List, [], ◌∷◌, Option, None, Some}
use Rattle.hp_elements.specs.Rules.{acts_for}
use Rattle.hp_elements.specs.Tokens.{kind_of}
use Rattle.hp_elements.specs.declared.act.Act.{Act}
use Rattle.hp_elements.specs.declared.act.Act.TheVariants as act
use Rattle.hp_elements.specs.declared.token.Mode.{Mode}
use Rattle.hp_elements.specs.declared.token.Rest.{Rest}
use Rattle.hp_elements.specs.declared.token.Token.{Token}
use Rattle.hp_control.specs.declared.question.Crossing.TheVariants.{X4}
use Rattle.hp_control.specs.Faithful.{Split, Page}
use Rattle.hp_control.specs.Plan.{Plan, gives, crosses, followed_by}
use Rattle.hp_foreign.specs.Plans.{goes_plan}
use Rattle.hp_model.specs.Rows.{is_head_mode}
use Rattle.hp_model.specs.Tokens.{as_start}
use Rattle.hp_rules_rest.specs.Foreign.{foreign}
use Rattle.hp_rules_rest.specs.Whole.{every_mode_rows}
use Rattle.hp_acts.specs.declared.turns.Handled.{Handled}
use Rattle.hp_acts.specs.Plans.{act_plan, by_plan, test_plan}

-- how far a token's handling is: what it changed, and what it asks of the parser
pub record Reached : Type 0 where
  pub split : Split
  pub handled : Handled

abbrev pub changed : Reached → Split → Reached
changed r v = record r { split = v }

abbrev pub stopping : Reached → Reached
stopping r = record r { handled = record r.handled { stopped = true } }

abbrev pub switching : Rest → Reached → Reached
switching rest r = record r { handled = record r.handled { switch = Some rest } }

-- a row ends, or a token is handled again
pub data Came : Type 0 where
  left : Reached → Came
  again : Token → Reached → Came

-- behind rules of a mode that a row uses, the row goes on
abbrev pub where_left : (Reached → Plan Came) → Came → Plan Came
where_left next (left r) = next r
where_left next (again t r) = gives (again t r)

-- follow: the rules of a mode, with fostering on or off; present: those of the mode in which the turn began; go: the rest of
-- the row from a place on
module _ (follow : Bool → Mode → Reached → Plan Came) (present : Reached → Plan Came) (fostering : Bool) (t : Token) where
  -- the act at a place, and then the rest of its row
  abbrev pub act_then : Act → ℕ → (ℕ → Reached → Plan Came) → Reached → Plan Came
  act_then act.Done at go r = gives (left r)
  act_then act.Again at go r = gives (again t r)
  act_then (act.AgainAs name) at go r = gives (again (as_start name t) r)
  act_then (act.As m) at go r = followed_by (follow fostering m r) (where_left (go (at + 1)))
  act_then (act.AsFostered m) at go r = followed_by (follow true m r) (where_left (go (at + 1)))
  act_then act.AsPresent at go r = followed_by (present r) (where_left (go (at + 1)))
  act_then (act.If test otherwise) at go r = followed_by (test_plan t test r.split) (λ holds. go (if holds then at + 1 else otherwise) r)
  act_then (act.Unless test otherwise) at go r = followed_by (test_plan t test r.split) (λ holds. go (if holds then otherwise else at + 1) r)
  act_then act.Stop at go r = go (at + 1) (stopping r)
  act_then (act.Lexer rest) at go r = go (at + 1) (switching rest r)
  act_then other at go r = followed_by (by_plan (act_plan fostering t other) r.split) (λ v. go (at + 1) (changed r v))

  -- the acts of a row, of which the first stands at a place; those before the place next are passed over
  abbrev pub acts_plan : ℕ → ℕ → List Act → Reached → Plan Came
  acts_plan at next [] r = gives (left r)
  acts_plan at next (a ∷ acts) r =
      if nat_lt at next then acts_plan (at + 1) next acts r
      else act_then a at (λ place. acts_plan (at + 1) place acts) r

abbrev pub nothing_more : Reached → Plan Came
nothing_more r = gives (left r)

-- the rules of a mode, where those of others are used so many modes deep
unfoldable pub rules_plan : ℕ → Token → Bool → Mode → Reached → Plan Came
rules_plan zero t fostering m r = gives (left r)
rules_plan (suc depth) t fostering m r = acts_plan (rules_plan depth t) nothing_more fostering t 0 0 (acts_for (every_mode_rows m) (kind_of t)) r

-- the rules of a mode for a token that isn't foreign content, and those of foreign content in a mode
abbrev pub mode_plan : Token → Mode → Reached → Plan Came
mode_plan t m = rules_plan 4 t false m

abbrev pub foreign_plan : Token → Mode → Reached → Plan Came
foreign_plan t m = acts_plan (rules_plan 4 t) (mode_plan t m) false t 0 0 (acts_for foreign (kind_of t))

abbrev pub dispatched : Token → Mode → Reached → Bool → Plan Came
dispatched t m r is_foreign = if is_foreign then foreign_plan t m r else mode_plan t m r

-- over an unknown older state no token is handled in a mode before the body
abbrev pub is_early : Option Page → Mode → Bool
is_early None m = is_head_mode m
is_early (Some page) m = false

unfoldable pub turn_plan : Token → Reached → Plan Came
turn_plan t r =
    if is_early r.split.page r.split.change.mode then crosses X4
    else followed_by (goes_plan (kind_of t) r.split) (dispatched t r.split.change.mode r)
