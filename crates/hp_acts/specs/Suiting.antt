-- That each act and each test on a token's way suits, up to the first act that touches something older than s: what is asked of
-- it holds in the state in which it is carried out.
use Rattle.std.specs.Prelude.{ℕ, zero, suc, Bool, true, false, ◌&&◌, ◌||◌, if◌then◌else◌}
use Rattle.hp_elements.specs.Rules.{Plan, ends, ◌⨾◌, when, unless, plan_for}
use Rattle.hp_elements.specs.Tokens.{kind_of}
use Rattle.hp_elements.specs.declared.act.Act.{Act}
use Rattle.hp_elements.specs.declared.act.Act.TheVariants as act
use Rattle.hp_elements.specs.declared.act.Test.{Test}
use Rattle.hp_elements.specs.declared.token.Mode.{Mode}
use Rattle.hp_elements.specs.declared.token.Token.{Token}
use Rattle.hp_control.specs.Foreign.{is_foreign}
use Rattle.hp_control.specs.Outcome.{touches_any}
use Rattle.hp_control.specs.States.{ControlState}
use Rattle.hp_rules_rest.specs.Foreign.{foreign}
use Rattle.hp_rules_rest.specs.Whole.{every_mode_rows}
use Rattle.hp_model.specs.Finding.{nothing_missing}
use Rattle.hp_model.specs.Rows.{carry, entering, mode_turn, nothing_more, rules, turn}
use Rattle.hp_model.specs.Steps.{holds}
use Rattle.hp_model.specs.Turns.{Turn, goes_on, done, again, left_by}

-- what is asked of the rest of a row, where it goes on and nothing older was touched
abbrev pub while_own : ControlState → Turn → (ControlState → Bool) → Bool
while_own s (goes_on h) rest = touches_any s h.outcome || rest (left_by h)
while_own s (done h) rest = true
while_own s (again t h) rest = true

-- what is asked of the token's handling where it is handled again, and nothing older was touched
abbrev pub where_again : ControlState → Turn → (Token → ControlState → Bool) → Bool
where_again s (goes_on h) rest = true
where_again s (done h) rest = true
where_again s (again t h) rest = touches_any s h.outcome || rest t (left_by h)

-- what is asked of an act, with fostering on or off, and of a test
module _ (s : ControlState) (of_act : Bool → Token → Act → ControlState → Bool) (of_test : Test → ControlState → Bool) where
  module _ (t : Token) where
    module _ (follow : Bool → Mode → ControlState → Turn) (present : ControlState → Turn) (follow_suits : Bool → Mode → ControlState → Bool) (present_suits : ControlState → Bool) (fostering : Bool) where
      abbrev pub act_suits : Act → ControlState → Bool
      act_suits (act.As m) c = follow_suits fostering m c
      act_suits (act.AsFostered m) c = follow_suits true m c
      act_suits act.AsPresent c = present_suits c
      act_suits other c = of_act fostering t other c

      -- rest: what is asked of the rest of the row behind the plan
      abbrev pub plan_suits : Plan → (ControlState → Bool) → ControlState → Bool
      plan_suits ends rest c = rest c
      plan_suits (a ⨾ plan) rest c = act_suits a c && while_own s (carry follow present fostering t a c) (plan_suits plan rest)
      plan_suits (when test plan others) rest c = of_test test c && (if holds t test c then plan_suits plan (plan_suits others rest) c else plan_suits others rest c)
      plan_suits (unless test plan others) rest c = of_test test c && (if holds t test c then plan_suits others rest c else plan_suits plan (plan_suits others rest) c)

    unfoldable pub rules_suit : ℕ → Bool → Mode → ControlState → Bool
    rules_suit zero fostering m c = true
    rules_suit (suc depth) fostering m c = plan_suits (rules depth t) nothing_more (rules_suit depth) nothing_missing fostering (plan_for (every_mode_rows m) (kind_of t)) nothing_missing c

    unfoldable pub turn_suits : ControlState → Bool
    turn_suits c =
        touches_any s (entering c).outcome
        || (if is_foreign (kind_of t) c.stack
        then plan_suits (rules 4 t) (mode_turn t c.mode) (rules_suit 4) (rules_suit 4 false c.mode) false (plan_for foreign (kind_of t)) nothing_missing c
        else rules_suit 4 false c.mode c)

  -- at most so many turns of a token
  unfoldable pub turns_suit : ℕ → Token → ControlState → Bool
  turns_suit zero t c = true
  turns_suit (suc n) t c = turn_suits t c && where_again s (turn t c) (turns_suit n)
