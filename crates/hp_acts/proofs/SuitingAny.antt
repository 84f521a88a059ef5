-- Where nothing is asked of an act or of a test, each suits.
use Rattle.std.proofs.Common.{◌≡◌, ℕ, zero, suc, Bool, true, false, ◌||◌, refl}
use Rattle.std.specs.Prelude.{if◌then◌else◌}
use Rattle.std.proofs.lemmas.Bool.{and_from}
use Rattle.hp_elements.specs.Rules.{Plan, ends, ◌⨾◌, when, unless, plan_for}
use Rattle.hp_elements.specs.Tokens.{kind_of}
use Rattle.hp_elements.specs.declared.act.Act.{Act}
use Rattle.hp_elements.specs.declared.act.Act.TheVariants as act
use Rattle.hp_elements.specs.declared.act.Test.{Test}
use Rattle.hp_elements.specs.declared.token.Mode.{Mode}
use Rattle.hp_elements.specs.declared.token.Token.{Token}
use Rattle.hp_control.specs.Foreign.{is_foreign}
use Rattle.hp_control.specs.Outcome.{touches_any}
use Rattle.hp_control.specs.States.{ControlState}
use Rattle.hp_rules_rest.specs.Foreign.{foreign}
use Rattle.hp_rules_rest.specs.Whole.{every_mode_rows}
use Rattle.hp_model.specs.Finding.{nothing_missing}
use Rattle.hp_model.specs.Rows.{carry, entering, mode_turn, nothing_more, rules, turn}
use Rattle.hp_model.specs.Steps.{holds}
use Rattle.hp_model.specs.Turns.{Turn, goes_on, done, again, left_by}
use Rattle.hp_acts.specs.Suiting.{act_suits, plan_suits, rules_suit, turn_suits, turns_suit, where_again, while_own}

abbrev pub any_act : Bool → Token → Act → ControlState → Bool
any_act fostering t a c = true

abbrev pub any_test : Test → ControlState → Bool
any_test x c = true

or_any : (a b : Bool) → b ≡ true → (a || b) ≡ true
or_any true b h = refl
or_any false b h = h

goes_any : (s : ControlState) (u : Turn) (rest : ControlState → Bool) → ((c : ControlState) → rest c ≡ true) → while_own s u rest ≡ true
goes_any s (goes_on h) rest all = or_any (touches_any s h.outcome) (rest (left_by h)) (all (left_by h))
goes_any s (done h) rest all = refl
goes_any s (again t h) rest all = refl

either_way : (b a c : Bool) → a ≡ true → c ≡ true → (if b then a else c) ≡ true
either_way true a c h k = h
either_way false a c h k = k

again_any : (s : ControlState) (u : Turn) (rest : Token → ControlState → Bool) → ((t : Token) (c : ControlState) → rest t c ≡ true) → where_again s u rest ≡ true
again_any s (goes_on h) rest all = refl
again_any s (done h) rest all = refl
again_any s (again t h) rest all = or_any (touches_any s h.outcome) (rest t (left_by h)) (all t (left_by h))

module _ (s : ControlState) (t : Token) where
  module _ (follow : Bool → Mode → ControlState → Turn) (present : ControlState → Turn) (follow_suits : Bool → Mode → ControlState → Bool) (present_suits : ControlState → Bool)
      (all_follow : (f : Bool) (m : Mode) (c : ControlState) → follow_suits f m c ≡ true) (all_present : (c : ControlState) → present_suits c ≡ true) (fostering : Bool) where
    act_any : (a : Act) (c : ControlState) → act_suits s any_act any_test t follow present follow_suits present_suits fostering a c ≡ true
    act_any (act.As m) c = all_follow fostering m c
    act_any (act.AsFostered m) c = all_follow true m c
    act_any act.AsPresent c = all_present c
    act_any _ c = refl

    plan_any : (plan : Plan) (rest : ControlState → Bool) → ((c : ControlState) → rest c ≡ true) → (c : ControlState) → plan_suits s any_act any_test t follow present follow_suits present_suits fostering plan rest c ≡ true
    plan_any ends rest all c = all c
    plan_any (a ⨾ plan) rest all c =
        and_from (act_suits s any_act any_test t follow present follow_suits present_suits fostering a c) (while_own s (carry follow present fostering t a c) (plan_suits s any_act any_test t follow present follow_suits present_suits fostering plan rest)) (act_any a c)
        (goes_any s (carry follow present fostering t a c) (plan_suits s any_act any_test t follow present follow_suits present_suits fostering plan rest) (plan_any plan rest all))
    plan_any (when test plan others) rest all c =
        either_way (holds t test c) (plan_suits s any_act any_test t follow present follow_suits present_suits fostering plan (plan_suits s any_act any_test t follow present follow_suits present_suits fostering others rest) c) (plan_suits s any_act any_test t follow present follow_suits present_suits fostering others rest c)
        (plan_any plan (plan_suits s any_act any_test t follow present follow_suits present_suits fostering others rest) (plan_any others rest all) c) (plan_any others rest all c)
    plan_any (unless test plan others) rest all c =
        either_way (holds t test c) (plan_suits s any_act any_test t follow present follow_suits present_suits fostering others rest c) (plan_suits s any_act any_test t follow present follow_suits present_suits fostering plan (plan_suits s any_act any_test t follow present follow_suits present_suits fostering others rest) c)
        (plan_any others rest all c) (plan_any plan (plan_suits s any_act any_test t follow present follow_suits present_suits fostering others rest) (plan_any others rest all) c)

  rules_any : (depth : ℕ) (fostering : Bool) (m : Mode) (c : ControlState) → rules_suit s any_act any_test t depth fostering m c ≡ true
  unfolding rules_suit
  rules_any zero fostering m c = refl
  rules_any (suc depth) fostering m c = plan_any (rules depth t) nothing_more (rules_suit s any_act any_test t depth) nothing_missing (rules_any depth) (λ r. refl) fostering (plan_for (every_mode_rows m) (kind_of t)) nothing_missing (λ r. refl) c

  turn_any : (c : ControlState) → turn_suits s any_act any_test t c ≡ true
  unfolding turn_suits
  turn_any c =
      or_any (touches_any s (entering c).outcome)
      (if is_foreign (kind_of t) c.stack then plan_suits s any_act any_test t (rules 4 t) (mode_turn t c.mode) (rules_suit s any_act any_test t 4) (rules_suit s any_act any_test t 4 false c.mode) false (plan_for foreign (kind_of t)) nothing_missing c else rules_suit s any_act any_test t 4 false c.mode c)
      (either_way (is_foreign (kind_of t) c.stack) (plan_suits s any_act any_test t (rules 4 t) (mode_turn t c.mode) (rules_suit s any_act any_test t 4) (rules_suit s any_act any_test t 4 false c.mode) false (plan_for foreign (kind_of t)) nothing_missing c) (rules_suit s any_act any_test t 4 false c.mode c)
      (plan_any (rules 4 t) (mode_turn t c.mode) (rules_suit s any_act any_test t 4) (rules_suit s any_act any_test t 4 false c.mode) (rules_any 4) (rules_any 4 false c.mode) false (plan_for foreign (kind_of t)) nothing_missing (λ r. refl) c) (rules_any 4 false c.mode c))

pub turns_any : (s : ControlState) (n : ℕ) (t : Token) (c : ControlState) → turns_suit s any_act any_test n t c ≡ true
unfolding turns_suit
turns_any s zero t c = refl
turns_any s (suc n) t c = and_from (turn_suits s any_act any_test t c) (where_again s (turn t c) (turns_suit s any_act any_test n)) (turn_any s t c) (again_any s (turn t c) (turns_suit s any_act any_test n) (turns_any s n))
