-- What suits on the way of as many turns as a token takes suits on that of more.
use Rattle.std.proofs.Common.{◌≡◌, ℕ, zero, suc, ◌<◌, ◌≤◌, Bool, true, false, ◌||◌, ◌&&◌, refl, ap, ◌∙◌, arith}
use Rattle.hp_elements.specs.declared.act.Act.{Act}
use Rattle.hp_elements.specs.declared.act.Test.{Test}
use Rattle.hp_elements.specs.declared.token.Token.{Token}
use Rattle.hp_control.specs.Outcome.{touches_any}
use Rattle.hp_control.specs.States.{ControlState, IsValid}
use Rattle.hp_model.specs.Handling.{bound}
use Rattle.hp_model.specs.Rows.{turn}
use Rattle.hp_model.specs.Turns.{Turn, goes_on, done, again, left_by}
use Rattle.hp_model.specs.Whole.{IsRead}
use Rattle.hp_model.proofs.Handled.{Leaves, below_bound, turn-leaves, weigh, weigh-more}
use Rattle.hp_acts.specs.Suiting.{turn_suits, turns_suit, where_again}

module _ (s : ControlState) (of_act : Bool → Token → Act → ControlState → Bool) (of_test : Test → ControlState → Bool) where
  enough_suit : (n k : ℕ) (t : Token) (c : ControlState) → IsRead t → IsValid c → weigh t c < n → weigh t c < k → turns_suit s of_act of_test n t c ≡ turns_suit s of_act of_test k t c
  unfolding turns_suit
  enough_suit zero k t c read v h g = absurd (omega arith)
  enough_suit (suc n) zero t c read v h g = absurd (omega arith)
  enough_suit (suc n) (suc k) t c read v h g = ap (λ b. turn_suits s of_act of_test t c && b) (go (turn t c) (turn-leaves t c read v) (enough_suit n k))
    where
      go : (u : Turn) → Leaves (weigh t c) u
          → ((other : Token) (d : ControlState) → IsRead other → IsValid d → weigh other d < n → weigh other d < k → turns_suit s of_act of_test n other d ≡ turns_suit s of_act of_test k other d)
          → where_again s u (turns_suit s of_act of_test n) ≡ where_again s u (turns_suit s of_act of_test k)
      go (goes_on r) l rest = refl
      go (done r) l rest = refl
      go (again other r) l rest =
          let f : weigh other (left_by r) < weigh t c = l.1 in
          ap (λ b. touches_any s r.outcome || b) (rest other (left_by r) l.2 l.0 (omega arith) (omega arith))

  pub suits_more : (n : ℕ) (t : Token) (c : ControlState) → IsRead t → IsValid c → bound c ≤ n → turns_suit s of_act of_test (bound c) t c ≡ true → turns_suit s of_act of_test n t c ≡ true
  suits_more n t c read v h m = enough_suit n (bound c) t c read v (weigh-more n t c h) (below_bound t c) ∙ m
