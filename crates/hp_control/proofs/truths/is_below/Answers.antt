use Rattle.std.proofs.Common.{◌≡◌, ◌-◌, ◌≤◌, ℕ, Option, Some, IsTrue, arith}
use Rattle.std.specs.Prelude.{◌==◌, ◌↔◌}
use Rattle.std.proofs.lemmas.Bool.{eqb-true, eq-eqb}
use Rattle.hp_control.specs.Truth.{IfSomeIs}
use Rattle.hp_control.proofs.truths.is_below.Goals as goal

told_there : (from k depth : ℕ) {found : Option ℕ} → found ≡ Some k → from ≤ depth → IsTrue (depth - from == k) ↔ IfSomeIs from found depth
told_there from k depth {found} e h = rw e (λ t. let f : depth - from ≡ k = eqb-true (depth - from) k t in omega arith, λ s. eq-eqb (depth - from) k (omega (arith, s)))

pub returns-then-depth-from : goal.returns-then-depth-from
returns-then-depth-from c = told_there c.args.from c.in-Some.found c.args.depth c.in-Some.is c.if-depth-from.true
