-- There are as many chunks as slots.
use Rattle.std.proofs.Common.{arith, ◌≡◌, ◌∙◌, subst, sym, length}
use Rattle.hp_board.specs.Desk.{Desk}
use Rattle.hp_board.proofs.board.Board.chunks.Goals as goal

pub returns-clause-count : goal.returns-clause-count
returns-clause-count c = subst (λ (d : Desk). c.chunks.result ≡ length d.slots) c.self.view_is (c.chunks.ensures ∙ sym c.self.invariant.0.count)

pub returns-clause-few : goal.returns-clause-few
returns-clause-few c = omega (arith, c.chunks.ensures, c.self.invariant.0.lawful.few)
