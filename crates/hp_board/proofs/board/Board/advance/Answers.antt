-- A judgement costs a look, and where it comes out a join.
use Rattle.std.proofs.Common.{arith, ◌+◌}
use Rattle.hp_board.specs.Desk.{slot_at}
use Rattle.hp_board.proofs.Costs.{look_and_join}
use Rattle.hp_board.proofs.board.Board.advance.Goals as goal

pub returns-in-Some-Holds-clause-cost : goal.returns-in-Some-Holds-clause-cost
returns-in-Some-Holds-clause-cost g c = omega (arith, c.looked_at.ensures.cost, c.commit.ensures.cost, look_and_join (slot_at c.args.self.now c.args.self.now.done))
