-- A claimed chunk is on the board, and open.
use Rattle.hp_board.proofs.Posting.{yours-undone, yours-within}
use Rattle.hp_board.proofs.board.Board.yours_open.Goals as goal

pub returns-clause-within : goal.returns-clause-within
returns-clause-within c = yours-within c.args.self.now c.args.worker c.args.chunk c.requires

pub returns-clause-undone : goal.returns-clause-undone
returns-clause-undone c = yours-undone c.args.self.now c.args.worker c.args.chunk c.kept.ensures.kept c.requires
