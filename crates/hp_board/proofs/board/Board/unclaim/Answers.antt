-- The chunk is as it was before its claim.
use Rattle.std.proofs.Common.{sym}
use Rattle.hp_board.specs.Desk.{slot_at}
use Rattle.hp_board.proofs.Claiming.{claimed-within, released-fits}
use Rattle.hp_board.proofs.Fairness.{fair-released}
use Rattle.hp_board.proofs.board.Board.unclaim.Goals as goal

pub put-requires-clause-within : goal.put-requires-clause-within
put-requires-clause-within c = claimed-within c.args.self.now c.args.chunk c.in-Some.before (sym c.in-Some.ensures)

pub put-requires-clause-fits : goal.put-requires-clause-fits
put-requires-clause-fits c =
    let desk = c.args.self.now in
    let e = sym c.in-Some.ensures in
    released-fits desk c.args.chunk c.args.tally.now.worker (slot_at desk c.args.chunk) c.in-Some.before (c.kept.ensures.kept.slots c.args.chunk (claimed-within desk c.args.chunk c.in-Some.before e)) e

pub put-requires-clause-fair : goal.put-requires-clause-fair
put-requires-clause-fair c = let desk = c.args.self.now in fair-released desk.text desk.cuts desk.journal c.args.tally.now.worker c.args.chunk
