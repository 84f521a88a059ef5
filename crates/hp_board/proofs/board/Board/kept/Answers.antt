-- What the board keeps, and what that says of its front.
use Rattle.std.proofs.Common.{subst}
use Rattle.hp_board.specs.Desk.{Desk, IsKept}
use Rattle.hp_board.proofs.board.Board.kept.Goals as goal

pub returns-clause-kept : goal.returns-clause-kept
returns-clause-kept c = subst (λ (d : Desk). IsKept d) c.self.view_is c.self.invariant.0

pub returns-clause-fits : goal.returns-clause-fits
returns-clause-fits c =
    let desk = c.args.self.now in
    let kept = subst (λ (d : Desk). IsKept d) c.self.view_is c.self.invariant.0 in
    c.pages_at.ensures.fits desk.text desk.place desk.control desk.tree kept.at kept.limit
