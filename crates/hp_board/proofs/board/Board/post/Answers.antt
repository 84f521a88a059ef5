-- The posted fragment fits its chunk.
use Rattle.std.proofs.Common.{arith, ℕ, subst}
use Rattle.hp_board.specs.Calls.{IsPostable}
use Rattle.hp_board.proofs.Posting.{postable_parts, fits-posted}
use Rattle.hp_board.proofs.board.Board.post.Goals as goal

pub put-requires-clause-fits : goal.put-requires-clause-fits
put-requires-clause-fits c =
    let desk = c.args.self.now in
    let can : IsPostable desk c.args.tally.now.worker c.args.chunk c.args.fragment = subst (λ (w : ℕ). IsPostable desk w c.args.chunk c.args.fragment) c.worker.ensures c.in_default.ensures in
    rw (c.covered-covered.ensures.covered, c.origin-by.ensures) (fits-posted desk c.args.tally.now.worker c.args.chunk c.args.fragment c.kept.ensures.kept can)

pub put-requires-clause-owes : goal.put-requires-clause-owes
put-requires-clause-owes c = let parts = postable_parts c.args.self.now c.worker.result c.args.chunk c.args.fragment c.kept.ensures.kept c.in_default.ensures in omega (arith, parts.1)

pub put-requires-clause-fair : goal.put-requires-clause-fair
put-requires-clause-fair c =
    rw (c.covered-covered.ensures.covered, c.origin-by.ensures) (c.stays_fair.ensures.posts c.args.self.now c.args.chunk c.args.tally.now.worker c.args.fragment c.kept.ensures.kept c.told.ensures)
