use Rattle.std.proofs.Common.{drop, sym, ap, ◌∙◌, arith}
use Rattle.hp_views.specs.Walks.{deeper}
use Rattle.hp_views.proofs.OpenWalks.{none_above}
use Rattle.hp_views.proofs.walks.open_walk.Goals as goal

pub returns-then-highest_from-id-clause-walk : goal.returns-then-highest_from-id-clause-walk
returns-then-highest_from-id-clause-walk c =
    ap (deeper c.loop-depth.depth) (sym (none_above c.args.id (drop c.loop-depth.depth c.args.stack.now) (omega (arith, c.if-highest_from-id.true, c.highest_from.ensures))))
    ∙ c.loop-depth.invariant
