use Rattle.std.proofs.Common.{◌∙◌}
use Rattle.hp_workers.proofs.Going.{gone_further, gone_nowhere}
use Rattle.hp_workers.proofs.mains.finish_alone.Goals as goal

pub loop-alloc-init : goal.loop-alloc-init
loop-alloc-init c = gone_nowhere c.args.kind c.args.board.now c.args.tally.now c.requires.free

pub main_turn-requires-clause-main : goal.main_turn-requires-clause-main
main_turn-requires-clause-main c = c.loop-alloc.invariant.worker ∙ c.requires.main

pub loop-alloc-preserved : goal.loop-alloc-preserved
loop-alloc-preserved c =
    gone_further c.args.kind c.args.board.now c.loop-alloc.board c.main_turn.new.board c.args.tally.now c.loop-alloc.tally c.main_turn.new.tally c.loop-alloc.invariant c.in_ok-main_turn.ensures.on
