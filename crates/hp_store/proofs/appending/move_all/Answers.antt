use Rattle.std.proofs.Common.{arith}
use Rattle.hp_store.specs.Parts.{moved_part}
use Rattle.hp_store.proofs.Moving.{changed_more}
use Rattle.hp_store.proofs.appending.move_all.Goals as goal

pub loop-part-preserved : goal.loop-part-preserved
loop-part-preserved c =
    changed_more (moved_part c.args.more) c.args.parts.now c.loop-part.parts c.loop-part.part-index _ _ c.loop-part.invariant (omega arith) c.move_behind.ensures
