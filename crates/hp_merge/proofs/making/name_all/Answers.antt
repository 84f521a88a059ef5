use Rattle.std.proofs.Common.{arith, drop}
use Rattle.hp_control.specs.Telling.{told_over}
use Rattle.hp_control.proofs.Changed.{changed_more}
use Rattle.hp_merge.proofs.making.name_all.Goals as goal

pub loop-edit-preserved : goal.loop-edit-preserved
loop-edit-preserved c =
    changed_more (told_over (drop c.args.above c.args.stack.now) c.args.next) c.args.edits.now c.loop-edit.edits c.loop-edit.edit-index _ _ c.loop-edit.invariant (omega arith) c.name_over.ensures.edit
