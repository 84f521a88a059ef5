use Rattle.std.proofs.Common.{arith}
use Rattle.hp_control.specs.Apply.{named_edit}
use Rattle.hp_control.specs.Nothing.{nothing}
use Rattle.hp_control.proofs.Changed.{changed_more}
use Rattle.hp_control.proofs.telling.tell_all.Goals as goal

pub loop-edit-preserved : goal.loop-edit-preserved
loop-edit-preserved c =
    changed_more (named_edit nothing) c.args.edits.now c.loop-edit.edits c.loop-edit.edit-index _ _ c.loop-edit.invariant (omega arith) c.tell.ensures.edit
