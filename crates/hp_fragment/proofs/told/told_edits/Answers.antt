use Rattle.std.proofs.Common.{ap, map, ◌∙◌}
use Rattle.hp_control.specs.Apply.{named_edit}
use Rattle.hp_control.specs.Nothing.{nothing}
use Rattle.hp_fragment.proofs.told.told_edits.Goals as goal

pub returns : goal.returns
returns c = c.tell.ensures ∙ ap (map (named_edit nothing)) c.into_edits-edits.ensures
