use Rattle.std.proofs.Common.{◌∙◌}
use Rattle.hp_acts.proofs.PlainRuns.{none_open}
use Rattle.hp_acts.proofs.plain.is_nothing_open.Goals as goal

pub returns : goal.returns
returns c = c.is_empty.ensures ∙ none_open c.args.stack.now
