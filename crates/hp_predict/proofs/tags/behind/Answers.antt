use Rattle.std.proofs.Common.{◌+◌}
use Rattle.hp_predict.proofs.TagLemmas.{to_end}
use Rattle.hp_predict.proofs.tags.behind.Goals as goal

pub returns : goal.returns
returns c = to_end c.args.text.now (c.args.at + 1)
