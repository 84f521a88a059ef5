use Rattle.std.proofs.Common.{◌∙◌}
use Rattle.hp_names.proofs.OrderLemmas.{starts_with-begins}
use Rattle.hp_names.proofs.search.begins.Goals as goal

pub returns : goal.returns
returns c = c.starts_with.ensures.value ∙ starts_with-begins c.args.text.now c.args.word.now
