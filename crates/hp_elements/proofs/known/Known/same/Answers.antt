use Rattle.hp_elements.proofs.NameLemmas.{same_names}
use Rattle.hp_elements.proofs.known.Known.same.Goals as goal

pub returns : goal.returns
returns c = same_names c.args.self c.args.other c.index.result c.index-2.result c.index.ensures c.index-2.ensures
