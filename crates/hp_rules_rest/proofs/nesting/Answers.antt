use Rattle.hp_rules_rest.proofs.Deep.{nests_four}
use Rattle.hp_rules_rest.proofs.nesting.Goals as goal

pub returns : goal.returns
returns c = nests_four
