use Rattle.hp_runs.proofs.PlainTrees.{plain-tree}
use Rattle.hp_runs.proofs.plain.plain_pages.Goals as goal

pub returns : goal.returns
returns c = plain-tree
