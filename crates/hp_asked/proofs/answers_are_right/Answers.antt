use Rattle.hp_asked.proofs.Along.{right-at_start, right-by_truth}
use Rattle.hp_asked.proofs.Fronts.{right-before}
use Rattle.hp_asked.proofs.answers_are_right.Goals as goal

pub returns : goal.returns
returns c = record { truth = right-by_truth; before = right-before; start = right-at_start }
