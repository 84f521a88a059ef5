use Rattle.hp_groves.proofs.Splitting.{grove-has_all, outer-makes_none, split-makes_same}
use Rattle.hp_groves.proofs.inner_edits_go_first.Goals as goal

pub returns : goal.returns
returns c = record { same = split-makes_same; all = grove-has_all; none = outer-makes_none }
