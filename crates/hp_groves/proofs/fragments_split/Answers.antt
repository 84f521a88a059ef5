use Rattle.hp_groves.proofs.Fragments.{grove-is_own, outer-is_own, own-makes_same}
use Rattle.hp_groves.proofs.fragments_split.Goals as goal

pub returns : goal.returns
returns c = record { grove = grove-is_own; outer = outer-is_own; same = own-makes_same }
