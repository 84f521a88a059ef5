use Rattle.hp_growth.proofs.Snoc.{grove-is_at_hand, hand-grows, outer-grows}
use Rattle.hp_growth.proofs.edits_split_one_by_one.Goals as goal

pub returns : goal.returns
returns c = record { hand = hand-grows; outer = outer-grows; grove = grove-is_at_hand }
