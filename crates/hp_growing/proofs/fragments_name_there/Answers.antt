use Rattle.hp_growing.proofs.Places.{last-name_there, leads-name_there, leads-split}
use Rattle.hp_growing.proofs.fragments_name_there.Goals as goal

pub returns : goal.returns
returns c = record { runs = leads-name_there; ends = last-name_there; split = leads-split }
