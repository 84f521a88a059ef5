use Rattle.hp_elements.proofs.known.Known.at.Goals as goal

pub returns : goal.returns
returns c = c.name_at.ensures
