use Rattle.hp_model.proofs.Texts.{texts_at_once}
use Rattle.hp_model.proofs.texts_at_once.Goals as goal

pub returns : goal.returns
returns c = texts_at_once
