use Rattle.hp_model.proofs.AtOnce.{built_so, first-touches, runs_at_once}
use Rattle.hp_model.proofs.Texts.{texts-touch-first}
use Rattle.hp_model.proofs.at_once.Goals as goal

pub returns : goal.returns
returns c = record { token = runs_at_once; tokens = built_so; first = first-touches; first_of_text = texts-touch-first }
