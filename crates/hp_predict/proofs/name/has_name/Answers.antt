use Rattle.hp_elements.specs.Names.{text_of}
use Rattle.hp_control.proofs.TextTests.{text_test}
use Rattle.hp_predict.proofs.name.has_name.Goals as goal

pub returns : goal.returns
returns c = text_test c.is.result c.args.name.now (text_of c.args.known) c.is.ensures
