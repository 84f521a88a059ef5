use Rattle.hp_control.proofs.TextTests.{text_test}
use Rattle.hp_control.proofs.spelled.same_name.Goals as goal

pub returns : goal.returns
returns c = text_test c.same.result c.args.name.now c.args.other.now c.same.ensures
