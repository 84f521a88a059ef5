use Rattle.hp_acts.specs.TestLaws.{test_faithful}
use Rattle.hp_acts.proofs.laws.tests_tell.Goals as goal

pub returns : goal.returns
returns c = test_faithful
