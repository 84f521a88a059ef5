use Rattle.hp_control.specs.Faithful.{faithful_then, faithful_test}
use Rattle.hp_control.proofs.laws.plans_follow.Goals as goal

pub returns : goal.returns
returns c = record { in_order = faithful_then; by_test = faithful_test }
