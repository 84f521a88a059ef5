use Rattle.std.proofs.Common.{ap, sym}
use Rattle.hp_predict.specs.Says.{contrary_says}
use Rattle.hp_predict.proofs.quiet.ContraryPredictor.say.Goals as goal

pub returns-in-Entry : goal.returns-in-Entry
returns-in-Entry c = sym (ap contrary_says c.in-Entry.is)
