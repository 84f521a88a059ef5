use Rattle.std.proofs.Common.{arith, refl}
use Rattle.hp_names.specs.declared.values.TheConstants.{CONTROLS}
use Rattle.hp_names.proofs.NumericLemmas.{listed-value}
use Rattle.hp_names.proofs.values.numeric.Goals as goal

pub returns-in-128-to-159 : goal.returns-in-128-to-159
returns-in-128-to-159 c = listed-value CONTROLS 128 c.args.value refl (omega arith) (omega arith)
