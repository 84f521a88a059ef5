use Rattle.std.proofs.Common.{arith}
use Rattle.hp_elements.proofs.LetterLemmas.{lower_at}
use Rattle.hp_elements.proofs.letters.lower_case.Goals as goal

pub returns : goal.returns
returns c = lower_at c.args.byte (omega arith)
