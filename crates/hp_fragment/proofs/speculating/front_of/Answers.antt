use Rattle.std.proofs.Common.{arith}
use Rattle.std.proofs.lemmas.Str.{IsCharBoundary-start}
use Rattle.hp_fragment.proofs.speculating.front_of.Goals as goal

pub returns-in-None-clause-long : goal.returns-in-None-clause-long
returns-in-None-clause-long c = λ boundary. absurd (c.in-None.ensures.cases (omega arith) (IsCharBoundary-start c.args.text.now c.utf8.text) boundary)
