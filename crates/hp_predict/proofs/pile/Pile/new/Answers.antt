use Rattle.std.proofs.Common.{refl}
use Rattle.hp_predict.proofs.StateLemmas.{none_made}
use Rattle.hp_predict.proofs.pile.Pile.new.Goals as goal

pub returns-clause-of : goal.returns-clause-of
returns-clause-of c = none_made _ c.new.ensures c.new-2.ensures c.new-3.ensures refl
