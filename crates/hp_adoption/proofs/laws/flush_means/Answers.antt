use Rattle.hp_adoption.specs.FlushLaws.{flush_faithful}
use Rattle.hp_adoption.specs.FlushMeans.{flushes_at_once}
use Rattle.hp_adoption.proofs.laws.flush_means.Goals as goal

pub returns : goal.returns
returns c = record { means = flush_faithful; at_once = flushes_at_once }
