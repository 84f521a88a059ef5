use Rattle.hp_control.specs.Agree.{kept_hold, kept_true}
use Rattle.hp_control.specs.Steps.{means}
use Rattle.hp_control.proofs.KeptOnce.{each_distinct, once_hold, once_true}
use Rattle.hp_control.proofs.laws.answers_tell.Goals as goal

pub returns : goal.returns
returns c = record {
  means = means;
  kept = λ s says qs. (kept_hold s says qs, kept_true s says qs);
  once = λ s says kept qs said. (once_hold s says kept qs, once_true s says kept qs said);
  distinct = each_distinct;
}
