use Rattle.hp_model.proofs.HandlingApart.{at-once-apart, at-once-leaves, handling-apart, handling-leaves, runs-apart, runs-leave}
use Rattle.hp_model.proofs.lexer_apart.Goals as goal

pub returns : goal.returns
returns c = record {
  token = handling-apart;
  at_once = at-once-apart;
  left = handling-leaves;
  left_at_once = at-once-leaves;
  run = runs-apart;
  left_by_run = runs-leave;
}
