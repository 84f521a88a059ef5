use Rattle.hp_runs.proofs.Quiet.{characters-quiet}
use Rattle.hp_runs.proofs.Settling.{tags-rest}
use Rattle.hp_runs.proofs.steps.tokens_step.Goals as goal

pub returns : goal.returns
returns c = record { rest = tags-rest; characters = λ c ts h. characters-quiet ts c h }
