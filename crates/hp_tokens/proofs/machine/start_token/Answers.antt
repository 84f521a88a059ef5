use Rattle.std.proofs.Common.{rules}
use Rattle.hp_tokens.proofs.machine.start_token.Goals as goal

pub returns-clause-last : goal.returns-clause-last
returns-clause-last c = search rules
