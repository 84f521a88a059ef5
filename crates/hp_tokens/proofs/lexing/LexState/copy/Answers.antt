use Rattle.std.proofs.Common.{refl}
use Rattle.hp_tokens.proofs.lexing.LexState.copy.Goals as goal

pub returns : goal.returns
returns c = rw (c.in_ok-machine.ensures, c.in_ok-ahead.ensures) refl
