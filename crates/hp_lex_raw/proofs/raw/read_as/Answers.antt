use Rattle.std.proofs.Common.{refl, eq-eqb}
use Rattle.hp_lex_raw.proofs.raw.read_as.Goals as goal

pub returns-then-c-eq13 : goal.returns-then-c-eq13
returns-then-c-eq13 c = rw (eq-eqb c.args.c 13 c.if-c-eq13.true) refl
