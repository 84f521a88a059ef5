use Rattle.std.proofs.Common.{subst}
use Rattle.std.specs.Prelude.{IfSome}
use Rattle.hp_pieces.specs.By.{IsBy}
use Rattle.hp_pieces.specs.Guesses.{Guessed, IsSound}
use Rattle.hp_pieces.proofs.guessed.Guessed.into_parts.Goals as goal

pub returns-clause-parts : goal.returns-clause-parts
returns-clause-parts c = c.self.view_is

pub returns-clause-sound : goal.returns-clause-sound
returns-clause-sound c = subst IsSound c.self.view_is c.self.invariant.0

pub returns-clause-said : goal.returns-clause-said
returns-clause-said c = subst (λ (f : Guessed). IfSome f.by (IsBy f)) c.self.view_is c.self.invariant.1
