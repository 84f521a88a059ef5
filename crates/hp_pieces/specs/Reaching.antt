-- How much a guess covers.
use Rattle.std.specs.Prelude.{◌≡◌, ℕ, List, ◌∷◌, All}
use Rattle.std.specs.Str.{chars}
use Rattle.hp_control.specs.Holds.{Holds}
use Rattle.hp_control.specs.States.{ControlState}
use Rattle.hp_control.specs.declared.question.Answer.{Answer}
use Rattle.hp_control.specs.declared.question.Kept.{Kept}
use Rattle.hp_control.specs.declared.question.Question.{Question}
use Rattle.hp_control.specs.declared.question.Question.TheVariants as ask
use Rattle.hp_asked.specs.Singly.{IsRightSingly}
use Rattle.hp_pieces.specs.First.{IsFirst}
use Rattle.hp_pieces.specs.Guesses.{Guessed}
use Rattle.hp_pieces.specs.Waiting.{MayStand}

-- what is assumed is what is said, and first what is said of where the text begins
pub record IsSaid (says : Question → Answer) (f : Guessed) : Type 0 where
  pub more : List Kept
  pub first : f.assumptions ≡ record { question = ask.Entry; answer = says ask.Entry } ∷ more
  pub said : All (λ k. k.answer ≡ says k.question) f.assumptions

-- Over each state for which the answers are right on that front of the text, taken a code point at a time, what is assumed is true, and of
-- the front all is covered that can be.
abbrev pub ReachesIn : List ℕ → (Question → Answer) → Guessed → Type 0
ReachesIn front says f =
    (s : ControlState) → MayStand f.names s → IsRightSingly says f.names s (chars front) → Holds f.assumptions s × IsFirst f.names s (chars front) f.covered

-- the same on the whole text
abbrev pub ReachesFirst : (Question → Answer) → Guessed → Type 0
ReachesFirst says f = ReachesIn f.text says f
