-- What a guess keeps: each question that it was asked once, with its answer.
use Rattle.std.specs.Prelude.{◌≡◌, ℕ, false, List, [], ◌∷◌, Option, Some, None, map}
use Rattle.hp_control.specs.declared.question.Question.{Question}
use Rattle.hp_control.specs.declared.question.Question.TheVariants as ask
use Rattle.hp_control.specs.declared.question.Answer.{Answer}
use Rattle.hp_control.specs.declared.question.Kept.{Kept}
use Rattle.hp_control.specs.declared.sought.Sought.{Sought}
use Rattle.hp_control.specs.declared.sought.Sought.TheVariants.{Made, Same}
use Rattle.hp_control.specs.Hashing.{hash_of}
use Rattle.hp_control.specs.Places.{Chained}
use Rattle.hp_control.specs.Plan.{Heard, is_asked}

-- who answers, and the pairs so far, in the order in which they were first asked
pub record Guessing (P : Type 0) : Type 0 where
  pub predictor : P
  pub kept : List Kept

abbrev pub heard_by : {P : Type 0} → (P → Question → Answer) → Guessing P → Heard
heard_by says g = record { says = says g.predictor; kept = Some g.kept }

-- no question stands twice
abbrev pub AreDistinct : List Kept → Type 0
AreDistinct [] = Unit {0}
AreDistinct (k ∷ ks) = (is_asked ks k.question ≡ false) × AreDistinct ks

-- each answer is what is said to its question
abbrev pub AreSaid : (Question → Answer) → List Kept → Type 0
AreSaid says [] = Unit {0}
AreSaid says (k ∷ ks) = (k.answer ≡ says k.question) × AreSaid says ks

-- the question that is looked for
abbrev pub sought : Sought → Question
sought (Made question) = question.now
sought (Same cuts tag) = ask.Same cuts tag.now

-- the hashes that are noted
abbrev pub noted : Option Chained → List ℕ
noted None = []
noted (Some places) = places.hashes

-- the hash of each pair's question is noted
abbrev pub IsIndexed : List Kept → Option Chained → Type 0
IsIndexed kept places = noted places ≡ map (λ (k : Kept). hash_of k.question) kept
