-- What a predictor of each kind says of the state before a chunk.
use Rattle.std.specs.Prelude.{◌≡◌, ℕ, List}
use Rattle.hp_control.specs.Truth.{answer_of}
use Rattle.hp_control.specs.declared.question.Question.{Question}
use Rattle.hp_control.specs.declared.question.Answer.{Answer}
use Rattle.hp_predict.specs.declared.quiet.GuessKind.{GuessKind}
use Rattle.hp_predict.specs.declared.quiet.GuessKind.TheVariants.{Quiet, Prescan, Contrary}
use Rattle.hp_predict.specs.Guess.{guessed, last_bytes}
use Rattle.hp_predict.specs.Says.{quiet_says, contrary_says}

-- by the bytes before the chunk and by the chunk's own
abbrev pub says_of : GuessKind → List ℕ → List ℕ → Question → Answer
says_of Quiet before text = quiet_says
says_of Prescan before text = answer_of (guessed before text)
says_of Contrary before text = contrary_says

-- of the bytes before it the last 4,096 alone tell
abbrev pub LastBytesTell : Type 0
LastBytesTell = (kind : GuessKind) (before other text : List ℕ) (question : Question) → last_bytes before ≡ last_bytes other → says_of kind before text question ≡ says_of kind other text question
