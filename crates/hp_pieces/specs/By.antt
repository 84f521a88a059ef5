-- Who guessed a fragment, and what is known of it by that.
use Rattle.std.specs.Prelude.{◌≡◌, ℕ, List, slice_range, take}
use Rattle.hp_text.specs.Page.{text_of}
use Rattle.hp_control.specs.declared.question.Answer.{Answer}
use Rattle.hp_control.specs.declared.question.Question.{Question}
use Rattle.hp_predict.specs.Kinds.{says_of}
use Rattle.hp_pieces.specs.Guesses.{Guessed}
use Rattle.hp_pieces.specs.Reaching.{IsSaid, ReachesFirst}
use Rattle.hp_pieces.specs.declared.by.By.{By}

-- the bytes of the page before the chunk
abbrev pub before_of : By → List ℕ
before_of by = take by.chunk.from (text_of by.chunk.page)

-- the bytes of the chunk
abbrev pub chunk_of : By → List ℕ
chunk_of by = slice_range (text_of by.chunk.page) by.chunk.from by.chunk.to

-- what a predictor of that kind says before the chunk
abbrev pub says_by : By → Question → Answer
says_by by = says_of by.kind (before_of by) (chunk_of by)

-- the text is the chunk's, what is assumed is what the predictor says, and over each state for which that is right all is covered that can be
pub record IsBy (f : Guessed) (by : By) : Type 0 where
  pub text : f.text ≡ chunk_of by
  pub said : IsSaid (says_by by) f
  pub reaches : ReachesFirst (says_by by) f
