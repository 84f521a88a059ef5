-- What a journal says of right guesses.
use Rattle.std.specs.Prelude.{◌≡◌, ◌==◌, ℕ, List, ◌∷◌, ◌++◌, true, Some, if◌then◌else◌, length}
use Rattle.std.specs.Str.{chars}
use Rattle.hp_names.specs.BuiltIn.{built_in}
use Rattle.hp_control.specs.States.{ControlState}
use Rattle.hp_control.specs.Tree.{Tree}
use Rattle.hp_cut.specs.Places.{Cutting}
use Rattle.hp_predict.specs.Guess.{guessed}
use Rattle.hp_predict.specs.Kinds.{says_of}
use Rattle.hp_predict.specs.declared.quiet.GuessKind.{GuessKind}
use Rattle.hp_predict.specs.declared.quiet.GuessKind.TheVariants.{Prescan}
use Rattle.hp_asked.specs.Singly.{IsRightSingly}
use Rattle.hp_pieces.specs.At.{IsAt}
use Rattle.hp_pieces.specs.First.{IsFirst}
use Rattle.hp_board.specs.declared.journal.BoardStep.{BoardStep}
use Rattle.hp_board.specs.declared.journal.BoardStep.TheVariants as step
use Rattle.hp_board.specs.declared.journal.Entry.{Entry}
use Rattle.hp_board.specs.declared.journal.Origin.TheVariants.{GuessedBy}
use Rattle.hp_board.specs.Machine.{before_in, chunk_in, start_of}
use Rattle.hp_board.specs.Origins.{is_unjudged, judges, last_origin}

-- the judgement of a chunk of this text, of which so much can be covered
abbrev pub judged_at : ℕ → List ℕ → ℕ → BoardStep
judged_at chunk text n = if n == length text then step.Kept chunk else step.Repaired chunk n

-- Where what a predictor of that kind says is right of the sequential parser's state before the chunk, all of the chunk that can be
-- covered is committed.
abbrev pub IsRightJudgement : List ℕ → Cutting → ℕ → GuessKind → BoardStep → Type 0
IsRightJudgement text cuts chunk kind judgement =
    (s : ControlState) (t : Tree) (n : ℕ) → IsAt text (start_of cuts chunk) s t
    → IsRightSingly (says_of kind (before_in text cuts chunk) (chunk_in text cuts chunk)) built_in s (chars (chunk_in text cuts chunk))
    → IsFirst built_in s (chars (chunk_in text cuts chunk)) n → judgement ≡ judged_at chunk (chunk_in text cuts chunk) n

-- so much of the chunk can be covered over the state that a prescan guesses
abbrev pub IsScanned : List ℕ → Cutting → ℕ → ℕ → Type 0
IsScanned text cuts chunk n = IsFirst built_in (guessed (before_in text cuts chunk) (chunk_in text cuts chunk)) (chars (chunk_in text cuts chunk)) n

-- An entry behind these others: the first judgement of a chunk whose last fragment was guessed by a named predictor is right where the
-- guess was, and a guess by a prescan covers what it can.
pub record IsFairEntry (text : List ℕ) (cuts : Cutting) (journal : List Entry) (e : Entry) : Type 0 where
  pub judged : (chunk : ℕ) (kind : GuessKind) → judges chunk e.step ≡ true → is_unjudged chunk journal ≡ true → last_origin chunk journal ≡ Some (GuessedBy kind)
      → IsRightJudgement text cuts chunk kind e.step
  pub scanned : (chunk n : ℕ) → e.step ≡ step.Posted chunk n (GuessedBy Prescan) → IsScanned text cuts chunk n

-- each entry is fair behind those before it
abbrev pub IsFair : List ℕ → Cutting → List Entry → Type 0
IsFair text cuts journal = (before behind : List Entry) (e : Entry) → journal ≡ before ++ e ∷ behind → IsFairEntry text cuts before e
