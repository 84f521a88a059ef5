-- What is made of a text behind a guess (13.2).
use Rattle.std.specs.Prelude.{◌≡◌, ℕ, ◌<◌, ◌^◌, Bool, List, [], ◌∷◌, length, Option, None, Some}
use Rattle.std.specs.Option.{is_some}
use Rattle.std.specs.Str.{chars}
use Rattle.hp_elements.specs.declared.token.Mode.{Mode}
use Rattle.hp_elements.specs.declared.token.Rest.{Rest}
use Rattle.hp_names.specs.BuiltIn.{built_in}
use Rattle.hp_names.specs.References.{Reference}
use Rattle.hp_tokens.specs.Advancing.{rest_state}
use Rattle.hp_tokens.specs.declared.lexing.LexState.{LexState}
use Rattle.hp_control.specs.Faithful.{Split}
use Rattle.hp_control.specs.Guessing.{Guessing}
use Rattle.hp_control.specs.Plan.{Heard}
use Rattle.hp_control.specs.States.{ControlState}
use Rattle.hp_control.specs.Tree.{Tree}
use Rattle.hp_control.specs.declared.change.Change.{Change}
use Rattle.hp_control.specs.declared.edit.Edit.{Edit}
use Rattle.hp_control.specs.declared.question.Answer.{Answer}
use Rattle.hp_control.specs.declared.question.Answer.TheVariants as answer
use Rattle.hp_control.specs.declared.question.Kept.{Kept}
use Rattle.hp_control.specs.declared.question.Question.{Question}
use Rattle.hp_control.specs.declared.question.Question.TheVariants as ask
use Rattle.hp_lexer.specs.declared.lexer.Asked.TheVariants as asked
use Rattle.hp_lexer.specs.declared.lexer.Lexer.{Lexer}
use Rattle.hp_views.specs.Begins.{begins, ended}
use Rattle.hp_views.specs.declared.view.View.{View}
use Rattle.hp_asked.specs.Singly.{IsRightSingly}
use Rattle.hp_pieces.specs.First.{IsFirst}
use Rattle.hp_pieces.specs.Guesses.{Guessed as GuessedOf}
use Rattle.hp_pieces.specs.Reaching.{IsSaid, ReachesFirst, ReachesIn}
use Rattle.hp_pieces.specs.Waiting.{MayStand}
use Rattle.hp_pieces.specs.declared.by.By.{By}
use Rattle.hp_pieces.specs.declared.fragment.Fragment.{Fragment}
use Rattle.hp_pieces.specs.declared.fragment.Fragment.TheVariants.{Exact, Guessed}
use Rattle.hp_fragment.specs.declared.speculating.Tried.{Tried}
use Rattle.hp_fragment.specs.declared.speculating.Tried.TheVariants.{Crossed, Reached}

-- nothing was read yet: it was asked where the text begins, and told this
pub record HasBegun (l : Lexer) (h : Heard) (v : Split) : Type 0 where
  pub rest : Rest
  pub after_cr : Bool
  pub mode : Mode
  pub original : Option Mode
  pub skip_lf : Bool
  pub told : h.says ask.Entry ≡ answer.Resting rest after_cr mode original skip_lf
  pub kept : h.kept ≡ Some (record { question = ask.Entry; answer = h.says ask.Entry } ∷ [])
  pub split : v ≡ begins (answer.Resting rest after_cr mode original skip_lf)
  pub lexer : l ≡ record { lex = rest_state rest after_cr; names = built_in; asked = asked.Nothing; rested = 2 ^ 32 }

-- what was guessed of a text
abbrev pub made_by : List ℕ → ℕ → List Kept → Change → Tree → List Edit → GuessedOf
made_by text covered kept change grove outer = record {
  names = built_in;
  text = text;
  covered = covered;
  assumptions = kept;
  change = change;
  grove = grove;
  outer = outer;
  by = None;
}

-- what a view has changed and was told, once the lexer stands so behind that much of the text
abbrev pub made_of : {P : Type 0} → List ℕ → ℕ → LexState → View (Guessing P) → Tree → List Edit → GuessedOf
made_of text covered lex view = made_by text covered view.below.kept (ended lex (is_some lex.machine.last_tag) view.change)

pub record IsGuessOf (says : Question → Answer) (text : List ℕ) (f : GuessedOf) : Type 0 where
  pub names : f.names ≡ built_in
  pub whole : f.text ≡ text
  pub said : IsSaid says f

-- over each such state a token touches something older, and the first that does began at that place within the front
abbrev pub CrossesAt : List Reference → (Question → Answer) → List ℕ → ℕ → Type 0
CrossesAt names says front at =
    (s : ControlState) → MayStand names s → IsRightSingly says names s (chars front) → IsFirst names s (chars front) at × (at < length front)

-- so it is made of that front of the text
abbrev pub IsReached : (Question → Answer) → List ℕ → List ℕ → GuessedOf → Type 0
IsReached says text front f = IsGuessOf says text f × ReachesIn front says f

abbrev pub IsTried : (Question → Answer) → List ℕ → List ℕ → Tried → Type 0
IsTried says text front (Reached f) = IsReached says text front f
IsTried says text front (Crossed at) = CrossesAt built_in says front at

-- it is a guess by these answers, and covers all that can be covered where they are right
abbrev pub IsGuessBy : (Question → Answer) → Fragment → Type 0
IsGuessBy says (Guessed f) = IsSaid says f × ReachesFirst says f
IsGuessBy says (Exact known) = ⊥

-- it is a guess by such a predictor before this chunk
abbrev pub IsGuessedBy : By → Fragment → Type 0
IsGuessedBy by (Guessed f) = f.by ≡ Some by
IsGuessedBy by (Exact known) = ⊥
