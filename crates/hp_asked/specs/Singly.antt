-- What the run over a chunk's text asks of the state that stood before it, a move of the lexer at a time and a code point at a time (13.2).
use Rattle.std.specs.Prelude.{◌≡◌, Bool, if◌then◌else◌, List, [], ◌∷◌, ◌++◌, ℕ, Ok}
use Rattle.hp_names.specs.References.{Reference}
use Rattle.hp_tokens.specs.Advancing.{tokens_of}
use Rattle.hp_tokens.specs.Moves.{Emitted, Lexing, asks_cdata, asks_last_tag, makes, move}
use Rattle.hp_control.specs.declared.question.Answer.{Answer}
use Rattle.hp_control.specs.declared.question.FactKind.TheVariants.{LastTag}
use Rattle.hp_control.specs.declared.question.Question.{Question}
use Rattle.hp_control.specs.declared.question.Question.TheVariants as ask
use Rattle.hp_control.specs.Agree.{AllTrue}
use Rattle.hp_control.specs.Plan.{asked_by, end_by}
use Rattle.hp_control.specs.States.{ControlState}
use Rattle.hp_control.specs.Truth.{answer_of}
use Rattle.hp_lexer.specs.Table.{table}
use Rattle.hp_views.specs.BeginLaws.{IsResting}
use Rattle.hp_views.specs.SecondPlans.{foreign_now_plan}
use Rattle.hp_asked.specs.Right.{seeker_at}
use Rattle.hp_asked.specs.Seeking.{Seeker, at, name_before, named_last, seek}

-- What the run over s asks from there on: the tokens that a move emits are handled one behind the other, and it goes on only where they
-- touch nothing older; and what the lexer asks.
pub data AsksSingly (names : List Reference) (s : ControlState) : Seeker → List Question → Type 0 where
  nothing : {k : Seeker} → AsksSingly names s k []
  tokens : {k : Seeker} {l : Lexing} {es : List Emitted} → move (table names) k.lexing ≡ makes l es → AsksSingly names s k (asked_by (answer_of s) (seek (tokens_of es) (at l k)))
  onward : {k m : Seeker} {l : Lexing} {es : List Emitted} {qs : List Question} → move (table names) k.lexing ≡ makes l es → end_by (answer_of s) (seek (tokens_of es) (at l k)) ≡ Ok m
      → AsksSingly names s m qs → AsksSingly names s k (asked_by (answer_of s) (seek (tokens_of es) (at l k)) ++ qs)
  section : {k : Seeker} {foreign html : Lexing} {is_foreign : Bool} {qs : List Question} → move (table names) k.lexing ≡ asks_cdata foreign html → end_by (answer_of s) (foreign_now_plan k.split) ≡ Ok is_foreign
      → AsksSingly names s (at (if is_foreign then foreign else html) k) qs → AsksSingly names s k (asked_by (answer_of s) (foreign_now_plan k.split) ++ qs)
  name : {k : Seeker} {qs : List Question} → move (table names) k.lexing ≡ asks_last_tag → AsksSingly names s (at (named_last (name_before s) k.lexing) k) qs → AsksSingly names s k (ask.Fact LastTag ∷ qs)

-- what the run over a text asks of s: where it begins, first and always; the rest only where that is at rest
pub data AsksSinglyOver (names : List Reference) (s : ControlState) (text : List ℕ) : List Question → Type 0 where
  entry : AsksSinglyOver names s text (ask.Entry ∷ [])
  from_there : {qs : List Question} → IsResting (answer_of s ask.Entry) → AsksSingly names s (seeker_at (answer_of s ask.Entry) text) qs → AsksSinglyOver names s text (ask.Entry ∷ qs)

-- What is said is true of s, for all that the run over the text asks of it so, up to and with the first token that touches something older.
abbrev pub IsRightSingly : (Question → Answer) → List Reference → ControlState → List ℕ → Type 0
IsRightSingly says names s text = (qs : List Question) → AsksSinglyOver names s text qs → AllTrue s says qs
