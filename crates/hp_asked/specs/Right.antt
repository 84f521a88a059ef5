-- Which answers are right for a text behind an older state.
use Rattle.std.specs.Prelude.{ℕ, ◌^◌, List, [], ◌∷◌}
use Rattle.hp_names.specs.References.{Reference}
use Rattle.hp_tokens.specs.Moves.{standing}
use Rattle.hp_control.specs.declared.question.Answer.{Answer}
use Rattle.hp_control.specs.declared.question.Question.{Question}
use Rattle.hp_control.specs.declared.question.Question.TheVariants as ask
use Rattle.hp_control.specs.Agree.{AllTrue}
use Rattle.hp_control.specs.States.{ControlState}
use Rattle.hp_control.specs.Truth.{answer_of}
use Rattle.hp_views.specs.BeginLaws.{IsResting}
use Rattle.hp_views.specs.Begins.{begins, begun_by}
use Rattle.hp_asked.specs.Seeking.{Asks, Seeker}

-- what is said is true of s, for all that the run from there asks
abbrev pub RightFrom : List Reference → (Question → Answer) → ControlState → Seeker → Type 0
RightFrom names says s k = (qs : List Question) → Asks names s k qs → AllTrue s says qs

-- before a text, told where it begins; places count from 2 ^ 32 on
abbrev pub seeker_at : Answer → List ℕ → Seeker
seeker_at a text = record { lexing = standing (begun_by a).lex.machine (2 ^ 32) (2 ^ 32) text; split = begins a }

-- what the run over a text asks of s: where it begins, first and always; the rest only where that is at rest
pub data AsksOver (names : List Reference) (s : ControlState) (text : List ℕ) : List Question → Type 0 where
  entry : AsksOver names s text (ask.Entry ∷ [])
  onward : {qs : List Question} → IsResting (answer_of s ask.Entry) → Asks names s (seeker_at (answer_of s ask.Entry) text) qs → AsksOver names s text (ask.Entry ∷ qs)

-- what is said is true of s, for all that the run over the text asks of it, up to and with the first token that touches something older
abbrev pub IsRight : (Question → Answer) → List Reference → ControlState → List ℕ → Type 0
IsRight says names s text = (qs : List Question) → AsksOver names s text qs → AllTrue s says qs
