-- The moves in text, tags and character references.
use Rattle.std.specs.Prelude.{ℕ, List, [], ◌∷◌, ◌≡◌, Option, Some, None, Bool, true, false, if◌then◌else◌}
use Rattle.hp_elements.specs.declared.token.Token.{Token}
use Rattle.hp_tokens.specs.declared.rows.Turn.TheVariants as turns
use Rattle.hp_tokens.specs.Advancing.{Advances, Turned}
use Rattle.hp_names.specs.References.{Reference}
use Rattle.hp_tokens.specs.declared.state.State.{State}
use Rattle.hp_tokens.specs.declared.state.State.TheVariants.{NamedCharacterReference}
use Rattle.hp_tokens.specs.Runs.{Leads}
use Rattle.hp_tokens.specs.Moves.{Lexing, Move, Rules, needs_more, makes, move, row_move, row_end}
use Rattle.hp_lex_tags.specs.Rows.{has_row, row}
use Rattle.hp_lex_tags.specs.Named.{named_move, named_end}

-- the states of this part of the lexer
abbrev pub is_here : State → Bool
is_here NamedCharacterReference = true
is_here s = has_row s

-- no move is made in the states of other parts
abbrev pub on_state : State → List Reference → Lexing → ℕ → List ℕ → Move
on_state NamedCharacterReference names l c cs = named_move names l
on_state s names l c cs = if has_row s then row_move row l c cs else needs_more

abbrev pub last_state : State → List Reference → Lexing → List ℕ → Move
last_state NamedCharacterReference names l text = named_end names l
last_state s names l text = if has_row s then row_end row l text else needs_more

abbrev pub tag_rules : List Reference → Rules
tag_rules names = record {
  on = λ l c cs. on_state l.machine.state names l c cs;
  last = λ l text. last_state l.machine.state names l text;
}

-- moves emitted a token by the last of them, and nothing before it
pub record EmitsLast (rules : Rules) (old : Lexing) (token : Token) (new : Lexing) (rested : ℕ) : Type 0 where
  pub mid : Lexing
  pub leads : Leads (move rules) old [] mid
  pub last : move rules mid ≡ makes new (record { began = rested; token = token } ∷ [])

-- A tag was emitted by moves from one rest to the next, by the last of them; or moves were made that emit nothing.
abbrev pub TagTurned : List Reference → Lexing → Option Token → Lexing → ℕ → Type 0
TagTurned names old (Some tag) new rested =
    Turned (tag_rules names) is_here old [] new (tag ∷ []) rested turns.Emitted × EmitsLast (tag_rules names) old tag new rested
TagTurned names old None new rested = Advances (tag_rules names) old [] new [] rested false
