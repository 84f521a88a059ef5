-- The rules of all 80 states of the lexer (13.2.5.1 to 13.2.5.80), each from the part of the table that its state is in.
use Rattle.std.specs.Prelude.{ℕ, List, Bool, if◌then◌else◌}
use Rattle.hp_names.specs.References.{Reference}
use Rattle.hp_tokens.specs.declared.state.State.{State}
use Rattle.hp_tokens.specs.Moves.{Lexing, Move, Rules}
use Rattle.hp_tokens.specs.declared.rows.Turn.{Turn}
use Rattle.hp_tokens.specs.declared.rows.Turn.TheVariants as turns
use Rattle.hp_lex_tags.specs.Tags as tags
use Rattle.hp_lex_raw.specs.Raw as raw
use Rattle.hp_lex_markup.specs.Markup as markup
use Rattle.hp_lex_markup.specs.Rows as markup_rows

-- the move on a code point with others behind it, over a table of reference names
abbrev pub on_table : List Reference → Lexing → ℕ → List ℕ → Move
on_table names l c cs =
    if tags.is_here l.machine.state then (tags.tag_rules names).on l c cs
    else if raw.is_here l.machine.state then raw.raw_rules.on l c cs
    else markup.markup_rules.on l c cs

-- the move where the input ends behind what is unread
abbrev pub last_of_table : List Reference → Lexing → List ℕ → Move
last_of_table names l text =
    if tags.is_here l.machine.state then (tags.tag_rules names).last l text
    else if raw.is_here l.machine.state then raw.raw_rules.last l text
    else markup.markup_rules.last l text

abbrev pub table : List Reference → Rules
table names = record { on = λ l c cs. on_table names l c cs; last = λ l text. last_of_table names l text }

-- the states of the part that a state is in
abbrev pub part_of : State → State → Bool
part_of s = if tags.is_here s then tags.is_here else if raw.is_here s then raw.is_here else markup_rows.is_here

-- more input is needed only where the state is still the part's
abbrev pub gone_on : Turn → Bool → Turn
gone_on turns.NeedsMore is_here = if is_here then turns.NeedsMore else turns.Moved
gone_on turn is_here = turn
