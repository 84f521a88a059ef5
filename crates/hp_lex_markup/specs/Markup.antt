-- The moves in markup declarations, comments, doctypes and CDATA sections.
use Rattle.std.specs.Prelude.{ℕ, List, [], ◌∷◌, codes, Bool, true, false, Option, None, Some, if◌then◌else◌}
use Rattle.hp_tokens.specs.declared.state.State.{State}
use Rattle.hp_tokens.specs.declared.state.State.TheVariants.{MarkupDeclarationOpen, BogusComment, CommentStart, Doctype as DoctypeState, AfterDoctypeName, AfterDoctypePublicKeyword, AfterDoctypeSystemKeyword, CdataSection}
use Rattle.hp_tokens.specs.declared.building.Part.TheVariants as parts
use Rattle.hp_tokens.specs.declared.machine.Machine.{Machine}
use Rattle.hp_tokens.specs.States.{enter}
use Rattle.hp_tokens.specs.Rows.{new_comment, putting_text}
use Rattle.hp_tokens.specs.Moves.{Lexing, Move, Rules, needs_more, asks_cdata, makes, taking, row_move, row_end}
use Rattle.hp_lex_markup.specs.declared.words.Word.{Word}
use Rattle.hp_lex_markup.specs.declared.words.Word.TheVariants.{Hyphens, Doctype, Cdata, Public, System}
use Rattle.hp_lex_markup.specs.Words.{is_open, word, count, asks}
use Rattle.hp_lex_markup.specs.Rows.{row, has_row}

-- the last code point of a word is no CR
abbrev pub behind_word : Machine → Machine
behind_word m = record m { after_cr = false }

-- The machine behind a word. `[CDATA[` is a comment's text where there is no adjusted current node outside the HTML
-- namespace.
abbrev pub after_word : Word → Machine → Machine
after_word Hyphens m = enter CommentStart (new_comment (behind_word m))
after_word Doctype m = enter DoctypeState (behind_word m)
after_word Cdata m = enter BogusComment (putting_text parts.Comment (codes "[CDATA[") (new_comment (behind_word m)))
after_word Public m = enter AfterDoctypePublicKeyword (behind_word m)
after_word System m = enter AfterDoctypeSystemKeyword (behind_word m)

abbrev pub in_section : Machine → Machine
in_section m = enter CdataSection (behind_word m)

abbrev pub past_word : Word → Lexing → Move
past_word w l = makes (taking (count w) (after_word w l.machine) l) []

-- a word is read, or there is none
abbrev pub word_read : Option Word → Lexing → ℕ → List ℕ → Move
word_read None l c cs = row_move row l c cs
word_read (Some w) l c cs =
    if asks w then asks_cdata (taking (count w) (in_section l.machine) l) (taking (count w) (after_word w l.machine) l)
    else past_word w l

abbrev pub word_move : Lexing → ℕ → List ℕ → Move
word_move l c cs = if is_open l.machine.state l.unread then needs_more else word_read (word l.machine.state l.unread) l c cs

-- Where the input ends behind what is unread, nothing is asked: behind a question that was asked, the move is made before
-- the input ends.
abbrev pub word_read_at_end : Option Word → Lexing → List ℕ → Move
word_read_at_end None l text = row_end row l text
word_read_at_end (Some w) l text = past_word w l

abbrev pub word_end : Lexing → List ℕ → Move
word_end l text = word_read_at_end (word l.machine.state l.unread) l text

-- no move is made in the states of other parts
abbrev pub on_state : State → Lexing → ℕ → List ℕ → Move
on_state MarkupDeclarationOpen l c cs = word_move l c cs
on_state AfterDoctypeName l c cs = word_move l c cs
on_state s l c cs = if has_row s then row_move row l c cs else needs_more

abbrev pub last_state : State → Lexing → List ℕ → Move
last_state MarkupDeclarationOpen l text = word_end l text
last_state AfterDoctypeName l text = word_end l text
last_state s l text = if has_row s then row_end row l text else needs_more

abbrev pub markup_rules : Rules
markup_rules = record {
  on = λ l c cs. on_state l.machine.state l c cs;
  last = λ l text. last_state l.machine.state l text;
}
