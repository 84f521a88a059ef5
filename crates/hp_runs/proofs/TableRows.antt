-- The moves of the whole table emit no start tags but HTML's.
use Rattle.std.proofs.Common.{◌≡◌, ℕ, List, [], ◌∷◌, Bool, true, false, ◌&&◌, cond, refl, subst, Option, None, Some}
use Rattle.std.specs.Prelude.{◌==◌, IsTrue}
use Rattle.hp_elements.specs.declared.token.Token.{Token}
use Rattle.hp_names.specs.References.{Reference}
use Rattle.hp_names.specs.Longest.{is_open as is_open_name, longest}
use Rattle.hp_names.specs.declared.names.Found.{Found}
use Rattle.hp_tokens.specs.declared.rows.Reads.{Reads}
use Rattle.hp_tokens.specs.declared.rows.Reads.TheVariants.{Consume, Again, End}
use Rattle.hp_tokens.specs.declared.state.State.{State}
use Rattle.hp_tokens.specs.declared.state.State.TheVariants.{NamedCharacterReference, MarkupDeclarationOpen, AfterDoctypeName}
use Rattle.hp_tokens.specs.Moves.{Lexing, Move, needs_more, asks_cdata, asks_last_tag, makes, after_row, all_began, move_on, read_as, row_move, taking}
use Rattle.hp_tokens.specs.Rows.{Row}
use Rattle.hp_lex_tags.specs.Tags as tags
use Rattle.hp_lex_tags.specs.Rows as tag_rows
use Rattle.hp_lex_tags.specs.Named.{reference_move, with_found}
use Rattle.hp_lex_raw.specs.Raw as raw
use Rattle.hp_lex_raw.specs.Rows as raw_rows
use Rattle.hp_lex_markup.specs.Markup as markup
use Rattle.hp_lex_markup.specs.Rows as markup_rows
use Rattle.hp_lex_markup.specs.Words.{asks, count, is_open, word}
use Rattle.hp_lex_markup.specs.declared.words.Word.{Word}
use Rattle.hp_lexer.specs.Table.{table}
use Rattle.hp_model.specs.Runs.{AreRead, ReadsHtml}
use Rattle.hp_runs.specs.Tokens.{AllRead}
use Rattle.hp_runs.proofs.ReadRows.{IsHtml, flushed-read}
use Rattle.hp_runs.proofs.TagRows as tag_read
use Rattle.hp_runs.proofs.RawRows as raw_read
use Rattle.hp_runs.proofs.MarkupRows as markup_read

abbrev MoveReads : Move → Type 0
MoveReads (makes l es) = AreRead es
MoveReads _ = Unit {0}

pub began_read : (place : ℕ) (ts : List Token) → AllRead ts → AreRead (all_began place ts)
began_read place [] h = tt
began_read place (t ∷ ts) h = (h.0, began_read place ts h.1)

after_row_read : (r : Row) (l : Lexing) (c : ℕ) (cs : List ℕ) (reads : Reads) → IsHtml r → MoveReads (after_row r l c cs reads)
after_row_read r l c cs Consume h = began_read l.rested r.emits h.read
after_row_read r l c cs Again h = began_read l.rested r.emits h.read
after_row_read r l c cs End h = tt

-- a row that is there
row_read : (b : Bool) (r : Row) (l : Lexing) (c : ℕ) (cs : List ℕ) → (b ≡ true → IsHtml r) → MoveReads (cond b (after_row r l c cs r.reads) needs_more)
row_read true r l c cs h = after_row_read r l c cs r.reads (h refl)
row_read false r l c cs h = tt

either_read : (b : Bool) (x y : Move) → MoveReads x → MoveReads y → MoveReads (cond b x y)
either_read true x y h k = h
either_read false x y h k = k

reference_read : (o : Option Found) (l : Lexing) → MoveReads (reference_move o l)
reference_read None l = began_read l.rested _ (flushed-read l.machine)
reference_read (Some f) l = began_read l.rested _ (flushed-read (with_found f l.machine l.unread))

tags_read : (s : State) → (names : List Reference) (l : Lexing) (c : ℕ) (cs : List ℕ) → s ≡ l.machine.state → MoveReads (tags.on_state s names l c cs)
tags_read NamedCharacterReference names l c cs e = either_read (is_open_name names l.unread) needs_more (reference_move (longest names l.unread) l) tt (reference_read (longest names l.unread) l)
tags_read s names l c cs e = row_read (tag_rows.has_row s) (tag_rows.row l.machine (Some (read_as c))) l c cs (λ h. tag_read.row_html l.machine (Some (read_as c)) (subst (λ x. tag_rows.has_row x ≡ true) e h))

raw_reads : (l : Lexing) (c : ℕ) (cs : List ℕ) → MoveReads (raw.raw_rules.on l c cs)
raw_reads l c cs = go (raw_rows.has_row l.machine.state) refl (raw.asks l.machine c)
  where
    go : (b : Bool) → raw_rows.has_row l.machine.state ≡ b → (a : Bool) → MoveReads (cond b (cond a asks_last_tag (row_move raw_rows.row l c cs)) needs_more)
    go true e true = tt
    go true e false = after_row_read (raw_rows.row l.machine (Some (read_as c))) l c cs _ (raw_read.row_html l.machine (Some (read_as c)) e)
    go false e a = tt

word_reads : (o : Option Word) (l : Lexing) (c : ℕ) (cs : List ℕ) → IsTrue (markup_rows.is_here l.machine.state) → MoveReads (markup.word_read o l c cs)
word_reads None l c cs h = after_row_read (markup_rows.row l.machine (Some (read_as c))) l c cs _ (markup_read.here_html l.machine (Some (read_as c)) h)
word_reads (Some w) l c cs h = go (asks w)
  where
    go : (b : Bool) → MoveReads (cond b (asks_cdata (taking (count w) (markup.in_section l.machine) l) (taking (count w) (markup.after_word w l.machine) l)) (markup.past_word w l))
    go true = tt
    go false = tt

markup_reads : (s : State) → (l : Lexing) (c : ℕ) (cs : List ℕ) → s ≡ l.machine.state → MoveReads (markup.on_state s l c cs)
markup_reads MarkupDeclarationOpen l c cs e = either_read (is_open l.machine.state l.unread) needs_more (markup.word_read (word l.machine.state l.unread) l c cs) tt (word_reads (word l.machine.state l.unread) l c cs (subst (λ x. markup_rows.is_here x ≡ true) e refl))
markup_reads AfterDoctypeName l c cs e = either_read (is_open l.machine.state l.unread) needs_more (markup.word_read (word l.machine.state l.unread) l c cs) tt (word_reads (word l.machine.state l.unread) l c cs (subst (λ x. markup_rows.is_here x ≡ true) e refl))
markup_reads s l c cs e = row_read (markup_rows.has_row s) (markup_rows.row l.machine (Some (read_as c))) l c cs (λ h. markup_read.row_html l.machine (Some (read_as c)) (subst (λ x. markup_rows.has_row x ≡ true) e h))

on_read : (names : List Reference) (l : Lexing) (text : List ℕ) → MoveReads (move_on (table names) l text)
on_read names l [] = tt
on_read names l (c ∷ cs) =
    either_read (l.machine.after_cr && c == 10) _ _ tt
    (either_read (tags.is_here l.machine.state) _ _ (tags_read l.machine.state names l c cs refl)
    (either_read (raw.is_here l.machine.state) _ _ (raw_reads l c cs) (markup_reads l.machine.state l c cs refl)))

pub table_read : (names : List Reference) → ReadsHtml (table names)
table_read names = record { emits = λ l m es e. subst MoveReads e (on_read names l l.unread) }
