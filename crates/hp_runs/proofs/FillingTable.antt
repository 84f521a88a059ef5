-- The moves of the whole table are the same where the last start tag's name is told, but where they ask for it.
use Rattle.std.proofs.Common.{◌≡◌, ℕ, List, [], ◌∷◌, Bool, true, false, ◌&&◌, cond, refl, ap, sym, subst, Option, None, Some}
use Rattle.std.specs.Prelude.{◌==◌}
use Rattle.hp_names.specs.References.{Reference}
use Rattle.hp_names.specs.Longest.{longest, is_open as is_open_name}
use Rattle.hp_names.specs.declared.names.Found.{Found}
use Rattle.hp_tokens.specs.declared.machine.Machine.{Machine}
use Rattle.hp_tokens.specs.declared.state.State.{State}
use Rattle.hp_tokens.specs.declared.state.State.TheVariants.{AmbiguousAmpersand, NamedCharacterReference, MarkupDeclarationOpen, AfterDoctypeName}
use Rattle.hp_tokens.specs.declared.rows.Reads.{Reads}
use Rattle.hp_tokens.specs.declared.rows.Reads.TheVariants.{Consume, Again, End}
use Rattle.hp_tokens.specs.Rows.{Row, flushed_tokens}
use Rattle.hp_tokens.specs.Runs.{here, onward}
use Rattle.hp_tokens.specs.States.{enter, return_state}
use Rattle.hp_tokens.specs.Moves.{Lexing, Move, needs_more, asks_cdata, asks_last_tag, makes, all_began, after_row, row_move, read_as, taking, after_pair, move_on, move}
use Rattle.hp_lex_tags.specs.Tags as tags
use Rattle.hp_lex_tags.specs.Rows as tag_rows
use Rattle.hp_lex_tags.specs.Named.{reference_move, with_found}
use Rattle.hp_lex_raw.specs.Raw as raw
use Rattle.hp_lex_raw.specs.Rows as raw_rows
use Rattle.hp_lex_markup.specs.Markup as markup
use Rattle.hp_lex_markup.specs.Rows as markup_rows
use Rattle.hp_lex_markup.specs.Words.{is_open, word, asks, count}
use Rattle.hp_lex_markup.specs.declared.words.Word.{Word}
use Rattle.hp_lex_markup.specs.declared.words.Word.TheVariants.{Hyphens}
use Rattle.hp_lexer.specs.Table.{table}
use Rattle.hp_runs.specs.Filled.{FilledMove, LeadsFilled, MovesFilled, at_filled, filled}
use Rattle.hp_runs.proofs.FillingRows.{Fills, filled_row, flushed-filled}
use Rattle.hp_runs.proofs.FillingMarkup as markup_fills
use Rattle.hp_runs.proofs.FillingRaw as raw_fills
use Rattle.hp_runs.proofs.FillingTags as tag_fills

after_row_filled : (name : List ℕ) (r : Row) (l : Lexing) (c : ℕ) (cs : List ℕ) (reads : Reads) → FilledMove name (after_row r l c cs reads) (after_row (filled_row name r) (at_filled name l) c cs reads)
after_row_filled name r l c cs Consume = refl
after_row_filled name r l c cs Again = refl
after_row_filled name r l c cs End = refl

row_filled : (name : List ℕ) (r s : Row) (l : Lexing) (c : ℕ) (cs : List ℕ) → Fills name r s → FilledMove name (after_row r l c cs r.reads) (after_row s (at_filled name l) c cs s.reads)
row_filled name r s l c cs h = subst (λ (x : Row). FilledMove name (after_row r l c cs r.reads) (after_row x (at_filled name l) c cs x.reads)) (sym h.same) (after_row_filled name r l c cs r.reads)

either-filled : (name : List ℕ) (b : Bool) (x y v w : Move) → FilledMove name x v → FilledMove name y w → FilledMove name (cond b x y) (cond b v w)
either-filled name true x y v w h k = h
either-filled name false x y v w h k = k

reference_filled : (name : List ℕ) (o : Option Found) (l : Lexing) → FilledMove name (reference_move o l) (reference_move o (at_filled name l))
reference_filled name None l =
    let with_flushed : Machine → Move = λ m. makes (taking 0 (enter AmbiguousAmpersand m) l) (all_began l.rested (flushed_tokens l.machine)) in
    ap with_flushed (flushed-filled name l.machine)
reference_filled name (Some f) l =
    let found : Machine = with_found f l.machine l.unread in
    let with_flushed : Machine → Move = λ m. makes (taking f.length (enter (return_state found.return_to) m) l) (all_began l.rested (flushed_tokens found)) in
    ap with_flushed (flushed-filled name found)

tags_filled : (s : State) (names : List Reference) (name : List ℕ) (l : Lexing) (c : ℕ) (cs : List ℕ) → FilledMove name (tags.on_state s names l c cs) (tags.on_state s names (at_filled name l) c cs)
tags_filled NamedCharacterReference names name l c cs =
    either-filled name (is_open_name names l.unread) needs_more (reference_move (longest names l.unread) l) needs_more (reference_move (longest names l.unread) (at_filled name l)) refl (reference_filled name (longest names l.unread) l)
tags_filled s names name l c cs =
    either-filled name (tag_rows.has_row s) (row_move tag_rows.row l c cs) needs_more (row_move tag_rows.row (at_filled name l) c cs) needs_more
    (row_filled name (tag_rows.row l.machine (Some (read_as c))) (tag_rows.row (filled name l.machine) (Some (read_as c))) l c cs (tag_fills.row_fills name l.machine (read_as c))) refl

-- a lexer that is told asks nothing, and no row asks
told_asks : (a e : Bool) → ((a && false) && e) ≡ false
told_asks true e = refl
told_asks false e = refl

row_asks : (r : Row) (l : Lexing) (c : ℕ) (cs : List ℕ) (reads : Reads) → after_row r l c cs reads ≡ asks_last_tag → ⊥
row_asks r l c cs Consume e = cc
row_asks r l c cs Again e = cc
row_asks r l c cs End e = cc

raw_filled : (name : List ℕ) (l : Lexing) (c : ℕ) (cs : List ℕ) → FilledMove name (raw.raw_rules.on l c cs) (raw.raw_rules.on (at_filled name l) c cs)
raw_filled name l c cs =
    either-filled name (raw_rows.has_row l.machine.state) (cond (raw.asks l.machine c) asks_last_tag (row_move raw_rows.row l c cs)) needs_more
    (cond (raw.asks (filled name l.machine) c) asks_last_tag (row_move raw_rows.row (at_filled name l) c cs)) needs_more
    (subst (λ (b : Bool). FilledMove name (cond (raw.asks l.machine c) asks_last_tag (row_move raw_rows.row l c cs)) (cond b asks_last_tag (row_move raw_rows.row (at_filled name l) c cs)))
    (sym (told_asks (raw.names_end_tag l.machine.state) (raw_rows.ends_name (read_as c)))) (by_cases (raw.asks l.machine c) refl)) refl
  where
    told_row : Row
    told_row = raw_rows.row (filled name l.machine) (Some (read_as c))

    by_cases : (a : Bool) → raw.asks l.machine c ≡ a → FilledMove name (cond a asks_last_tag (row_move raw_rows.row l c cs)) (row_move raw_rows.row (at_filled name l) c cs)
    by_cases true e = row_asks told_row (at_filled name l) c cs told_row.reads
    by_cases false e = row_filled name (raw_rows.row l.machine (Some (read_as c))) told_row l c cs (raw_fills.row_fills name l.machine (read_as c) e)

after_word_filled : (w : Word) (name : List ℕ) (m : Machine) → markup.after_word w (filled name m) ≡ filled name (markup.after_word w m)
after_word_filled Hyphens name m = refl
after_word_filled _ name m = refl

word_filled : (name : List ℕ) (o : Option Word) (l : Lexing) (c : ℕ) (cs : List ℕ) → FilledMove name (markup.word_read o l c cs) (markup.word_read o (at_filled name l) c cs)
word_filled name None l c cs = row_filled name (markup_rows.row l.machine (Some (read_as c))) (markup_rows.row (filled name l.machine) (Some (read_as c))) l c cs (markup_fills.row_fills name l.machine (read_as c))
word_filled name (Some w) l c cs =
    let asked : Machine → Move = λ m. asks_cdata (taking (count w) (filled name (markup.in_section l.machine)) l) (taking (count w) m l) in
    let made : Machine → Move = λ m. makes (taking (count w) m l) [] in
    either-filled name (asks w) (asks_cdata (taking (count w) (markup.in_section l.machine) l) (taking (count w) (markup.after_word w l.machine) l)) (markup.past_word w l)
    (asks_cdata (taking (count w) (markup.in_section (filled name l.machine)) (at_filled name l)) (taking (count w) (markup.after_word w (filled name l.machine)) (at_filled name l))) (markup.past_word w (at_filled name l))
    (ap asked (after_word_filled w name l.machine)) (ap made (after_word_filled w name l.machine))

open_filled : (name : List ℕ) (l : Lexing) (c : ℕ) (cs : List ℕ) → FilledMove name (markup.word_move l c cs) (markup.word_move (at_filled name l) c cs)
open_filled name l c cs =
    either-filled name (is_open l.machine.state l.unread) needs_more (markup.word_read (word l.machine.state l.unread) l c cs) needs_more (markup.word_read (word l.machine.state l.unread) (at_filled name l) c cs)
    refl (word_filled name (word l.machine.state l.unread) l c cs)

markup_filled : (s : State) (name : List ℕ) (l : Lexing) (c : ℕ) (cs : List ℕ) → FilledMove name (markup.on_state s l c cs) (markup.on_state s (at_filled name l) c cs)
markup_filled MarkupDeclarationOpen name l c cs = open_filled name l c cs
markup_filled AfterDoctypeName name l c cs = open_filled name l c cs
markup_filled s name l c cs =
    either-filled name (markup_rows.has_row s) (row_move markup_rows.row l c cs) needs_more (row_move markup_rows.row (at_filled name l) c cs) needs_more
    (row_filled name (markup_rows.row l.machine (Some (read_as c))) (markup_rows.row (filled name l.machine) (Some (read_as c))) l c cs (markup_fills.row_fills name l.machine (read_as c))) refl

on_filled : (names : List Reference) (name : List ℕ) (l : Lexing) (text : List ℕ) → FilledMove name (move_on (table names) l text) (move_on (table names) (at_filled name l) text)
on_filled names name l [] = refl
on_filled names name l (c ∷ cs) =
    either-filled name (l.machine.after_cr && c == 10) (after_pair l cs) ((table names).on l c cs) (after_pair (at_filled name l) cs) ((table names).on (at_filled name l) c cs) refl
    (either-filled name (tags.is_here l.machine.state) (tags.on_state l.machine.state names l c cs) (cond (raw.is_here l.machine.state) (raw.raw_rules.on l c cs) (markup.on_state l.machine.state l c cs))
    (tags.on_state l.machine.state names (at_filled name l) c cs) (cond (raw.is_here l.machine.state) (raw.raw_rules.on (at_filled name l) c cs) (markup.on_state l.machine.state (at_filled name l) c cs))
    (tags_filled l.machine.state names name l c cs)
    (either-filled name (raw.is_here l.machine.state) (raw.raw_rules.on l c cs) (markup.on_state l.machine.state l c cs) (raw.raw_rules.on (at_filled name l) c cs) (markup.on_state l.machine.state (at_filled name l) c cs)
    (raw_filled name l c cs) (markup_filled l.machine.state name l c cs)))

pub moves-filled : MovesFilled
moves-filled names name l = on_filled names name l l.unread

pub leads-filled : LeadsFilled
leads-filled names name l _ _ here = here
leads-filled names name l k _ (onward {m = m} {es = es} {fs = fs} made rest) =
    onward (subst (λ (x : Move). FilledMove name x (move (table names) (at_filled name l))) made (moves-filled names name l)) (leads-filled names name m k fs rest)
