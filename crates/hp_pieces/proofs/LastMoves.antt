-- The moves at the end of input, where what was read ahead has no `>`: but for the last they emit characters alone.
use Rattle.std.proofs.Common.{◌≡◌, ℕ, zero, suc, List, [], ◌∷◌, Bool, true, false, ◌&&◌, cond, drop, refl, ap, ◌∙◌, subst, sym, Option, None, Some, ◌⊎◌, inl, inr}
use Rattle.std.specs.Prelude.{◌==◌, IsTrue, not}
use Rattle.std.proofs.lemmas.Bool.{and_parts, both_ways, eq-eqb, eqb-true, not-true}
use Rattle.hp_names.specs.References.{Reference}
use Rattle.hp_names.specs.Longest.{longest}
use Rattle.hp_names.specs.declared.names.Found.{Found}
use Rattle.hp_tokens.specs.declared.rows.Reads.{Reads}
use Rattle.hp_tokens.specs.declared.rows.Reads.TheVariants.{Consume, Again, End}
use Rattle.hp_tokens.specs.declared.state.State.{State}
use Rattle.hp_tokens.specs.declared.state.State.TheVariants.{NamedCharacterReference, MarkupDeclarationOpen, AfterDoctypeName}
use Rattle.hp_tokens.specs.Advancing.{tokens_of}
use Rattle.hp_tokens.specs.Moves.{Lexing, Move, needs_more, makes, ends, after_row, after_end, after_pair, end_move_on, end_move, read_as, row_end}
use Rattle.hp_tokens.specs.Rows.{Row, flushed_tokens}
use Rattle.hp_lex_tags.specs.Named.{reference_move, with_found}
use Rattle.hp_lex_tags.specs.Tags as tags
use Rattle.hp_lex_tags.specs.Rows as tag_rows
use Rattle.hp_lex_raw.specs.Raw as raw
use Rattle.hp_lex_raw.specs.Rows as raw_rows
use Rattle.hp_lex_markup.specs.Markup as markup
use Rattle.hp_lex_markup.specs.Rows as markup_rows
use Rattle.hp_lex_markup.specs.Words.{count, word}
use Rattle.hp_lex_markup.specs.declared.words.Word.{Word}
use Rattle.hp_lexer.specs.Table.{table}
use Rattle.hp_model.specs.Runs.{AreRead}
use Rattle.hp_runs.proofs.ReadRows.{IsHtml, flushed-read}
use Rattle.hp_runs.proofs.TagRows as tag_read
use Rattle.hp_runs.proofs.RawRows as raw_read
use Rattle.hp_runs.proofs.MarkupRows as markup_read
use Rattle.hp_runs.proofs.TableRows.{began_read}
use Rattle.hp_runs.specs.Closing.{AreCharacters}
use Rattle.hp_runs.proofs.ClosingRows.{Closes, began_alone, flushed-alone}
use Rattle.hp_runs.proofs.ClosingTags as tag_closes
use Rattle.hp_runs.proofs.ClosingRaw as raw_closes
use Rattle.hp_runs.proofs.ClosingMarkup as markup_closes
use Rattle.hp_pieces.proofs.Ahead.{has_none}
use Rattle.hp_pieces.proofs.LastRows.{Lasts, markup_last, raw_last, tags_last}

-- what a move over that text emits is as the lexer reads it; and where the text has no `>`, what is left has none, and characters alone are emitted before the end
abbrev pub Last : List ℕ → Move → Type 0
Last u (makes m es) = AreRead es × (has_none u ≡ true → (has_none m.unread ≡ true) × AreCharacters (tokens_of es))
Last u (ends es) = AreRead es
Last u _ = Unit {0}

none_dropped : (n : ℕ) (u : List ℕ) → has_none u ≡ true → has_none (drop n u) ≡ true
none_dropped zero u h = h
none_dropped (suc n) [] h = refl
none_dropped (suc n) (c ∷ cs) h = none_dropped n cs (and_parts (not (c == 62)) (has_none cs) h).1

is_greater : (c : ℕ) (b : Bool) → (cond b 10 c == 62) ≡ true → c ≡ 62
is_greater c true h = cc
is_greater c false h = eqb-true c 62 h

-- the code point is no `>`
no_greater : (c : ℕ) (cs : List ℕ) → has_none (c ∷ cs) ≡ true → (read_as c == 62) ≡ true → ⊥
no_greater c cs n e =
    both_ways (c == 62) (not-true (c == 62) (and_parts (not (c == 62)) (has_none cs) n).0) (eq-eqb c 62 (is_greater c (c == 13) e))

alone : (r : Row) (c : ℕ) (cs : List ℕ) → Closes (read_as c) r → has_none (c ∷ cs) ≡ true → AreCharacters r.emits
alone r c cs h n = at h.how
  where
    at : AreCharacters r.emits ⊎ (((read_as c == 62) ≡ true) × (r.reads ≡ Consume)) → AreCharacters r.emits
    at (inl a) = a
    at (inr e) = absurd (no_greater c cs n e.0)

-- a row on a code point, and on the end of input
on_point : (r : Row) (l : Lexing) (c : ℕ) (cs : List ℕ) (reads : Reads) → IsHtml r → Closes (read_as c) r → Last (c ∷ cs) (after_row r l c cs reads)
on_point r l c cs Consume h k =
    (began_read l.rested r.emits h.read, λ n. ((and_parts (not (c == 62)) (has_none cs) n).1, began_alone l.rested r.emits (alone r c cs k n)))
on_point r l c cs Again h k = (began_read l.rested r.emits h.read, λ n. (n, began_alone l.rested r.emits (alone r c cs k n)))
on_point r l c cs End h k = tt

on_end : (r : Row) (l : Lexing) (reads : Reads) → r.reads ≡ reads → IsHtml r → Lasts r → Last [] (after_end r l reads)
on_end r l Consume e h k = tt
on_end r l Again e h k = (began_read l.rested r.emits h.read, λ n. (refl, began_alone l.rested r.emits (at k.how)))
  where
    at : AreCharacters r.emits ⊎ (r.reads ≡ End) → AreCharacters r.emits
    at (inl a) = a
    at (inr x) = let no : Again ≡ End = sym e ∙ x in cc
on_end r l End e h k = began_read l.rested r.emits h.read

either : (u : List ℕ) (b : Bool) (x y : Move) → (b ≡ true → Last u x) → (b ≡ false → Last u y) → Last u (cond b x y)
either u true x y h k = h refl
either u false x y h k = k refl

reference_last : (o : Option Found) (l : Lexing) → Last l.unread (reference_move o l)
reference_last None l =
    (began_read l.rested (flushed_tokens l.machine) (flushed-read l.machine), λ n. (none_dropped 0 l.unread n, began_alone l.rested (flushed_tokens l.machine) (flushed-alone l.machine)))
reference_last (Some f) l = (
  began_read l.rested (flushed_tokens (with_found f l.machine l.unread)) (flushed-read (with_found f l.machine l.unread)),
  λ n. (none_dropped f.length l.unread n, began_alone l.rested (flushed_tokens (with_found f l.machine l.unread)) (flushed-alone (with_found f l.machine l.unread))),
)

tags_row : (l : Lexing) (text : List ℕ) → IsTrue (tag_rows.has_row l.machine.state) → Last text (row_end tag_rows.row l text)
tags_row l [] h = on_end (tag_rows.row l.machine None) l _ refl (tag_read.row_html l.machine None h) (tags_last l.machine.state l.machine h)
tags_row l (c ∷ cs) h =
    on_point (tag_rows.row l.machine (Some (read_as c))) l c cs _ (tag_read.row_html l.machine (Some (read_as c)) h) (tag_closes.row_closes l.machine (read_as c) h)

tags_lasts : (s : State) (names : List Reference) (l : Lexing) (text : List ℕ) → s ≡ l.machine.state → l.unread ≡ text → Last text (tags.last_state s names l text)
tags_lasts NamedCharacterReference names l text e u = subst (λ (t : List ℕ). Last t (reference_move (longest names l.unread) l)) u (reference_last (longest names l.unread) l)
tags_lasts s names l text e u =
    either text (tag_rows.has_row s) (row_end tag_rows.row l text) needs_more (λ h. tags_row l text (subst (λ x. tag_rows.has_row x ≡ true) e h)) (λ h. tt)

raw_row : (l : Lexing) (text : List ℕ) → IsTrue (raw_rows.has_row l.machine.state) → Last text (row_end raw_rows.row l text)
raw_row l [] h = on_end (raw_rows.row l.machine None) l _ refl (raw_read.row_html l.machine None h) (raw_last l.machine.state l.machine h)
raw_row l (c ∷ cs) h =
    on_point (raw_rows.row l.machine (Some (read_as c))) l c cs _ (raw_read.row_html l.machine (Some (read_as c)) h) (raw_closes.row_closes l.machine (read_as c) h)

markup_row : (l : Lexing) (text : List ℕ) → IsTrue (markup_rows.is_here l.machine.state) → Last text (row_end markup_rows.row l text)
markup_row l [] h = on_end (markup_rows.row l.machine None) l _ refl (markup_read.here_html l.machine None h) (markup_last l.machine.state l.machine h)
markup_row l (c ∷ cs) h =
    on_point (markup_rows.row l.machine (Some (read_as c))) l c cs _ (markup_read.here_html l.machine (Some (read_as c)) h) (markup_closes.here_closes l.machine (read_as c) h)

word_last : (o : Option Word) (l : Lexing) (text : List ℕ) → IsTrue (markup_rows.is_here l.machine.state) → l.unread ≡ text → Last text (markup.word_read_at_end o l text)
word_last None l text h u = markup_row l text h
word_last (Some w) l text h u = (tt, λ n. (none_dropped (count w) l.unread (ap has_none u ∙ n), tt))

is_first : (a b : Bool) → (a && b) ≡ true → a ≡ true
is_first true b h = refl
is_first false b h = h

markup_lasts : (s : State) (l : Lexing) (text : List ℕ) → s ≡ l.machine.state → l.unread ≡ text → Last text (markup.last_state s l text)
markup_lasts MarkupDeclarationOpen l text e u = word_last (word l.machine.state l.unread) l text (subst (λ x. markup_rows.is_here x ≡ true) e refl) u
markup_lasts AfterDoctypeName l text e u = word_last (word l.machine.state l.unread) l text (subst (λ x. markup_rows.is_here x ≡ true) e refl) u
markup_lasts s l text e u =
    either text (markup_rows.has_row s) (row_end markup_rows.row l text) needs_more
    (λ h. markup_row l text (subst (λ x. markup_rows.is_here x ≡ true) e (is_first (markup_rows.is_here s) (not (markup_rows.reads_word s)) h))) (λ h. tt)

table_lasts : (names : List Reference) (l : Lexing) (text : List ℕ) → l.unread ≡ text → Last text ((table names).last l text)
table_lasts names l text u =
    either text (tags.is_here l.machine.state) (tags.last_state l.machine.state names l text) (cond (raw.is_here l.machine.state) (raw.raw_rules.last l text) (markup.last_state l.machine.state l text))
    (λ h. tags_lasts l.machine.state names l text refl u)
    (λ h. either text (raw.is_here l.machine.state) (raw.raw_rules.last l text) (markup.last_state l.machine.state l text)
    (λ k. either text (raw_rows.has_row l.machine.state) (row_end raw_rows.row l text) needs_more (λ x. raw_row l text x) (λ x. tt)) (λ k. markup_lasts l.machine.state l text refl u))

on_lasts : (names : List Reference) (l : Lexing) (text : List ℕ) → l.unread ≡ text → Last text (end_move_on (table names) l text)
on_lasts names l [] u = table_lasts names l [] u
on_lasts names l (c ∷ cs) u =
    either (c ∷ cs) (l.machine.after_cr && c == 10) (after_pair l cs) ((table names).last l (c ∷ cs)) (λ h. (tt, λ n. ((and_parts (not (c == 62)) (has_none cs) n).1, tt)))
    (λ h. table_lasts names l (c ∷ cs) u)

pub end_move-last : (names : List Reference) (l : Lexing) → Last l.unread (end_move (table names) l)
end_move-last names l = on_lasts names l l.unread refl
