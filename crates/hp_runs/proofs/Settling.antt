-- What is no character is emitted by a move that ends at a rest.
use Rattle.std.proofs.Common.{◌≡◌, ℕ, List, [], ◌∷◌, Bool, true, false, cond, subst, Option, None, Some, ◌⊎◌, inl, inr}
use Rattle.std.specs.Prelude.{◌==◌, ◌&&◌}
use Rattle.hp_names.specs.References.{Reference}
use Rattle.hp_names.specs.Longest.{is_open as is_open_name, longest}
use Rattle.hp_names.specs.declared.names.Found.{Found}
use Rattle.hp_tokens.specs.declared.rows.Reads.{Reads}
use Rattle.hp_tokens.specs.declared.rows.Reads.TheVariants.{Consume, Again, End}
use Rattle.hp_tokens.specs.declared.state.State.{State}
use Rattle.hp_tokens.specs.declared.state.State.TheVariants.{NamedCharacterReference, MarkupDeclarationOpen, AfterDoctypeName}
use Rattle.hp_tokens.specs.Advancing.{tokens_of}
use Rattle.hp_tokens.specs.Moves.{Lexing, Move, needs_more, asks_cdata, asks_last_tag, makes, after_row, after_pair, move_on, read_as, row_move, taking}
use Rattle.hp_tokens.specs.Rows.{Row, flushed_tokens}
use Rattle.hp_tokens.specs.States.{is_resting}
use Rattle.hp_lex_tags.specs.Tags as tags
use Rattle.hp_lex_tags.specs.Rows as tag_rows
use Rattle.hp_lex_tags.specs.Named.{reference_move, with_found}
use Rattle.hp_lex_raw.specs.Raw as raw
use Rattle.hp_lex_raw.specs.Rows as raw_rows
use Rattle.hp_lex_markup.specs.Markup as markup
use Rattle.hp_lex_markup.specs.Rows as markup_rows
use Rattle.hp_lex_markup.specs.Words.{asks, count, is_open, word}
use Rattle.hp_lex_markup.specs.declared.words.Word.{Word}
use Rattle.hp_lexer.specs.Table.{table}
use Rattle.hp_runs.specs.Closing.{AreCharacters, TagsRest}
use Rattle.hp_runs.proofs.ClosingRows.{began_alone, flushed-alone}
use Rattle.hp_runs.proofs.SettlingRows.{Settles, markup_settles, raw_settle, tags_settle}

-- what a move leaves
abbrev pub MoveSettles : Move → Type 0
MoveSettles (makes m es) = AreCharacters (tokens_of es) ⊎ (is_resting m.machine.state ≡ true)
MoveSettles _ = Unit {0}

either-settles : (b : Bool) (x y : Move) → MoveSettles x → MoveSettles y → MoveSettles (cond b x y)
either-settles true x y h k = h
either-settles false x y h k = k

module _ (l : Lexing) (c : ℕ) (cs : List ℕ) where
  row_settles : (r : Row) (reads : Reads) → Settles r → MoveSettles (after_row r l c cs reads)
  row_settles r reads h = by reads h.how
    where
      by : (reads : Reads) → AreCharacters r.emits ⊎ (is_resting r.to.state ≡ true) → MoveSettles (after_row r l c cs reads)
      by Consume (inl a) = inl (began_alone l.rested r.emits a)
      by Consume (inr e) = inr e
      by Again (inl a) = inl (began_alone l.rested r.emits a)
      by Again (inr e) = inr e
      by End h = tt

  reference_settles : (o : Option Found) → MoveSettles (reference_move o l)
  reference_settles None = inl (began_alone l.rested (flushed_tokens l.machine) (flushed-alone l.machine))
  reference_settles (Some f) = inl (began_alone l.rested (flushed_tokens (with_found f l.machine l.unread)) (flushed-alone (with_found f l.machine l.unread)))

  tags_move : (s : State) (names : List Reference) → MoveSettles (tags.on_state s names l c cs)
  tags_move NamedCharacterReference names =
      either-settles (is_open_name names l.unread) needs_more (reference_move (longest names l.unread) l) tt (reference_settles (longest names l.unread))
  tags_move s names =
      either-settles (tag_rows.has_row s) (row_move tag_rows.row l c cs) needs_more
      (row_settles (tag_rows.row l.machine (Some (read_as c))) (tag_rows.row l.machine (Some (read_as c))).reads (tags_settle l.machine (read_as c))) tt

  raw_move : MoveSettles (raw.raw_rules.on l c cs)
  raw_move =
      either-settles (raw_rows.has_row l.machine.state) (cond (raw.asks l.machine c) asks_last_tag (row_move raw_rows.row l c cs)) needs_more
      (either-settles (raw.asks l.machine c) asks_last_tag (row_move raw_rows.row l c cs) tt
      (row_settles (raw_rows.row l.machine (Some (read_as c))) (raw_rows.row l.machine (Some (read_as c))).reads (raw_settle l.machine (read_as c)))) tt

  markup_row : MoveSettles (row_move markup_rows.row l c cs)
  markup_row = row_settles (markup_rows.row l.machine (Some (read_as c))) (markup_rows.row l.machine (Some (read_as c))).reads (markup_settles l.machine (read_as c))

  word_move : (o : Option Word) → MoveSettles (markup.word_read o l c cs)
  word_move None = markup_row
  word_move (Some w) =
      either-settles (asks w) (asks_cdata (taking (count w) (markup.in_section l.machine) l) (taking (count w) (markup.after_word w l.machine) l)) (markup.past_word w l) tt (inl tt)

  markup_move : (s : State) → MoveSettles (markup.on_state s l c cs)
  markup_move MarkupDeclarationOpen =
      either-settles (is_open l.machine.state l.unread) needs_more (markup.word_read (word l.machine.state l.unread) l c cs) tt (word_move (word l.machine.state l.unread))
  markup_move AfterDoctypeName =
      either-settles (is_open l.machine.state l.unread) needs_more (markup.word_read (word l.machine.state l.unread) l c cs) tt (word_move (word l.machine.state l.unread))
  markup_move s = either-settles (markup_rows.has_row s) (row_move markup_rows.row l c cs) needs_more markup_row tt

on_settles : (names : List Reference) (l : Lexing) (u : List ℕ) → MoveSettles (move_on (table names) l u)
on_settles names l [] = tt
on_settles names l (c ∷ cs) =
    either-settles (l.machine.after_cr && c == 10) (after_pair l cs) ((table names).on l c cs) (inl tt)
    (either-settles (tags.is_here l.machine.state) (tags.on_state l.machine.state names l c cs) (cond (raw.is_here l.machine.state) (raw.raw_rules.on l c cs) (markup.on_state l.machine.state l c cs))
    (tags_move l c cs l.machine.state names)
    (either-settles (raw.is_here l.machine.state) (raw.raw_rules.on l c cs) (markup.on_state l.machine.state l c cs) (raw_move l c cs) (markup_move l c cs l.machine.state)))

pub tags-rest : TagsRest
tags-rest names l m es made = subst MoveSettles made (on_settles names l l.unread)
