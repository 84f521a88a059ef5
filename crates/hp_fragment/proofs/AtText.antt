-- Before a code point that is emitted as it stands a character comes next.
use Rattle.std.proofs.Common.{◌≡◌, ℕ, ◌+◌, List, [], ◌∷◌, Bool, true, false, refl, ap, ◌∙◌, sym, subst, Option, None, Some, ◌++◌}
use Rattle.std.specs.Prelude.{◌==◌, ◌&&◌, if◌then◌else◌, nat_lt}
use Rattle.std.specs.Char.{len_utf8}
use Rattle.std.proofs.lemmas.Bool.{ltb-false, ltb-true}
use Rattle.hp_names.specs.BuiltIn.{built_in}
use Rattle.hp_names.specs.References.{Reference}
use Rattle.hp_tokens.specs.Advancing.{lexing}
use Rattle.hp_tokens.specs.Moves.{Lexing, Move, after_pair, after_row, all_began, asks_last_tag, move_on, needs_more, read_as, row_move, standing}
use Rattle.hp_tokens.specs.Plain.{none_of, whole_data_stops, whole_raw_stops}
use Rattle.hp_tokens.specs.PlainLaws.{apart, none-high}
use Rattle.hp_tokens.specs.Reading.{FrontIs, IsFront, Unread, first}
use Rattle.hp_tokens.specs.Rows.{Row, character, plus, stay}
use Rattle.hp_tokens.specs.declared.state.State.{State}
use Rattle.hp_tokens.specs.declared.state.State.TheVariants.{Data, Rawtext, Rcdata, ScriptData}
use Rattle.hp_lex_markup.specs.Markup.{markup_rules}
use Rattle.hp_lex_raw.specs.Raw as raw
use Rattle.hp_lex_raw.specs.Rows as raw_rows
use Rattle.hp_lex_raw.proofs.TextRuns.{rawtext_whole, rcdata_whole, script_whole}
use Rattle.hp_lex_tags.specs.Tags as tags
use Rattle.hp_lex_tags.proofs.PlainRows.{data_whole}
use Rattle.hp_lexer.specs.declared.lexer.Asked.TheVariants as asked
use Rattle.hp_lexer.specs.declared.lexer.Lexer.{Lexer}
use Rattle.hp_lexer.specs.Standing.{stands}
use Rattle.hp_lexer.specs.Table.{on_table, table}
use Rattle.hp_lexer.proofs.Opening.{at_nothing}
use Rattle.hp_fragment.specs.AtText.{begins_text, is_of_text, text_stops}
use Rattle.hp_fragment.specs.Reading.{IsAtText}

-- read as LF where it is CR, it is emitted too
read-apart : (c : ℕ) → none_of text_stops c ≡ true → none_of whole_data_stops (read_as c) ≡ true
read-apart c h = by_cases (c == 13) refl
  where
    by_cases : (b : Bool) → (c == 13) ≡ b → none_of whole_data_stops (if b then 10 else c) ≡ true
    by_cases true e = refl
    by_cases false e = let a = apart text_stops c h in rw (a.0, e, a.1.0, a.1.1.0) refl

read-apart_raw : (c : ℕ) → none_of text_stops c ≡ true → none_of whole_raw_stops (read_as c) ≡ true
read-apart_raw c h = by_cases (c == 13) refl
  where
    by_cases : (b : Bool) → (c == 13) ≡ b → none_of whole_raw_stops (if b then 10 else c) ≡ true
    by_cases true e = refl
    by_cases false e = let a = apart text_stops c h in rw (a.0, e, a.1.1.0) refl

-- the move in a state, and in one of text that of its row, which emits it
module _ (names : List Reference) (l : Lexing) (c : ℕ) (cs : List ℕ) where
  abbrev move_in : State → Move
  move_in s =
      if tags.is_here s then tags.on_state s names l c cs
      else if raw.is_here s then (if raw_rows.has_row s then (if (raw.names_end_tag s && raw.is_untold l.machine.last_tag) && raw_rows.ends_name (read_as c) then asks_last_tag else row_move raw_rows.row l c cs) else needs_more)
      else markup_rules.on l c cs

  abbrev by_row : Row → Move
  by_row r = after_row r l c cs r.reads

  row-emits : (s : State) → l.machine.state ≡ s → is_of_text s ≡ true → none_of text_stops c ≡ true → on_table names l c cs ≡ by_row (plus (read_as c) (stay l.machine))
  row-emits Data is t h = ap move_in is ∙ ap by_row (data_whole.stays l.machine (read_as c) is (read-apart c h))
  row-emits Rcdata is t h = ap move_in is ∙ ap by_row ((rcdata_whole Rcdata refl).stays l.machine (read_as c) is (read-apart c h))
  row-emits Rawtext is t h = ap move_in is ∙ ap by_row ((rawtext_whole Rawtext refl).stays l.machine (read_as c) is (read-apart_raw c h))
  row-emits ScriptData is t h = ap move_in is ∙ ap by_row ((script_whole ScriptData refl).stays l.machine (read_as c) is (read-apart_raw c h))
  row-emits _ is t h = cc

-- so a character comes next
text-next : (l : Lexing) (c : ℕ) (cs : List ℕ) → l.unread ≡ c ∷ cs → l.machine.after_cr ≡ false → is_of_text l.machine.state ≡ true → none_of text_stops c ≡ true → IsAtText l
text-next l c cs unread no_cr text h = record {
  next = standing (record l.machine { after_cr = c == 13 }) (l.place + len_utf8 c) l.rested cs;
  emitted = all_began l.rested (character (read_as c) ∷ []);
  code_point = read_as c;
  makes_it =
      ap (λ (u : List ℕ). move_on (table built_in) l u) unread
      ∙ (ap (λ (b : Bool). if b && c == 10 then after_pair l cs else on_table built_in l c cs) no_cr ∙ row-emits built_in l c cs l.machine.state refl text h);
  is_it = refl;
}

-- the first byte of a text tells of its first code point whether it is one of these
front-apart : (byte : ℕ) (text : List ℕ) (f : FrontIs text byte) → none_of text_stops byte ≡ true → none_of text_stops f.c ≡ true
front-apart byte text f h = by_cases (nat_lt byte 128) refl
  where
    by_cases : (b : Bool) → nat_lt byte 128 ≡ b → none_of text_stops f.c ≡ true
    by_cases true e = subst (λ (c : ℕ). none_of text_stops c ≡ true) (f.ascii (ltb-true byte 128 e)) h
    by_cases false e = none-high text_stops refl f.c (f.other (ltb-false byte 128 e))

first-parts : (text : List ℕ) (c : ℕ) → first text ≡ Some c → (cs : List ℕ) × (text ≡ c ∷ cs)
first-parts [] c e = cc
first-parts (x ∷ xs) c e = (xs, cc)

pub at-text : (l : Lexer) (input : Unread) (front : Option ℕ) → l.asked ≡ asked.Nothing → l.lex.machine.after_cr ≡ false → l.lex.ahead ≡ [] → is_of_text l.lex.machine.state ≡ true → IsFront input.text front → begins_text front ≡ true
    → IsAtText (stands l input)
at-text l input None none no_cr ahead text is h = cc
at-text l input (Some byte) none no_cr ahead text is h =
    let parts = first-parts input.text is.c is.first in
    subst IsAtText (sym (at_nothing l input none))
    (text-next (lexing l.lex input l.rested) is.c parts.0 (ap (λ (u : List ℕ). u ++ input.text) ahead ∙ parts.1) no_cr text (front-apart byte input.text is h))
