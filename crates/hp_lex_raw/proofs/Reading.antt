-- A code point is read by the row of its state, where nothing is asked.
use Rattle.std.proofs.Common.{◌≡◌, ℕ, ◌+◌, List, ◌∷◌, Bool, true, false, ◌&&◌, cond, not, nat_eq, length, refl, ap, ◌∙◌, sym, Some, IsTrue}
use Rattle.std.specs.Prelude.{◌==◌}
use Rattle.std.specs.Char.{len_utf8}
use Rattle.hp_elements.specs.declared.token.Token.{Token}
use Rattle.hp_tokens.specs.declared.state.State.{State}
use Rattle.hp_tokens.specs.declared.machine.Machine.{Machine}
use Rattle.hp_tokens.specs.declared.lexing.LexState.{LexState}
use Rattle.hp_tokens.specs.declared.rows.Reads.{Reads}
use Rattle.hp_tokens.specs.declared.rows.Reads.TheVariants.{Consume, Again, End}
use Rattle.hp_tokens.specs.Reading.{Unread}
use Rattle.hp_tokens.specs.Rows.{Row, Follows}
use Rattle.hp_tokens.specs.Moves.{Lexing, Move, Rules, needs_more, makes, all_began, read_as, after_row, row_move, row_end, move_on, move}
use Rattle.hp_tokens.specs.Ranks.{IsFine, Falls}
use Rattle.hp_tokens.specs.Advancing.{unread, place_of, lexing, Goes, HasRows, MovesByRows}
use Rattle.hp_tokens.proofs.Stepping.{goes_by, stand_same, chosen, passed, read_smaller, again_smaller}
use Rattle.hp_lex_raw.specs.Rows.{has_row, row}
use Rattle.hp_lex_raw.specs.Raw.{asks, raw_rules}
use Rattle.hp_lex_raw.specs.Fine.{row_fine}

-- where a code point is unread, and nothing is asked
module _ (old : LexState) (input : Unread) (mid : Machine) (new : LexState) (new_input : Unread) (c rested : ℕ)
    (old_tokens new_tokens : List Token) (emitted : Bool)
    (is : IsTrue (has_row old.machine.state)) (not_asked : asks old.machine c ≡ false)
    (no_lf : (old.machine.after_cr && c == 10) ≡ false)
    (settled : rested ≡ (lexing old input rested).rested)
    (flag : emitted ≡ not (nat_eq (length new_tokens) (length old_tokens))) where
  by_row : (cs : List ℕ) → unread old input ≡ c ∷ cs → move raw_rules (lexing old input rested) ≡ row_move row (lexing old input rested) c cs
  by_row cs text =
      let l : Lexing = lexing old input rested in
      ap (λ (u : List ℕ). move_on raw_rules l u) text
      ∙ (passed (old.machine.after_cr && c == 10) _ _ no_lf
      ∙ (chosen (has_row old.machine.state) _ _ is ∙ passed (asks old.machine c) _ _ not_asked))

  pub consumed : Follows (row old.machine (Some (read_as c))) old_tokens mid new_tokens Consume → new.machine ≡ record mid { after_cr = c == 13 }
      → unread old input ≡ c ∷ unread new new_input → place_of new new_input ≡ place_of old input + len_utf8 c
      → Goes (move raw_rules) (lexing old input rested) old_tokens (lexing new new_input rested) new_tokens emitted
  consumed f machine text place =
      let l : Lexing = lexing old input rested in
      let r : Row = row old.machine (Some (read_as c)) in
      let fine : IsFine old.machine.state (Some (read_as c)) r = row_fine old.machine (Some (read_as c)) is in
      goes_by (move raw_rules) l (lexing new new_input rested) old_tokens new_tokens r.emits emitted
      (by_row (unread new new_input) text
      ∙ (ap (λ (x : Reads). after_row r l c (unread new new_input) x) (sym f.reads)
      ∙ ap (λ (x : Lexing). makes x (all_began l.rested r.emits))
      (stand_same (ap (λ (x : Machine). record x { after_cr = c == 13 }) (sym f.to) ∙ sym machine) (sym place) (sym settled) refl)))
      f.emits fine.single flag (read_smaller old.machine.state new.machine.state c (unread new new_input) (unread old input) text)

  pub reread : (cs : List ℕ) → Follows (row old.machine (Some (read_as c))) old_tokens mid new_tokens Again → new.machine ≡ mid
      → unread old input ≡ c ∷ cs → unread new new_input ≡ unread old input → place_of new new_input ≡ place_of old input
      → Goes (move raw_rules) (lexing old input rested) old_tokens (lexing new new_input rested) new_tokens emitted
  reread cs f machine text same_text place =
      let l : Lexing = lexing old input rested in
      let r : Row = row old.machine (Some (read_as c)) in
      let fine : IsFine old.machine.state (Some (read_as c)) r = row_fine old.machine (Some (read_as c)) is in
      goes_by (move raw_rules) l (lexing new new_input rested) old_tokens new_tokens r.emits emitted
      (by_row cs text
      ∙ (ap (λ (x : Reads). after_row r l c cs x) (sym f.reads)
      ∙ ap (λ (x : Lexing). makes x (all_began l.rested r.emits))
      (stand_same (sym f.to ∙ sym machine) (sym place) (sym settled) (sym text ∙ sym same_text))))
      f.emits fine.single flag
      (again_smaller old.machine.state new.machine.state r c cs (unread old input) (unread new new_input) fine (sym f.reads)
      (ap (λ (x : Machine). x.state) (machine ∙ f.to)) text same_text)

-- the LF of a CR LF pair is dropped in any state
pub pairs : MovesByRows (move raw_rules) (λ (s : State). false) row
pairs = record {
  by_row = λ l c cs text no_lf is. cc;
  by_pair = λ l c cs text lf. ap (λ (u : List ℕ). move_on raw_rules l u) text ∙ (rw lf refl);
}

-- at the end of input nothing is asked
abbrev pub telling : Rules
telling = record { on = λ l c cs. row_move row l c cs; last = raw_rules.last }

pub told_rows : HasRows telling has_row row
told_rows = record {
  on = λ l c cs is. refl;
  last = λ l text is. chosen (has_row l.machine.state) (row_end row l text) needs_more is;
}

-- a row ends the input only at the end of input
falls_not : (s : State) (c : ℕ) (to : State) (x : Reads) → x ≡ End → Falls s (Some c) to x → ⊥
falls_not s c to End e h = h
falls_not s c to Consume e h = cc
falls_not s c to Again e h = cc

pub never_ends : (m : Machine) (c : ℕ) (old_tokens : List Token) (new : Machine) (new_tokens : List Token) → IsTrue (has_row m.state)
    → Follows (row m (Some c)) old_tokens new new_tokens End → ⊥
never_ends m c old_tokens new new_tokens is f =
    falls_not m.state c (row m (Some c)).to.state (row m (Some c)).reads (sym f.reads) (row_fine m (Some c) is).falls
