-- A named reference is one move.
use Rattle.std.proofs.Common.{◌≡◌, ℕ, ◌+◌, ◌*◌, ◌<◌, ◌≤◌, List, [], ◌∷◌, ◌++◌, Bool, true, false, ◌&&◌, not, nat_eq, length, take, drop, refl, ap, ◌∙◌, sym, subst, arith, Option, None, Some, append-nil, length-drop, IsTrue, get_or, suc, drop-cons, add-one}
use Rattle.std.specs.Prelude.{◌==◌, sum_by, IfSome}
use Rattle.std.specs.Bool.{OnFalse}
use Rattle.std.specs.Char.{len_utf8}
use Rattle.std.specs.Str.{chars, IsUtf8}
use lib.Utf8.{encodes}
use Rattle.std.proofs.lemmas.Str.{encodes-chars, encodes-append}
use Rattle.std.proofs.lemmas.List.{take_more, take-append-drop, take-append-le, drop-append-le}
use Rattle.std.proofs.lemmas.List.Sums.{sum_by-append}
use Rattle.hp_elements.specs.declared.token.Token.{Token}
use Rattle.hp_names.specs.References.{Reference}
use Rattle.hp_names.specs.Longest.{longest, is_open, StaysClosed, OverChars, IsLongest}
use Rattle.hp_names.specs.declared.names.Found.{Found}
use Rattle.hp_names.proofs.LawLemmas.{longest-IsLongest}
use Rattle.hp_names.proofs.OpenLemmas.{begins-length}
use Rattle.hp_tokens.specs.declared.state.State.{State}
use Rattle.hp_tokens.specs.declared.state.State.TheVariants.{NamedCharacterReference}
use Rattle.hp_tokens.specs.declared.machine.Machine.{Machine}
use Rattle.hp_tokens.specs.declared.lexing.LexState.{LexState}
use Rattle.hp_tokens.specs.Reading.{Unread, first}
use Rattle.hp_tokens.specs.Rows.{flushed_tokens, with_buffer}
use Rattle.hp_tokens.specs.Moves.{Lexing, Move, needs_more, makes, all_began, move_on, move, end_move_on, end_move, row_move, row_end}
use Rattle.hp_tokens.specs.Ranks.{rank, symbol_of}
use Rattle.hp_tokens.specs.Advancing.{held, unread, place_of, lexing, pair_next, SameStand, Goes, HasRows}
use Rattle.hp_tokens.proofs.Stepping.{goes_by, stand_same, chosen, no_pair_at}
use Rattle.hp_tokens.proofs.FineRows.{flushed-single, returns-rest}
use Rattle.hp_lex_tags.specs.Named.{reference_move, named_move, named_end, is_no_reference, read_buffer, with_found}
use Rattle.hp_lex_tags.specs.Held.{Decides}
use Rattle.hp_lex_tags.specs.Rows.{has_row, row}
use Rattle.hp_lex_tags.specs.Tags.{tag_rules, on_state, last_state, is_here}

-- what a table finds in the bytes of a text it finds in its code points
module _ (names : List Reference) (over : (cs : List ℕ) → OverChars names cs) (bytes text : List ℕ) (u : IsUtf8 bytes) (is : chars bytes ≡ text) where
  spelled : encodes text ≡ bytes
  spelled = ap (λ (cs : List ℕ). encodes cs) (sym is) ∙ encodes-chars bytes u

  pub open_of : is_open names bytes ≡ is_open names text
  open_of = ap (λ (bs : List ℕ). is_open names bs) (sym spelled) ∙ (over text).open_same

  pub longest_of : longest names bytes ≡ longest names text
  longest_of = ap (λ (bs : List ℕ). longest names bs) (sym spelled) ∙ (over text).longest_same

  pub closed_of : StaysClosed names bytes → StaysClosed names text
  closed_of closed more =
      let whole : encodes (text ++ more) ≡ bytes ++ encodes more = encodes-append text more ∙ ap (λ (bs : List ℕ). bs ++ encodes more) spelled in
      let c = closed (encodes more) in (
        sym (over (text ++ more)).longest_same ∙ (ap (λ (bs : List ℕ). longest names bs) whole ∙ (c.0 ∙ longest_of)),
        sym (over (text ++ more)).open_same ∙ (ap (λ (bs : List ℕ). is_open names bs) whole ∙ c.1),
      )

pub closed_if : (r : Bool) (names : List Reference) (over : (cs : List ℕ) → OverChars names cs) (bytes text : List ℕ) → IsUtf8 bytes → chars bytes ≡ text
    → OnFalse r (StaysClosed names bytes) → OnFalse r (StaysClosed names text)
closed_if true names over bytes text u is h = h
closed_if false names over bytes text u is h = closed_of names over bytes text u is h

-- what is found is within the text
found_within : (names : List Reference) (text : List ℕ) (o : Option Found) → IsLongest names text o → (f : Found) → o ≡ Some f → f.length ≤ length text
found_within names text None law f e = cc
found_within names text (Some g) law f e =
    let r = law.0 in
    let at : g.length ≡ length r.name = ap (λ (x : Found). x.length) law.3 in
    let same : g.length ≡ f.length = cc in
    omega (arith, begins-length text r.name law.2, at, same)

pub longest-within : (names : List Reference) (text : List ℕ) (f : Found) → longest names text ≡ Some f → f.length ≤ length text
longest-within names text f e = found_within names text (longest names text) (longest-IsLongest names text) f e

pub fits_of : (names : List Reference) (text : List ℕ) (o : Option Found) → o ≡ longest names text → IfSome o (λ f. f.length ≤ length text)
fits_of names text None e = tt
fits_of names text (Some f) e = longest-within names text f (sym e)

pub tags_rows : (names : List Reference) → HasRows (tag_rules names) has_row row
tags_rows names = record {
  on = λ l c cs is. on_row l.machine.state names l c cs is;
  last = λ l text is. last_row l.machine.state names l text is;
}
  where
    on_row : (s : State) (names : List Reference) (l : Lexing) (c : ℕ) (cs : List ℕ) → IsTrue (has_row s) → on_state s names l c cs ≡ row_move row l c cs
    on_row NamedCharacterReference names l c cs is = cc
    on_row s names l c cs is = chosen (has_row s) (row_move row l c cs) needs_more is

    last_row : (s : State) (names : List Reference) (l : Lexing) (text : List ℕ) → IsTrue (has_row s) → last_state s names l text ≡ row_end row l text
    last_row NamedCharacterReference names l text is = cc
    last_row s names l text is = chosen (has_row s) (row_end row l text) needs_more is

-- the move of a named reference
pub named_at : (names : List Reference) (l : Lexing) (c : ℕ) (cs : List ℕ) → l.machine.state ≡ NamedCharacterReference → l.unread ≡ c ∷ cs
    → (l.machine.after_cr && c == 10) ≡ false → move (tag_rules names) l ≡ named_move names l
named_at names l c cs is text no_lf =
    ap (λ (u : List ℕ). move_on (tag_rules names) l u) text ∙ (rw no_lf (ap (λ (s : State). on_state s names l c cs) is))

pub ended_at : (names : List Reference) (l : Lexing) → l.machine.state ≡ NamedCharacterReference
    → ((c : ℕ) (cs : List ℕ) → l.unread ≡ c ∷ cs → (l.machine.after_cr && c == 10) ≡ false) → end_move (tag_rules names) l ≡ named_end names l
ended_at names l is no_lf = at l.unread refl
  where
    at : (u : List ℕ) → l.unread ≡ u → end_move_on (tag_rules names) l u ≡ named_end names l
    at [] e = ap (λ (s : State). last_state s names l []) is
    at (c ∷ cs) e = rw (no_lf c cs e) (ap (λ (s : State). last_state s names l (c ∷ cs)) is)

-- what was decided is where the move leads
module _ (next : Lexing → Move) (mid : LexState) (input : Unread) (new : LexState) (old_tokens new_tokens : List Token) (rested : ℕ) (emitted : Bool)
    (is : mid.machine.state ≡ NamedCharacterReference) (within : held mid ≤ input.place)
    (settled : rested ≡ (lexing mid input rested).rested)
    (flag : emitted ≡ not (nat_eq (length new_tokens) (length old_tokens))) where
  unfound_goes : next (lexing mid input rested) ≡ reference_move None (lexing mid input rested) → Decides None mid input old_tokens new new_tokens
      → Goes next (lexing mid input rested) old_tokens (lexing new input rested) new_tokens emitted
  unfound_goes made d =
      let l : Lexing = lexing mid input rested in
      let place : place_of mid input + sum_by len_utf8 (take 0 (unread mid input)) ≡ place_of new input =
      omega (arith, ap (λ (xs : List ℕ). sum_by len_utf8 xs) d.1) in
      let text : drop 0 (unread mid input) ≡ unread new input = ap (λ (xs : List ℕ). xs ++ input.text) (sym d.1) in
      let P : State → Type 0 = λ s. 8 * length (unread new input) + rank new.machine.state (symbol_of (unread new input)) < 8 * length (unread mid input) + rank s (symbol_of (unread mid input)) in
      let same : length (unread new input) ≡ length (unread mid input) = ap length (sym text) in
      let lower : rank new.machine.state (symbol_of (unread new input)) ≡ 1 = ap (λ (m : Machine). rank m.state (symbol_of (unread new input))) d.0 in
      goes_by next l (lexing new input rested) old_tokens new_tokens (flushed_tokens mid.machine) emitted
      (made ∙ ap (λ (x : Lexing). makes x (all_began l.rested (flushed_tokens mid.machine))) (stand_same (sym d.0) place (sym settled) text))
      d.2 (flushed-single mid.machine) flag (subst P (sym is) (omega (arith, same, lower)))

  found_goes : (f : Found) → next (lexing mid input rested) ≡ reference_move (Some f) (lexing mid input rested) → Decides (Some f) mid input old_tokens new new_tokens
      → Goes next (lexing mid input rested) old_tokens (lexing new input rested) new_tokens emitted
  found_goes f made d =
      let l : Lexing = lexing mid input rested in
      let m : Machine = with_found f mid.machine (unread mid input) in
      let fits : f.length ≤ length mid.ahead = d.0 in
      let taken : take f.length (unread mid input) ≡ take f.length mid.ahead = take-append-le f.length mid.ahead input.text fits in
      let text : drop f.length (unread mid input) ≡ unread new input =
      drop-append-le f.length mid.ahead input.text fits ∙ ap (λ (xs : List ℕ). xs ++ input.text) (sym d.2) in
      let parts : held mid ≡ sum_by len_utf8 (take f.length mid.ahead) + held new =
      ap (λ (xs : List ℕ). sum_by len_utf8 xs) (sym (take-append-drop f.length mid.ahead))
      ∙ (sum_by-append len_utf8 (take f.length mid.ahead) (drop f.length mid.ahead)
      ∙ ap (λ (xs : List ℕ). sum_by len_utf8 (take f.length mid.ahead) + sum_by len_utf8 xs) (sym d.2)) in
      let place : place_of mid input + sum_by len_utf8 (take f.length (unread mid input)) ≡ place_of new input =
      omega (arith, ap (λ (xs : List ℕ). sum_by len_utf8 xs) taken, parts, within) in
      let P : State → Type 0 = λ s. 8 * length (unread new input) + rank new.machine.state (symbol_of (unread new input)) < 8 * length (unread mid input) + rank s (symbol_of (unread mid input)) in
      let shorter : length (unread new input) ≤ length (unread mid input) = omega (arith, ap length text, length-drop f.length (unread mid input)) in
      let lower : rank new.machine.state (symbol_of (unread new input)) ≡ 0 =
      ap (λ (x : Machine). rank x.state (symbol_of (unread new input))) d.1 ∙ returns-rest m.return_to (symbol_of (unread new input)) in
      goes_by next l (lexing new input rested) old_tokens new_tokens (flushed_tokens m) emitted
      (made ∙ ap (λ (x : Lexing). makes x (all_began l.rested (flushed_tokens m))) (stand_same (sym d.1) place (sym settled) text))
      d.3 (flushed-single m) flag (subst P (sym is) (omega (arith, shorter, lower)))

  pub decided_goes : (o : Option Found) → next (lexing mid input rested) ≡ reference_move o (lexing mid input rested) → Decides o mid input old_tokens new new_tokens
      → Goes next (lexing mid input rested) old_tokens (lexing new input rested) new_tokens emitted
  decided_goes None made d = unfound_goes made d
  decided_goes (Some f) made d = found_goes f made d

-- what is held stays before the cursor
held_fewer : (o : Option Found) (mid : LexState) (input : Unread) (new : LexState) (old_tokens new_tokens : List Token)
    → Decides o mid input old_tokens new new_tokens → held mid ≤ input.place → held new ≤ input.place
held_fewer None mid input new old_tokens new_tokens d h = omega (arith, ap (λ (xs : List ℕ). sum_by len_utf8 xs) d.1, h)
held_fewer (Some f) mid input new old_tokens new_tokens d h =
    let parts : held mid ≡ sum_by len_utf8 (take f.length mid.ahead) + held new =
    ap (λ (xs : List ℕ). sum_by len_utf8 xs) (sym (take-append-drop f.length mid.ahead))
    ∙ (sum_by-append len_utf8 (take f.length mid.ahead) (drop f.length mid.ahead)
    ∙ ap (λ (xs : List ℕ). sum_by len_utf8 (take f.length mid.ahead) + sum_by len_utf8 xs) (sym d.2)) in
    omega (arith, parts, h)

pub decided_held : (o : Option Found) (mid : LexState) (input : Unread) (new : LexState) (old_tokens new_tokens : List Token)
    → Decides o mid input old_tokens new new_tokens → held mid ≤ input.place → held new ≤ input.place
decided_held o mid input new old_tokens new_tokens d h = held_fewer o mid input new old_tokens new_tokens d h

-- where the name is decided, whatever follows
decided-move : (names : List Reference) (mid : LexState) (input : Unread) (rested : ℕ) → StaysClosed names mid.ahead
    → named_move names (lexing mid input rested) ≡ reference_move (longest names mid.ahead) (lexing mid input rested)
decided-move names mid input rested closed =
    let c = closed input.text in
    rw c.1 (ap (λ (o : Option Found). reference_move o (lexing mid input rested)) c.0)

-- the whole step
module _ (names : List Reference) (old : LexState) (old_input : Unread) (c : ℕ) (cs : List ℕ) (mid : LexState) (input : Unread) (rested : ℕ)
    (is : old.machine.state ≡ NamedCharacterReference) (text : unread old old_input ≡ c ∷ cs)
    (no_lf : (old.machine.after_cr && c == 10) ≡ false) (same : SameStand old old_input mid input) where
  stands : lexing mid input rested ≡ lexing old old_input rested
  stands = stand_same same.machine same.place refl same.text

  move_there : move (tag_rules names) (lexing mid input rested) ≡ named_move names (lexing mid input rested)
  move_there =
      ap (λ (l : Lexing). move (tag_rules names) l) stands
      ∙ (named_at names (lexing old old_input rested) c cs is text no_lf ∙ ap (λ (l : Lexing). named_move names l) (sym stands))

  pub step_goes : StaysClosed names mid.ahead → (new : LexState) (old_tokens new_tokens : List Token) (emitted : Bool)
      → Decides (longest names mid.ahead) mid input old_tokens new new_tokens → rested ≡ (lexing old old_input rested).rested
      → emitted ≡ not (nat_eq (length new_tokens) (length old_tokens))
      → Goes (move (tag_rules names)) (lexing old old_input rested) old_tokens (lexing new input rested) new_tokens emitted
  step_goes closed new old_tokens new_tokens emitted d settled flag =
      let P : Lexing → Type 0 = λ l. Goes (move (tag_rules names)) l old_tokens (lexing new input rested) new_tokens emitted in
      subst P stands
      (decided_goes (move (tag_rules names)) mid input new old_tokens new_tokens rested emitted
      (ap (λ (m : Machine). m.state) same.machine ∙ is) same.held
      (settled ∙ ap (λ (l : Lexing). l.rested) (sym stands)) flag (longest names mid.ahead)
      (move_there ∙ decided-move names mid input rested closed) d)

  pub step_needs : input.text ≡ [] → is_open names mid.ahead ≡ true
      → (move (tag_rules names) (lexing old old_input rested) ≡ needs_more) × (lexing mid input rested ≡ lexing old old_input rested)
  step_needs none is_still =
      let all : unread mid input ≡ mid.ahead = ap (λ (xs : List ℕ). mid.ahead ++ xs) none ∙ append-nil mid.ahead in
      let open_there : is_open names (unread mid input) ≡ true = ap (λ (xs : List ℕ). is_open names xs) all ∙ is_still in
      (ap (λ (l : Lexing). move (tag_rules names) l) (sym stands) ∙ (move_there ∙ (rw open_there refl)), stands)

-- one more code point is taken off the front
pub step_front : (xs rest : List ℕ) (i c : ℕ) → drop i xs ≡ c ∷ rest → (take (i + 1) xs ≡ take i xs ++ c ∷ []) × (drop (i + 1) xs ≡ rest)
step_front xs rest i c e =
    let less : i < length xs = omega (arith, ap length e, length-drop i xs) in
    let both : get_or xs i 0 ∷ drop (suc i) xs ≡ c ∷ rest = sym (drop-cons xs i 0 less) ∙ e in
    let same : get_or xs i 0 ≡ c = cc in
    let later : drop (suc i) xs ≡ rest = cc in
    (take_more xs i 0 less ∙ ap (λ (y : ℕ). take i xs ++ y ∷ []) same, rw add-one later)

-- the buffer that was read is that of the name
pub with_found_is : (f : Found) (m : Machine) (ahead text name rest buffer : List ℕ) (kept : Bool) → f.length ≤ length ahead
    → name ≡ take f.length ahead → rest ≡ drop f.length ahead → kept ≡ is_no_reference f m (first (rest ++ text))
    → buffer ≡ read_buffer f kept name → with_buffer buffer m ≡ with_found f m (ahead ++ text)
with_found_is f m ahead text name rest buffer kept fits is_name is_rest is_kept is_buffer =
    let taken : name ≡ take f.length (ahead ++ text) = is_name ∙ sym (take-append-le f.length ahead text fits) in
    let after : rest ++ text ≡ drop f.length (ahead ++ text) =
    ap (λ (xs : List ℕ). xs ++ text) is_rest ∙ sym (drop-append-le f.length ahead text fits) in
    let same_kept : kept ≡ is_no_reference f m (first (drop f.length (ahead ++ text))) =
    is_kept ∙ ap (λ (xs : List ℕ). is_no_reference f m (first xs)) after in
    ap (λ (b : List ℕ). with_buffer b m)
    (is_buffer ∙ (ap (λ (k : Bool). read_buffer f k name) same_kept
    ∙ ap (λ (xs : List ℕ). read_buffer f (is_no_reference f m (first (drop f.length (ahead ++ text)))) xs) taken))

-- the whole step where the input ends
pub end_goes : (names : List Reference) (old : LexState) (input : Unread) (new : LexState) (old_tokens new_tokens : List Token) (rested : ℕ)
    → old.machine.state ≡ NamedCharacterReference → held old ≤ input.place → input.text ≡ []
    → pair_next old.machine.after_cr (first (unread old input)) ≡ false
    → Decides (longest names old.ahead) old input old_tokens new new_tokens → rested ≡ (lexing old input rested).rested
    → (emitted : Bool) × Goes (end_move (tag_rules names)) (lexing old input rested) old_tokens (lexing new input rested) new_tokens emitted
end_goes names old input new old_tokens new_tokens rested is within none no_pair d settled =
    let l : Lexing = lexing old input rested in
    let all : unread old input ≡ old.ahead = ap (λ (xs : List ℕ). old.ahead ++ xs) none ∙ append-nil old.ahead in (
      not (nat_eq (length new_tokens) (length old_tokens)),
      decided_goes (end_move (tag_rules names)) old input new old_tokens new_tokens rested (not (nat_eq (length new_tokens) (length old_tokens)))
          is within settled refl (longest names old.ahead)
          (ended_at names l is (λ c cs e. no_pair_at old.machine.after_cr (unread old input) no_pair c cs e)
          ∙ ap (λ (xs : List ℕ). reference_move (longest names xs) l) all)
          d,
    )

-- a state of this part has a row, or is that of named references
pub here_row : (s : State) → IsTrue (is_here s) → (s ≡ NamedCharacterReference → ⊥) → IsTrue (has_row s)
here_row NamedCharacterReference is not = absurd (not refl)
here_row _ is not = is
