-- A word that is read is one move.
use Rattle.std.proofs.Common.{◌≡◌, ℕ, ◌+◌, ◌-◌, ◌*◌, ◌<◌, ◌≤◌, List, [], ◌∷◌, ◌++◌, Bool, true, false, ◌&&◌, cond, not, nat_eq, length, take, drop, refl, ap, ◌∙◌, sym, subst, arith, Option, None, Some, append-nil, length-append, length-drop, IsTrue, eq-eqb}
use Rattle.std.specs.Prelude.{◌==◌, sum_by}
use Rattle.std.specs.Char.{len_utf8}
use Rattle.std.proofs.lemmas.List.{take-append-drop, take-append-le, drop-append-le}
use Rattle.std.proofs.lemmas.List.Sums.{sum_by-append}
use Rattle.hp_elements.specs.declared.token.Token.{Token}
use Rattle.hp_tokens.specs.declared.state.State.{State}
use Rattle.hp_tokens.specs.declared.state.State.TheVariants.{MarkupDeclarationOpen, AfterDoctypeName}
use Rattle.hp_tokens.specs.declared.machine.Machine.{Machine}
use Rattle.hp_tokens.specs.declared.lexing.LexState.{LexState}
use Rattle.hp_tokens.specs.declared.rows.Reads.{Reads}
use Rattle.hp_tokens.specs.declared.rows.Reads.TheVariants.{Consume, Again, End}
use Rattle.hp_tokens.specs.Reading.{Unread, first}
use Rattle.hp_tokens.specs.Rows.{Row, Follows}
use Rattle.hp_tokens.specs.Moves.{Lexing, Emitted, Move, needs_more, asks_cdata, makes, ends, standing, taking, all_began, read_as, after_row, row_move, after_end, row_end, move_on, move, end_move_on, end_move}
use Rattle.hp_tokens.specs.Ranks.{rank, symbol_of, Falls, IsFine}
use Rattle.hp_tokens.specs.Advancing.{held, unread, place_of, lexing, SameStand, Appends, Goes, ReadsOne, HasRows}
use Rattle.hp_tokens.proofs.Stepping.{goes_by, stand_same, chosen, passed, rank-below, read_smaller, again_smaller, Appends-row}
use Rattle.hp_tokens.proofs.Told.{never}
use Rattle.hp_lex_markup.specs.declared.words.Word.{Word}
use Rattle.hp_lex_markup.specs.declared.words.Word.TheVariants.{Hyphens, Doctype, Cdata, Public, System}
use Rattle.hp_lex_markup.specs.Words.{is_open, word, count, asks}
use Rattle.hp_lex_markup.specs.Rows.{row, is_here, reads_word, has_row}
use Rattle.hp_lex_markup.specs.Markup.{after_word, in_section, past_word, word_read, word_move, word_read_at_end, word_end, on_state, last_state, markup_rules}
use Rattle.hp_lex_markup.specs.Held.{PastWord, MovesByRow}
use Rattle.hp_lex_markup.specs.Fine.{here_fine}
use Rattle.hp_lex_markup.proofs.Spelled.{stays}

-- the moves in a state, by whether it may read a word
on_either : (s : State) (l : Lexing) (c : ℕ) (cs : List ℕ) → on_state s l c cs ≡ cond (reads_word s) (word_move l c cs) (cond (has_row s) (row_move row l c cs) needs_more)
on_either MarkupDeclarationOpen l c cs = refl
on_either AfterDoctypeName l c cs = refl
on_either _ l c cs = refl

last_either : (s : State) (l : Lexing) (text : List ℕ) → last_state s l text ≡ cond (reads_word s) (word_end l text) (cond (has_row s) (row_end row l text) needs_more)
last_either MarkupDeclarationOpen l text = refl
last_either AfterDoctypeName l text = refl
last_either _ l text = refl

no_word_there : (a b : Bool) → IsTrue (a && not b) → b ≡ false
no_word_there true true h = never h
no_word_there true false h = refl
no_word_there false b h = never h

-- the states that read by their row alone
pub markup_rows : HasRows markup_rules has_row row
markup_rows = record {
  on = λ l c cs is.
      on_either l.machine.state l c cs
      ∙ (passed (reads_word l.machine.state) _ _ (no_word_there (is_here l.machine.state) (reads_word l.machine.state) is) ∙ chosen (has_row l.machine.state) _ _ is);
  last = λ l text is.
      last_either l.machine.state l text
      ∙ (passed (reads_word l.machine.state) _ _ (no_word_there (is_here l.machine.state) (reads_word l.machine.state) is) ∙ chosen (has_row l.machine.state) _ _ is);
}

both_true : (a b : Bool) → IsTrue a → b ≡ false → IsTrue (a && not b)
both_true true true h k = never (sym k)
both_true true false h k = refl
both_true false b h k = h

pub here_row : (s : State) → IsTrue (is_here s) → reads_word s ≡ false → IsTrue (has_row s)
here_row s is other = both_true (is_here s) (reads_word s) is other

pub row_here : (s : State) → IsTrue (has_row s) → IsTrue (is_here s)
row_here s h = first_of_both (is_here s) (not (reads_word s)) h
  where
    first_of_both : (a b : Bool) → IsTrue (a && b) → IsTrue a
    first_of_both true b h = refl
    first_of_both false b h = h

pub word_here : (s : State) → IsTrue (reads_word s) → IsTrue (is_here s)
word_here MarkupDeclarationOpen h = refl
word_here AfterDoctypeName h = refl
word_here _ h = never h

pub word_true : (b : Bool) → b ≡ true → IsTrue b
word_true b e = e

-- the move in a state that may read a word
on_word : (l : Lexing) (c : ℕ) (cs : List ℕ) → IsTrue (reads_word l.machine.state) → on_state l.machine.state l c cs ≡ word_move l c cs
on_word l c cs is = on_either l.machine.state l c cs ∙ chosen (reads_word l.machine.state) _ _ is

last_word : (l : Lexing) (text : List ℕ) → IsTrue (reads_word l.machine.state) → last_state l.machine.state l text ≡ word_end l text
last_word l text is = last_either l.machine.state l text ∙ chosen (reads_word l.machine.state) _ _ is

word_at : (l : Lexing) (c : ℕ) (cs : List ℕ) → IsTrue (reads_word l.machine.state) → l.unread ≡ c ∷ cs
    → (l.machine.after_cr && c == 10) ≡ false → move markup_rules l ≡ word_move l c cs
word_at l c cs is text no_lf =
    ap (λ (u : List ℕ). move_on markup_rules l u) text ∙ (passed (l.machine.after_cr && c == 10) _ _ no_lf ∙ on_word l c cs is)

ended_at : (l : Lexing) (c : ℕ) (cs : List ℕ) → IsTrue (reads_word l.machine.state) → l.unread ≡ c ∷ cs
    → (l.machine.after_cr && c == 10) ≡ false → end_move markup_rules l ≡ word_end l (c ∷ cs)
ended_at l c cs is text no_lf =
    ap (λ (u : List ℕ). end_move_on markup_rules l u) text ∙ (passed (l.machine.after_cr && c == 10) _ _ no_lf ∙ last_word l (c ∷ cs) is)

-- where the word is decided
module _ (old : LexState) (old_input : Unread) (c : ℕ) (cs : List ℕ) (mid : LexState) (input : Unread) (rested : ℕ)
    (is : IsTrue (reads_word old.machine.state)) (text : unread old old_input ≡ c ∷ cs)
    (no_lf : (old.machine.after_cr && c == 10) ≡ false) (same : SameStand old old_input mid input) where
  pub stands : lexing mid input rested ≡ lexing old old_input rested
  stands = stand_same same.machine same.place refl same.text

  move_there : move markup_rules (lexing mid input rested) ≡ word_move (lexing mid input rested) c cs
  move_there =
      ap (λ (l : Lexing). move markup_rules l) stands
      ∙ (word_at (lexing old old_input rested) c cs is text no_lf ∙ ap (λ (l : Lexing). word_move l c cs) (sym stands))

  pub decided_move : is_open mid.machine.state mid.ahead ≡ false
      → move markup_rules (lexing mid input rested) ≡ word_read (word mid.machine.state mid.ahead) (lexing mid input rested) c cs
  decided_move closed =
      let s = stays mid.machine.state mid.ahead input.text closed in
      move_there ∙ (passed (is_open mid.machine.state (unread mid input)) _ _ s.0 ∙ ap (λ (o : Option Word). word_read o (lexing mid input rested) c cs) s.1)

  pub needs_more_there : input.text ≡ [] → is_open mid.machine.state mid.ahead ≡ true → move markup_rules (lexing mid input rested) ≡ needs_more
  needs_more_there none undecided =
      let all : unread mid input ≡ mid.ahead = ap (λ (xs : List ℕ). mid.ahead ++ xs) none ∙ append-nil mid.ahead in
      let undecided_there : is_open mid.machine.state (unread mid input) ≡ true = ap (λ (xs : List ℕ). is_open mid.machine.state xs) all ∙ undecided in
      move_there ∙ chosen (is_open mid.machine.state (unread mid input)) _ _ undecided_there

-- a word that was read ahead is read
count-positive : (w : Word) → 0 < count w
count-positive Hyphens = omega arith
count-positive Doctype = omega arith
count-positive Cdata = omega arith
count-positive Public = omega arith
count-positive System = omega arith

-- fewer code points are unread, and a rank is below 8
fewer : (n ahead further old new new_rank old_rank : ℕ) → 0 < n → n ≤ ahead → old ≡ ahead + further → new ≡ old - n → new_rank < 8
    → 8 * new + new_rank < 8 * old + old_rank
fewer n ahead further old new new_rank old_rank one fits all shorter below = omega arith

module _ (w : Word) (mid : LexState) (input : Unread) (new : LexState) (rested : ℕ) (within : held mid ≤ input.place)
    (past : PastWord w mid new) where
  parts : held mid ≡ sum_by len_utf8 (take (count w) mid.ahead) + held new
  parts =
      ap (λ (xs : List ℕ). sum_by len_utf8 xs) (sym (take-append-drop (count w) mid.ahead))
      ∙ (sum_by-append len_utf8 (take (count w) mid.ahead) (drop (count w) mid.ahead)
      ∙ ap (λ (xs : List ℕ). sum_by len_utf8 (take (count w) mid.ahead) + sum_by len_utf8 xs) (sym past.ahead))

  pub past_held : held new ≤ input.place
  past_held = omega (arith, parts, within)

  past_text : drop (count w) (unread mid input) ≡ unread new input
  past_text = drop-append-le (count w) mid.ahead input.text past.fits ∙ ap (λ (xs : List ℕ). xs ++ input.text) (sym past.ahead)

  past_place : place_of mid input + sum_by len_utf8 (take (count w) (unread mid input)) ≡ place_of new input
  past_place =
      let taken : take (count w) (unread mid input) ≡ take (count w) mid.ahead = take-append-le (count w) mid.ahead input.text past.fits in
      omega (arith, ap (λ (xs : List ℕ). sum_by len_utf8 xs) taken, parts, within)

  past_smaller : 8 * length (unread new input) + rank new.machine.state (symbol_of (unread new input))
      < 8 * length (unread mid input) + rank mid.machine.state (symbol_of (unread mid input))
  past_smaller =
      fewer (count w) (length mid.ahead) (length input.text) (length (unread mid input)) (length (unread new input)) _ _ (count-positive w) past.fits
      (length-append mid.ahead input.text) (ap length (sym past_text) ∙ length-drop (count w) (unread mid input))
      (rank-below new.machine.state (symbol_of (unread new input)))

  pub past_goes : (next : Lexing → Move) (tokens : List Token) → rested ≡ (lexing mid input rested).rested
      → next (lexing mid input rested) ≡ past_word w (lexing mid input rested)
      → Goes next (lexing mid input rested) tokens (lexing new input rested) tokens false
  past_goes next tokens settled made =
      goes_by next (lexing mid input rested) (lexing new input rested) tokens tokens [] false
      (made ∙ ap (λ (x : Lexing). makes x []) (stand_same (sym past.machine) past_place (sym settled) past_text))
      (sym (append-nil tokens)) tt (sym (ap not (eq-eqb (length tokens) (length tokens) refl))) past_smaller

-- the row of the state on a code point
module _ (next : Lexing → Move) (old : LexState) (input : Unread) (mid : Machine) (new : LexState) (new_input : Unread) (c rested : ℕ)
    (old_tokens new_tokens : List Token) (emitted : Bool) (is : IsTrue (is_here old.machine.state))
    (settled : rested ≡ (lexing old input rested).rested)
    (flag : emitted ≡ not (nat_eq (length new_tokens) (length old_tokens))) where
  fine : IsFine old.machine.state (Some (read_as c)) (row old.machine (Some (read_as c)))
  fine = here_fine old.machine (Some (read_as c)) is

  pub consumed : next (lexing old input rested) ≡ row_move row (lexing old input rested) c (unread new new_input)
      → Follows (row old.machine (Some (read_as c))) old_tokens mid new_tokens Consume → new.machine ≡ record mid { after_cr = c == 13 }
      → unread old input ≡ c ∷ unread new new_input → place_of new new_input ≡ place_of old input + len_utf8 c
      → Goes next (lexing old input rested) old_tokens (lexing new new_input rested) new_tokens emitted
  consumed made f machine text place =
      let l : Lexing = lexing old input rested in
      let r : Row = row old.machine (Some (read_as c)) in
      goes_by next l (lexing new new_input rested) old_tokens new_tokens r.emits emitted
      (made ∙ (ap (λ (x : Reads). after_row r l c (unread new new_input) x) (sym f.reads)
      ∙ ap (λ (x : Lexing). makes x (all_began l.rested r.emits))
      (stand_same (ap (λ (x : Machine). record x { after_cr = c == 13 }) (sym f.to) ∙ sym machine) (sym place) (sym settled) refl)))
      f.emits fine.single flag (read_smaller old.machine.state new.machine.state c (unread new new_input) (unread old input) text)

  pub reread : (cs : List ℕ) → next (lexing old input rested) ≡ row_move row (lexing old input rested) c cs
      → Follows (row old.machine (Some (read_as c))) old_tokens mid new_tokens Again → new.machine ≡ mid
      → unread old input ≡ c ∷ cs → unread new new_input ≡ unread old input → place_of new new_input ≡ place_of old input
      → Goes next (lexing old input rested) old_tokens (lexing new new_input rested) new_tokens emitted
  reread cs made f machine text same_text place =
      let l : Lexing = lexing old input rested in
      let r : Row = row old.machine (Some (read_as c)) in
      goes_by next l (lexing new new_input rested) old_tokens new_tokens r.emits emitted
      (made ∙ (ap (λ (x : Reads). after_row r l c cs x) (sym f.reads)
      ∙ ap (λ (x : Lexing). makes x (all_began l.rested r.emits))
      (stand_same (sym f.to ∙ sym machine) (sym place) (sym settled) (sym text ∙ sym same_text))))
      f.emits fine.single flag
      (again_smaller old.machine.state new.machine.state r c cs (unread old input) (unread new new_input) fine (sym f.reads)
      (ap (λ (x : Machine). x.state) (machine ∙ f.to)) text same_text)

-- the row of the state on the end of input
module _ (old : LexState) (input : Unread) (mid : Machine) (rested : ℕ) (old_tokens new_tokens : List Token)
    (is : IsTrue (reads_word old.machine.state)) (none : unread old input ≡ []) (settled : rested ≡ (lexing old input rested).rested) where
  end_fine : IsFine old.machine.state None (row old.machine None)
  end_fine = here_fine old.machine None (word_here old.machine.state is)

  no_word : (s : State) → word s [] ≡ None
  no_word MarkupDeclarationOpen = refl
  no_word _ = refl

  at_end_row : (reads : Reads) → (row old.machine None).reads ≡ reads
      → end_move markup_rules (lexing old input rested) ≡ after_end (row old.machine None) (lexing old input rested) reads
  at_end_row reads e =
      let l : Lexing = lexing old input rested in
      let absent : word old.machine.state (unread old input) ≡ None = ap (λ (u : List ℕ). word old.machine.state u) none ∙ no_word old.machine.state in
      ap (λ (u : List ℕ). end_move_on markup_rules l u) none
      ∙ (last_word l [] is
      ∙ (ap (λ (o : Option Word). word_read_at_end o l []) absent
      ∙ ap (λ (x : Reads). after_end (row old.machine None) l x) e))

  falls_end : (s to : State) (x : Reads) → x ≡ Again → Falls s None to x → rank to None < rank s None
  falls_end s to Again e h = h
  falls_end s to Consume e h = cc
  falls_end s to End e h = cc

  pub reread_end : Follows (row old.machine None) old_tokens mid new_tokens Again
      → Goes (end_move markup_rules) (lexing old input rested) old_tokens (lexing (record old { machine = mid }) input rested) new_tokens
      (not (nat_eq (length new_tokens) (length old_tokens)))
  reread_end f =
      let l : Lexing = lexing old input rested in
      let r : Row = row old.machine None in
      let P : Machine → Type 0 = λ m. rank m.state None < rank old.machine.state None in
      let lower : rank mid.state None < rank old.machine.state None = subst P (sym f.to) (falls_end old.machine.state r.to.state r.reads (sym f.reads) end_fine.falls) in
      let Q : List ℕ → Type 0 = λ u. 8 * length u + rank mid.state (symbol_of u) < 8 * length u + rank old.machine.state (symbol_of u) in
      goes_by (end_move markup_rules) l (lexing (record old { machine = mid }) input rested) old_tokens new_tokens r.emits _
      (at_end_row Again (sym f.reads) ∙ ap (λ (x : Lexing). makes x (all_began l.rested r.emits)) (stand_same (sym f.to) refl (sym settled) (sym none)))
      f.emits end_fine.single refl (subst Q (sym none) (omega (arith, lower)))

  pub ended_there : Follows (row old.machine None) old_tokens mid new_tokens End
      → (es : List Emitted) × (end_move markup_rules (lexing old input rested) ≡ ends es) × Appends old_tokens es new_tokens
  ended_there f =
      let r : Row = row old.machine None in
      (all_began (lexing old input rested).rested r.emits, at_end_row End (sym f.reads), Appends-row (lexing old input rested).rested old_tokens new_tokens r.emits f.emits end_fine.single)

-- the word where the input ends behind what is unread
pub end_word : (old : LexState) (input : Unread) (c rested : ℕ) (cs : List ℕ) → IsTrue (reads_word old.machine.state) → input.text ≡ []
    → unread old input ≡ c ∷ cs → (old.machine.after_cr && c == 10) ≡ false
    → end_move markup_rules (lexing old input rested) ≡ word_read_at_end (word old.machine.state old.ahead) (lexing old input rested) (c ∷ cs)
end_word old input c rested cs is none text no_lf =
    let l : Lexing = lexing old input rested in
    let all : unread old input ≡ old.ahead = ap (λ (xs : List ℕ). old.ahead ++ xs) none ∙ append-nil old.ahead in
    ended_at l c cs is text no_lf
    ∙ ap (λ (u : List ℕ). word_read_at_end (word old.machine.state u) l (c ∷ cs)) all

pub none_unread : (u : List ℕ) → first u ≡ None → u ≡ []
none_unread [] h = refl
none_unread (c ∷ cs) h = cc

-- what is done with the word, where it is decided
module _ (old : LexState) (old_input : Unread) (c : ℕ) (cs : List ℕ) (mid : LexState) (input : Unread)
    (is : IsTrue (reads_word old.machine.state)) (text : unread old old_input ≡ c ∷ cs)
    (no_lf : (old.machine.after_cr && c == 10) ≡ false) (same : SameStand old old_input mid input)
    (closed : is_open mid.machine.state mid.ahead ≡ false) where
  pub none_read : word mid.machine.state mid.ahead ≡ None → MovesByRow (move markup_rules) mid input c
  none_read none rested rest e =
      decided_move old old_input c rest mid input rested is (sym same.text ∙ e) no_lf same closed
      ∙ ap (λ (o : Option Word). word_read o (lexing mid input rested) c rest) none

  read_there : (w : Word) (b : Bool) (rested : ℕ) → word mid.machine.state mid.ahead ≡ Some w → asks w ≡ b
      → move markup_rules (lexing mid input rested)
      ≡ cond b (asks_cdata (taking (count w) (in_section mid.machine) (lexing mid input rested)) (taking (count w) (after_word w mid.machine) (lexing mid input rested)))
      (past_word w (lexing mid input rested))
  read_there w b rested some e =
      decided_move old old_input c cs mid input rested is text no_lf same closed
      ∙ (ap (λ (o : Option Word). word_read o (lexing mid input rested) c cs) some
      ∙ ap (λ (x : Bool). cond x (asks_cdata (taking (count w) (in_section mid.machine) (lexing mid input rested)) (taking (count w) (after_word w mid.machine) (lexing mid input rested)))
      (past_word w (lexing mid input rested))) e)

  pub asked_there : (w : Word) (rested : ℕ) → word mid.machine.state mid.ahead ≡ Some w → asks w ≡ true
      → (foreign : Lexing) × (html : Lexing) × (move markup_rules (lexing old old_input rested) ≡ asks_cdata foreign html)
  asked_there w rested some asked = (
    taking (count w) (in_section mid.machine) (lexing mid input rested),
    taking (count w) (after_word w mid.machine) (lexing mid input rested),
    ap (λ (l : Lexing). move markup_rules l) (sym (stands old old_input c cs mid input rested is text no_lf same)) ∙ read_there w true rested some asked,
  )

  pub past_there : (w : Word) (new : LexState) (rested : ℕ) (tokens : List Token) → word mid.machine.state mid.ahead ≡ Some w → asks w ≡ false
      → PastWord w mid new → rested ≡ (lexing old old_input rested).rested
      → Goes (move markup_rules) (lexing old old_input rested) tokens (lexing new input rested) tokens false
  past_there w new rested tokens some unasked past settled =
      let e = stands old old_input c cs mid input rested is text no_lf same in
      let P : Lexing → Type 0 = λ l. Goes (move markup_rules) l tokens (lexing new input rested) tokens false in
      subst P e
      (past_goes w mid input new rested same.held past (move markup_rules) tokens
      (settled ∙ ap (λ (l : Lexing). l.rested) (sym e)) (read_there w false rested some unasked))

  pub row_there : (new : LexState) (new_input : Unread) (rested : ℕ) (old_tokens new_tokens : List Token) (emitted : Bool)
      → ((next : Lexing → Move) → MovesByRow next mid input c → ReadsOne next mid input old_tokens new new_input new_tokens emitted)
      → word mid.machine.state mid.ahead ≡ None → rested ≡ (lexing old old_input rested).rested
      → Goes (move markup_rules) (lexing old old_input rested) old_tokens (lexing new new_input rested) new_tokens emitted
  row_there new new_input rested old_tokens new_tokens emitted reads none settled =
      let e = stands old old_input c cs mid input rested is text no_lf same in
      let P : Lexing → Type 0 = λ l. Goes (move markup_rules) l old_tokens (lexing new new_input rested) new_tokens emitted in
      subst P e (reads (move markup_rules) (none_read none) rested (settled ∙ ap (λ (l : Lexing). l.rested) (sym e)))

-- the same where the input ends
module _ (old : LexState) (input : Unread) (c : ℕ) (is : IsTrue (reads_word old.machine.state)) (none : input.text ≡ [])
    (no_lf : (old.machine.after_cr && c == 10) ≡ false) where
  pub none_read_at_end : word old.machine.state old.ahead ≡ None → MovesByRow (end_move markup_rules) old input c
  none_read_at_end absent rested cs e =
      end_word old input c rested cs is none e no_lf
      ∙ ap (λ (o : Option Word). word_read_at_end o (lexing old input rested) (c ∷ cs)) absent

  pub past_at_end : (cs : List ℕ) → unread old input ≡ c ∷ cs → (w : Word) (new : LexState) (rested : ℕ) (tokens : List Token)
      → word old.machine.state old.ahead ≡ Some w → held old ≤ input.place → PastWord w old new → rested ≡ (lexing old input rested).rested
      → Goes (end_move markup_rules) (lexing old input rested) tokens (lexing new input rested) tokens false
  past_at_end cs text w new rested tokens some within past settled =
      past_goes w old input new rested within past (end_move markup_rules) tokens settled
      (end_word old input c rested cs is none text no_lf
      ∙ ap (λ (o : Option Word). word_read_at_end o (lexing old input rested) (c ∷ cs)) some)
