-- What the code's steps do is moves of the rules.
use Rattle.std.proofs.Common.{◌≡◌, ℕ, ◌+◌, ◌*◌, ◌<◌, List, [], ◌∷◌, ◌++◌, Bool, true, false, ◌&&◌, cond, not, nat_eq, length, map, refl, ap, ◌∙◌, sym, subst, arith, Option, None, Some, append-nil, length-append, eqb-true, eq-eqb}
use Rattle.std.specs.Prelude.{◌==◌, IsTrue}
use Rattle.std.specs.Char.{len_utf8}
use Rattle.std.proofs.lemmas.Bool.{and_parts}
use Rattle.hp_elements.specs.declared.token.Token.{Token}
use Rattle.hp_elements.specs.declared.token.Token.TheVariants as token
use Rattle.hp_tokens.specs.declared.state.State.{State}
use Rattle.hp_tokens.specs.declared.state.State.TheVariants.{AttributeName, AfterAttributeName}
use Rattle.hp_tokens.specs.declared.machine.Machine.{Machine}
use Rattle.hp_tokens.specs.declared.lexing.LexState.{LexState}
use Rattle.hp_tokens.specs.declared.rows.Reads.{Reads}
use Rattle.hp_tokens.specs.declared.rows.Reads.TheVariants.{Consume, Again, End}
use Rattle.hp_tokens.specs.Reading.{Unread, first}
use Rattle.hp_tokens.specs.Rows.{Row, Follows}
use Rattle.hp_tokens.specs.Moves.{Lexing, Emitted, Move, Rules, needs_more, makes, ends, standing, all_began, read_as, after_row, after_end, move_on, move, end_move_on, end_move}
use Rattle.hp_tokens.specs.Runs.{here}
use Rattle.hp_tokens.specs.Groups.{Through, done, going, AllBegan, Together, at_once}
use Rattle.hp_tokens.specs.Ranks.{rank, ends_name, symbol_of, weight, Falls, IsSingle, AreSingle, IsFine}
use Rattle.hp_tokens.specs.Advancing.{unread, place_of, lexing, pair_next, single, singles, tokens_of, Began, IsRun, IsRunText, AreRuns, Appends, Says, Goes, HasRows, MovesByRows}

pub tokens_of-all_began : (place : ℕ) (ts : List Token) → tokens_of (all_began place ts) ≡ ts
tokens_of-all_began place [] = refl
tokens_of-all_began place (t ∷ ts) = ap (λ (xs : List Token). t ∷ xs) (tokens_of-all_began place ts)

all_began-Began : (place : ℕ) (ts : List Token) → Began (all_began place ts) place
all_began-Began place [] = tt
all_began-Began place (t ∷ ts) = refl

all_began-AllBegan : (place : ℕ) (ts : List Token) → AllBegan (all_began place ts) place
all_began-AllBegan place [] = tt
all_began-AllBegan place (t ∷ ts) = (refl, all_began-AllBegan place ts)

-- tokens of one code point each are their own list
single-alone : (t : Token) → IsSingle t → single t ≡ t ∷ []
single-alone (token.Characters class text) h =
    ap (λ (xs : List ℕ). map (λ c. token.Characters class (c ∷ [])) xs) h.1
    ∙ ap (λ (xs : List ℕ). token.Characters class xs ∷ []) (sym h.1)
single-alone _ h = refl

pub singles-alone : (ts : List Token) → AreSingle ts → singles ts ≡ ts
singles-alone [] h = refl
singles-alone (t ∷ ts) h = ap (λ (xs : List Token). xs ++ singles ts) (single-alone t h.0) ∙ ap (λ (xs : List Token). t ∷ xs) (singles-alone ts h.1)

IsRun-alone : (t : Token) → IsSingle t → IsRun t
IsRun-alone (token.Characters class text) h = let P : List ℕ → Type 0 = λ xs. IsRunText xs in subst P (sym h.1) (λ e. refl)
IsRun-alone _ h = tt

pub AreRuns-alone : (ts : List Token) → AreSingle ts → AreRuns ts
AreRuns-alone [] h = tt
AreRuns-alone (t ∷ ts) h = (IsRun-alone t h.0, AreRuns-alone ts h.1)

says_more : (n k : ℕ) (e : Bool) → e ≡ not (nat_eq n k) → k < n → e ≡ true
says_more n k e flag more = told (nat_eq n k) refl
  where
    told : (b : Bool) → nat_eq n k ≡ b → e ≡ true
    told true same = absurd (omega (arith, more, eqb-true n k same))
    told false other = flag ∙ ap not other

pub Says-row : (place : ℕ) (old ts new : List Token) (emitted : Bool) → new ≡ old ++ ts → emitted ≡ not (nat_eq (length new) (length old))
    → Says (all_began place ts) emitted
Says-row place old [] new emitted e flag =
    let same : length new ≡ length old = ap length (e ∙ append-nil old) in
    flag ∙ ap not (eq-eqb (length new) (length old) same)
Says-row place old (t ∷ ts) new emitted e flag =
    says_more (length new) (length old) emitted flag (omega (arith, ap length e, length-append old (t ∷ ts)))

-- what a row emits is appended
pub Appends-row : (place : ℕ) (old new ts : List Token) → new ≡ old ++ ts → AreSingle ts → Appends old (all_began place ts) new
Appends-row place old new ts e h = record {
  more = ts;
  appended = e;
  spelled = singles-alone ts h ∙ sym (tokens_of-all_began place ts);
  runs = AreRuns-alone ts h;
}

-- a move that appended the tokens ts, all begun at one place
pub goes_by : (next : Lexing → Move) (old new : Lexing) (old_tokens new_tokens ts : List Token) (emitted : Bool)
    → next old ≡ makes new (all_began old.rested ts) → new_tokens ≡ old_tokens ++ ts → AreSingle ts
    → emitted ≡ not (nat_eq (length new_tokens) (length old_tokens)) → weight new < weight old → Goes next old old_tokens new new_tokens emitted
goes_by next old new old_tokens new_tokens ts emitted made appended alone flag falls =
    let all : List Emitted = all_began old.rested ts in
    let none : all ≡ all ++ [] = sym (append-nil all) in
    let P : List Emitted → Type 0 = λ es. Appends old_tokens es new_tokens in
    let Q : List Emitted → Type 0 = λ es. Began es old.rested in
    let R : List Emitted → Type 0 = λ es. Says es emitted in
    let S : List Token → List Emitted → Type 0 = λ more es. Together next old es new more in
    let appended_all : Appends old_tokens (all ++ []) new_tokens = subst P none (Appends-row old.rested old_tokens new_tokens ts appended alone) in
    record {
      mid = new;
      first = all;
      rest = [];
      made = made;
      leads = here;
      appends = appended_all;
      began = subst Q none (all_began-Began old.rested ts);
      says = subst R none (Says-row old.rested old_tokens ts new_tokens emitted appended flag);
      smaller = falls;
      through = λ may h. going h made done;
      together = subst (S appended_all.more) none (at_once made (all_began-AllBegan old.rested ts));
    }

either_below : (b : Bool) (x y : ℕ) → x < 8 → y < 8 → cond b x y < 8
either_below true x y h k = h
either_below false x y h k = k

pub rank-below : (s : State) (symbol : Option ℕ) → rank s symbol < 8
rank-below AttributeName symbol = either_below (ends_name symbol) 1 0 (omega arith) (omega arith)
rank-below AfterAttributeName symbol = either_below (ends_name symbol) 0 1 (omega arith) (omega arith)
rank-below _ symbol = omega arith

-- a code point was consumed
pub read_smaller : (old new : State) (c : ℕ) (cs text : List ℕ) → text ≡ c ∷ cs
    → 8 * length cs + rank new (symbol_of cs) < 8 * length text + rank old (symbol_of text)
read_smaller old new c cs text e = omega (arith, rank-below new (symbol_of cs), ap length e)

falls_again : (s : State) (c : ℕ) (to : State) (x : Reads) → x ≡ Again → Falls s (Some c) to x → rank to (Some c) < rank s (Some c)
falls_again s c to Again e h = h
falls_again s c to Consume e h = cc
falls_again s c to End e h = cc

-- one is read again, in a state of a lower rank
pub again_smaller : (s to : State) (r : Row) (c : ℕ) (cs text other : List ℕ) → IsFine s (Some (read_as c)) r → r.reads ≡ Again
    → to ≡ r.to.state → text ≡ c ∷ cs → other ≡ text
    → 8 * length other + rank to (symbol_of other) < 8 * length text + rank s (symbol_of text)
again_smaller s to r c cs text other fine reads is e same =
    let falls : rank r.to.state (Some (read_as c)) < rank s (Some (read_as c)) = falls_again s (read_as c) r.to.state r.reads reads fine.falls in
    let P : State → Type 0 = λ x. rank x (Some (read_as c)) < rank s (Some (read_as c)) in
    let Q : Option ℕ → Type 0 = λ o. rank to o < rank s o in
    let at : symbol_of text ≡ Some (read_as c) = ap (λ (u : List ℕ). symbol_of u) e in
    let lower : rank to (symbol_of text) < rank s (symbol_of text) = subst Q (sym at) (subst P (sym is) falls) in
    let R : List ℕ → Type 0 = λ u. 8 * length u + rank to (symbol_of u) < 8 * length text + rank s (symbol_of text) in
    subst R (sym same) (omega (arith, lower))

pub stand_same : {m m' : Machine} {p p' r r' : ℕ} {u u' : List ℕ} → m ≡ m' → p ≡ p' → r ≡ r' → u ≡ u' → standing m p r u ≡ standing m' p' r' u'
stand_same {m} {m'} {p} {p'} {r} {r'} {u} {u'} a b c d =
    ap (λ (x : Machine). standing x p r u) a ∙ (ap (λ (x : ℕ). standing m' x r u) b ∙ (ap (λ (x : ℕ). standing m' p' x u) c ∙ ap (λ (x : List ℕ). standing m' p' r' x) d))

pub text_of_some : (text : List ℕ) {c : ℕ} → first text ≡ Some c → (cs : List ℕ) × (text ≡ c ∷ cs)
text_of_some text {c} h = go text c h
  where
    go : (text : List ℕ) (c : ℕ) → first text ≡ Some c → (cs : List ℕ) × (text ≡ c ∷ cs)
    go [] c h = cc
    go (x ∷ xs) c h = let e : x ≡ c = cc in (xs, ap (λ (y : ℕ). y ∷ xs) e)

-- the move of a choice
pub chosen : (b : Bool) (x y : Move) → IsTrue b → cond b x y ≡ x
chosen true x y h = refl
chosen false x y h = cc

pub passed : (b : Bool) (x y : Move) → b ≡ false → cond b x y ≡ y
passed true x y h = cc
passed false x y h = refl

-- where a state has a row, moves are those of the row
pub by_rows : (rules : Rules) (has : State → Bool) (row : Machine → Option ℕ → Row) → HasRows rules has row → MovesByRows (move rules) has row
by_rows rules has row rows = record {
  by_row = λ l c cs text no_lf is. ap (λ (u : List ℕ). move_on rules l u) text ∙ (rw no_lf (rows.on l c cs is));
  by_pair = λ l c cs text lf. ap (λ (u : List ℕ). move_on rules l u) text ∙ (rw lf refl);
}

pub end_by_rows : (rules : Rules) (has : State → Bool) (row : Machine → Option ℕ → Row) → HasRows rules has row → MovesByRows (end_move rules) has row
end_by_rows rules has row rows = record {
  by_row = λ l c cs text no_lf is. ap (λ (u : List ℕ). end_move_on rules l u) text ∙ (rw no_lf (rows.last l (c ∷ cs) is));
  by_pair = λ l c cs text lf. ap (λ (u : List ℕ). end_move_on rules l u) text ∙ (rw lf refl);
}

module _ (has : State → Bool) (row : Machine → Option ℕ → Row) (next : Lexing → Move) (rows : MovesByRows next has row)
    (old : LexState) (input : Unread) (mid : Machine) (new : LexState) (new_input : Unread) (c rested : ℕ)
    (old_tokens new_tokens : List Token) (emitted : Bool)
    (is : IsTrue (has old.machine.state)) (fine : IsFine old.machine.state (Some (read_as c)) (row old.machine (Some (read_as c))))
    (no_lf : (old.machine.after_cr && c == 10) ≡ false)
    (settled : rested ≡ (lexing old input rested).rested)
    (flag : emitted ≡ not (nat_eq (length new_tokens) (length old_tokens))) where
  pub consumed : Follows (row old.machine (Some (read_as c))) old_tokens mid new_tokens Consume → new.machine ≡ record mid { after_cr = c == 13 }
      → unread old input ≡ c ∷ unread new new_input → place_of new new_input ≡ place_of old input + len_utf8 c
      → Goes next (lexing old input rested) old_tokens (lexing new new_input rested) new_tokens emitted
  consumed f machine text place =
      let l : Lexing = lexing old input rested in
      let r : Row = row old.machine (Some (read_as c)) in
      goes_by next l (lexing new new_input rested) old_tokens new_tokens r.emits emitted
      (rows.by_row l c (unread new new_input) text no_lf is
      ∙ (ap (λ (x : Reads). after_row r l c (unread new new_input) x) (sym f.reads)
      ∙ ap (λ (x : Lexing). makes x (all_began l.rested r.emits))
      (stand_same (ap (λ (x : Machine). record x { after_cr = c == 13 }) (sym f.to) ∙ sym machine) (sym place) (sym settled) refl)))
      f.emits fine.single flag (read_smaller old.machine.state new.machine.state c (unread new new_input) (unread old input) text)

  pub reread : (cs : List ℕ) → Follows (row old.machine (Some (read_as c))) old_tokens mid new_tokens Again → new.machine ≡ mid
      → unread old input ≡ c ∷ cs → unread new new_input ≡ unread old input → place_of new new_input ≡ place_of old input
      → Goes next (lexing old input rested) old_tokens (lexing new new_input rested) new_tokens emitted
  reread cs f machine text same_text place =
      let l : Lexing = lexing old input rested in
      let r : Row = row old.machine (Some (read_as c)) in
      goes_by next l (lexing new new_input rested) old_tokens new_tokens r.emits emitted
      (rows.by_row l c cs text no_lf is
      ∙ (ap (λ (x : Reads). after_row r l c cs x) (sym f.reads)
      ∙ ap (λ (x : Lexing). makes x (all_began l.rested r.emits))
      (stand_same (sym f.to ∙ sym machine) (sym place) (sym settled) (sym text ∙ sym same_text))))
      f.emits fine.single flag
      (again_smaller old.machine.state new.machine.state r c cs (unread old input) (unread new new_input) fine (sym f.reads)
      (ap (λ (x : Machine). x.state) (machine ∙ f.to)) text same_text)

-- the LF of a CR LF pair comes next, or does not
pub pair_next_at : (after_cr : Bool) (o : Option ℕ) → pair_next after_cr o ≡ true → (c : ℕ) × (o ≡ Some c) × ((after_cr && c == 10) ≡ true)
pair_next_at after_cr None h = cc
pair_next_at after_cr (Some c) h = (c, refl, h)

pub no_pair_at : (after_cr : Bool) (u : List ℕ) → pair_next after_cr (first u) ≡ false → (c : ℕ) (cs : List ℕ) → u ≡ c ∷ cs
    → (after_cr && c == 10) ≡ false
no_pair_at after_cr u h c cs e = ap (λ (xs : List ℕ). pair_next after_cr (first xs)) (sym e) ∙ h

-- the LF of a CR LF pair is dropped
pub pair_dropped : (next : Lexing → Move) {has : State → Bool} {row : Machine → Option ℕ → Row} → MovesByRows next has row → (old : LexState) (input : Unread) (new : LexState) (new_input : Unread) (c rested : ℕ) (tokens : List Token)
    → (old.machine.after_cr && c == 10) ≡ true → rested ≡ (lexing old input rested).rested → new.machine ≡ record old.machine { after_cr = false }
    → unread old input ≡ c ∷ unread new new_input → place_of new new_input ≡ place_of old input + len_utf8 c
    → Goes next (lexing old input rested) tokens (lexing new new_input rested) tokens false
pair_dropped next rows old input new new_input c rested tokens is_lf settled machine text place =
    let l : Lexing = lexing old input rested in
    let lf : c ≡ 10 = eqb-true c 10 (and_parts old.machine.after_cr (c == 10) is_lf).1 in
    let width : place_of old input + 1 ≡ place_of new new_input = rw lf at (sym place) in
    goes_by next l (lexing new new_input rested) tokens tokens [] false
    (rows.by_pair l c (unread new new_input) text is_lf
    ∙ ap (λ (x : Lexing). makes x []) (stand_same (sym machine) width (sym settled) refl))
    (sym (append-nil tokens)) tt (rw (eq-eqb (length tokens) (length tokens) refl) refl)
    (read_smaller old.machine.state new.machine.state c (unread new new_input) (unread old input) text)

pub none_left : (u : List ℕ) → None ≡ first u → u ≡ []
none_left [] h = refl
none_left (c ∷ cs) h = cc

pub nothing_unread : (rules : Rules) (l : Lexing) → first l.unread ≡ None → move rules l ≡ needs_more
nothing_unread rules l h = ap (λ (u : List ℕ). move_on rules l u) (empty l.unread h)
  where
    empty : (u : List ℕ) → first u ≡ None → u ≡ []
    empty [] h = refl
    empty (c ∷ cs) h = cc

-- the row of a state on the end of input
module _ (has : State → Bool) (row : Machine → Option ℕ → Row) (rules : Rules) (rows : HasRows rules has row)
    (old : LexState) (input : Unread) (mid : Machine) (rested : ℕ) (old_tokens new_tokens : List Token) (emitted : Bool)
    (is : IsTrue (has old.machine.state)) (fine : IsFine old.machine.state None (row old.machine None))
    (none : unread old input ≡ []) (settled : rested ≡ (lexing old input rested).rested)
    (flag : emitted ≡ not (nat_eq (length new_tokens) (length old_tokens))) where
  end_row : (reads : Reads) → (row old.machine None).reads ≡ reads → end_move rules (lexing old input rested) ≡ after_end (row old.machine None) (lexing old input rested) reads
  end_row reads e =
      let l : Lexing = lexing old input rested in
      ap (λ (u : List ℕ). end_move_on rules l u) none ∙ (rows.last l [] is ∙ ap (λ (x : Reads). after_end (row old.machine None) l x) e)

  falls_end : (s to : State) (x : Reads) → x ≡ Again → Falls s None to x → rank to None < rank s None
  falls_end s to Again e h = h
  falls_end s to Consume e h = cc
  falls_end s to End e h = cc

  pub reread_end : Follows (row old.machine None) old_tokens mid new_tokens Again
      → Goes (end_move rules) (lexing old input rested) old_tokens (lexing (record old { machine = mid }) input rested) new_tokens emitted
  reread_end f =
      let l : Lexing = lexing old input rested in
      let r : Row = row old.machine None in
      let P : Machine → Type 0 = λ m. rank m.state None < rank old.machine.state None in
      let lower : rank mid.state None < rank old.machine.state None = subst P (sym f.to) (falls_end old.machine.state r.to.state r.reads (sym f.reads) fine.falls) in
      let Q : List ℕ → Type 0 = λ u. 8 * length u + rank mid.state (symbol_of u) < 8 * length u + rank old.machine.state (symbol_of u) in
      goes_by (end_move rules) l (lexing (record old { machine = mid }) input rested) old_tokens new_tokens r.emits emitted
      (end_row Again (sym f.reads) ∙ ap (λ (x : Lexing). makes x (all_began l.rested r.emits)) (stand_same (sym f.to) refl (sym settled) (sym none)))
      f.emits fine.single flag (subst Q (sym none) (omega (arith, lower)))

  pub ended_there : Follows (row old.machine None) old_tokens mid new_tokens End
      → (es : List Emitted) × (end_move rules (lexing old input rested) ≡ ends es) × Appends old_tokens es new_tokens
  ended_there f =
      let r : Row = row old.machine None in
      (all_began (lexing old input rested).rested r.emits, end_row End (sym f.reads), Appends-row (lexing old input rested).rested old_tokens new_tokens r.emits f.emits fine.single)
