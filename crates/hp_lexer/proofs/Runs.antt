-- Turns of the parts, one behind the other.
use Rattle.std.proofs.Common.{◌≡◌, ℕ, zero, suc, ◌+◌, ◌<◌, ◌≤◌, List, [], ◌∷◌, ◌++◌, Bool, true, false, length, take, drop, refl, ap, ◌∙◌, sym, subst, arith, Option, None, Some, length-drop, inl, inr}
use Rattle.std.specs.Prelude.{sum_by, IfSome}
use Rattle.std.specs.Char.{len_utf8}
use Rattle.hp_elements.specs.declared.token.Token.{Token}
use Rattle.hp_elements.specs.declared.token.Token.TheVariants as token
use Rattle.hp_names.specs.References.{Reference}
use Rattle.hp_tokens.specs.declared.lexing.LexState.{LexState}
use Rattle.hp_tokens.specs.declared.rows.Turn.{Turn}
use Rattle.hp_tokens.specs.declared.rows.Turn.TheVariants as turns
use Rattle.hp_tokens.specs.Reading.{Unread, first}
use Rattle.hp_tokens.specs.Moves.{Lexing, Emitted, Rules, move}
use Rattle.hp_tokens.specs.Ranks.{weight}
use Rattle.hp_tokens.specs.Advancing.{held, unread, lexing, singles, single, tokens_of, Began, IsRun, AreRuns, Appends, Says, Advances, Turned, Takes, IsGroup}
use Rattle.hp_tokens.specs.declared.state.State.{State}
use Rattle.hp_tokens.specs.Runs.{Leads}
use Rattle.hp_lexer.specs.Standing.{IsBatch}
use Rattle.hp_tokens.proofs.Pieces.{Leads-join}
use Rattle.hp_tokens.proofs.OneByOne.{Appends-join, none_yet}
use Rattle.hp_lexer.specs.Table.{table, part_of}
use Rattle.hp_lexer.specs.Running.{Passed, Ran}
use Rattle.hp_lexer.proofs.Parts.{in_its_part}
use Rattle.hp_lexer.proofs.Falling.{move_falls, Leads-smaller, bytes-cons}

silent : (es : List Emitted) → Says es false → es ≡ []
silent [] h = refl
silent (e ∷ es) h = cc

no_single : (t : Token) (rest : List Token) → IsRun t → single t ++ rest ≡ [] → ⊥
no_single (token.Characters class []) rest h e = h
no_single (token.Characters class (c ∷ cs)) rest h e = cc
no_single _ rest h e = cc

no_more : (ts : List Token) → AreRuns ts → singles ts ≡ [] → ts ≡ []
no_more [] h e = refl
no_more (t ∷ ts) h e = absurd (no_single t (singles ts) h.0 e)

-- where nothing is emitted, nothing is appended
nothing_more : (old new : List Token) (es : List Emitted) → es ≡ [] → Appends old es new → old ≡ [] → new ≡ []
nothing_more old new es none a empty =
    let more : a.more ≡ [] = no_more a.more a.runs (a.spelled ∙ ap tokens_of none) in
    a.appended ∙ (ap (λ (ts : List Token). ts ++ a.more) empty ∙ more)

pub still_none : (rules : Rules) (old new : Lexing) (tokens new_tokens : List Token) (rested : ℕ) → Advances rules old tokens new new_tokens rested false → tokens ≡ [] → new_tokens ≡ []
still_none rules old new tokens new_tokens rested a e = nothing_more tokens new_tokens a.es (silent a.es a.says) a.appends e

-- what holds between two turns: nothing was emitted
pub record Between (names : List Reference) (old : LexState) (old_input : Unread) (old_rested : ℕ) (now : LexState) (input : Unread) (rested : ℕ) (tokens : List Token) : Type 0 where
  pub held : held now ≤ input.place
  pub advances : Advances (table names) (lexing old old_input old_rested) [] (lexing now input rested) tokens rested false
  pub none : tokens ≡ []

pub start : (names : List Reference) (old : LexState) (input : Unread) (rested : ℕ) (tokens : List Token) → tokens ≡ [] → held old ≤ input.place
    → Between names old input rested old input rested tokens
start names old input rested tokens e h =
    let P : List Token → Type 0 = λ ts. Advances (table names) (lexing old input rested) ts (lexing old input rested) tokens rested false in
    record { held = h; advances = subst P e (none_yet (table names) (lexing old input rested) tokens rested); none = e }

pub joined : (rules : Rules) (old mid new : Lexing) (old_tokens mid_tokens new_tokens : List Token) (before rested : ℕ) (emitted : Bool)
    → Advances rules old old_tokens mid mid_tokens before false → Advances rules mid mid_tokens new new_tokens rested emitted
    → Advances rules old old_tokens new new_tokens rested emitted
joined rules old mid new old_tokens mid_tokens new_tokens before rested emitted a b =
    let none : a.es ≡ [] = silent a.es a.says in
    let P : List Emitted → Type 0 = λ xs. Began (xs ++ b.es) rested in
    let Q : List Emitted → Type 0 = λ xs. Says (xs ++ b.es) emitted in
    record {
      es = a.es ++ b.es;
      leads = Leads-join a.leads b.leads;
      appends = Appends-join a.appends b.appends;
      began = subst P (sym none) b.began;
      says = subst Q (sym none) b.says;
    }

module _ (names : List Reference) (old : LexState) (old_input : Unread) (old_rested : ℕ) (mid : LexState) (mid_input : Unread) (mid_rested : ℕ)
    (new : LexState) (new_input : Unread) (new_rested : ℕ) (mid_tokens tokens : List Token)
    (between : Between names old old_input old_rested mid mid_input mid_rested mid_tokens) where
  onward : (emitted : Bool) → Advances (table names) (lexing mid mid_input mid_rested) mid_tokens (lexing new new_input new_rested) tokens new_rested emitted
      → Advances (table names) (lexing old old_input old_rested) [] (lexing new new_input new_rested) tokens new_rested emitted
  onward emitted a = joined (table names) _ _ _ _ _ _ _ _ _ between.advances a

  none_then : Advances (table names) (lexing mid mid_input mid_rested) mid_tokens (lexing new new_input new_rested) tokens new_rested false → tokens ≡ []
  none_then a = still_none (table names) _ _ _ _ _ a between.none

  pub ran : (turn : Turn) → Turned (table names) (part_of mid.machine.state) (lexing mid mid_input mid_rested) mid_tokens (lexing new new_input new_rested) tokens new_rested turn
      → (turn ≡ turns.Moved → ⊥) → Ran names old old_input old_rested new new_input tokens new_rested turn
  ran turns.Emitted h other = (onward true h.0, (mid.machine.state, h.1))
  ran turns.Moved h other = absurd (other refl)
  ran turns.NeedsMore h other = (onward false h.0, (none_then h.0, h.1))
  ran turns.AskCdata h other = (onward false h.0, (none_then h.0, h.1))
  ran turns.AskLastTag h other = (onward false h.0, (none_then h.0, h.1))

  quietly : Leads (move (table names)) (lexing old old_input old_rested) [] (lexing mid mid_input mid_rested)
  quietly =
      let P : List Emitted → Type 0 = λ es. Leads (move (table names)) (lexing old old_input old_rested) es (lexing mid mid_input mid_rested) in
      subst P (silent between.advances.es between.advances.says) between.advances.leads

  grouped : (own : State → Bool) → IsGroup (move (table names)) own (lexing mid mid_input mid_rested) [] (lexing new new_input new_rested) tokens new_rested
      → IsGroup (move (table names)) own (lexing old old_input old_rested) [] (lexing new new_input new_rested) tokens new_rested
  grouped own (inl g) = inl record {
    from = g.from;
    mid = g.mid;
    first = g.first;
    rest = g.rest;
    quiet = Leads-join quietly g.quiet;
    inside = g.inside;
    made = g.made;
    onward = g.onward;
    appends = g.appends;
    one_place = g.one_place;
  }
  grouped own (inr r) = inr record {
    from = r.from;
    es = r.es;
    class = r.class;
    text = r.text;
    quiet = Leads-join quietly r.quiet;
    inside = r.inside;
    rests = r.rests;
    through = r.through;
    appends = r.appends;
    one = r.one;
    rests_again = r.rests_again;
  }

  pub batched : (turn : Turn) → Turned (table names) (part_of mid.machine.state) (lexing mid mid_input mid_rested) mid_tokens (lexing new new_input new_rested) tokens new_rested turn
      → IsGroup (move (table names)) (part_of mid.machine.state) (lexing mid mid_input mid_rested) mid_tokens (lexing new new_input new_rested) tokens new_rested
      → turn ≡ turns.Emitted → IsBatch names (lexing old old_input old_rested) (lexing new new_input new_rested) tokens new_rested
  batched turn h g e =
      let P : List Token → Type 0 = λ ts. IsGroup (move (table names)) (part_of mid.machine.state) (lexing mid mid_input mid_rested) ts (lexing new new_input new_rested) tokens new_rested in
      let Q : Turn → Type 0 = λ t. Turned (table names) (part_of mid.machine.state) (lexing mid mid_input mid_rested) mid_tokens (lexing new new_input new_rested) tokens new_rested t in
      let emitted : Turned (table names) (part_of mid.machine.state) (lexing mid mid_input mid_rested) mid_tokens (lexing new new_input new_rested) tokens new_rested turns.Emitted = subst Q e h in
      record { part = mid.machine.state; group = grouped (part_of mid.machine.state) (subst P between.none g); stops = emitted.1 }

  module _ (moved : Turned (table names) (part_of mid.machine.state) (lexing mid mid_input mid_rested) mid_tokens (lexing new new_input new_rested) tokens new_rested turns.Moved) where
    pub moved_on : held new ≤ new_input.place → Between names old old_input old_rested new new_input new_rested tokens
    moved_on h = record { held = h; advances = onward false moved.0; none = none_then moved.0 }

    pub moved_smaller : weight (lexing new new_input new_rested) < weight (lexing mid mid_input mid_rested)
    moved_smaller =
        Leads-smaller (λ l. move (table names) l) (move_falls names) (part_of mid.machine.state) (in_its_part mid.machine.state) moved.1 moved.0.leads

-- code points that are read one by one
drop-next : (n : ℕ) (text : List ℕ) (c : ℕ) (cs : List ℕ) → drop n text ≡ c ∷ cs
    → (drop (suc n) text ≡ cs) × (sum_by len_utf8 (take (suc n) text) ≡ sum_by len_utf8 (take n text) + len_utf8 c)
drop-next zero [] c cs e = cc
drop-next zero (x ∷ xs) c cs e = let same : x ≡ c = cc in (cc, omega (arith, ap len_utf8 same, bytes-cons x []))
drop-next (suc n) [] c cs e = cc
drop-next (suc n) (x ∷ xs) c cs e = let rest = drop-next n xs c cs e in (rest.0, omega (arith, rest.1, bytes-cons x (take (suc n) xs), bytes-cons x (take n xs)))

pub none_passed : (old : LexState) (input : Unread) → held old ≤ input.place → Passed 0 old input old input
none_passed old input h = record { machine = refl; text = refl; place = omega arith; held = h }

pub one_passed : (n : ℕ) (old : LexState) (old_input : Unread) (mid : LexState) (mid_input : Unread) (new : LexState) (new_input : Unread) (c : Option ℕ)
    → Passed n old old_input mid mid_input → n < length (unread old old_input) → c ≡ first (unread mid mid_input) → IfSome c (Takes mid mid_input new new_input)
    → Passed (n + 1) old old_input new new_input
one_passed n old old_input mid mid_input new new_input c p within is t = at (unread mid mid_input) c refl is t
  where
    at : (text : List ℕ) (c : Option ℕ) → unread mid mid_input ≡ text → c ≡ first text → IfSome c (Takes mid mid_input new new_input) → Passed (n + 1) old old_input new new_input
    at [] c e is t = absurd (omega (arith, within, length-drop n (unread old old_input), ap length (sym p.text ∙ e)))
    at (x ∷ xs) None e is t = cc
    at (x ∷ xs) (Some y) e is t =
        let next = drop-next n (unread old old_input) y (unread new new_input) (sym p.text ∙ t.text) in
        let P : ℕ → Type 0 = λ k. Passed k old old_input new new_input in
        let more : suc n ≡ n + 1 = omega arith in
        subst P more record {
          machine = t.machine ∙ p.machine;
          text = sym next.0;
          place = omega (arith, t.place, p.place, next.1);
          held = t.held;
        }
