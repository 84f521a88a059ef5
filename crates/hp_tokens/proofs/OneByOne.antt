-- Step after step.
use Rattle.std.proofs.Common.{◌≡◌, ℕ, ◌≤◌, ◌^◌, List, [], ◌∷◌, ◌++◌, Bool, true, false, ◌||◌, refl, ap, ◌∙◌, sym, subst, append-nil, append_assoc}
use Rattle.std.specs.Prelude.{if◌then◌else◌}
use Rattle.std.proofs.lemmas.Grind.{flat_map-append}
use Rattle.hp_elements.specs.declared.token.Token.{Token}
use Rattle.hp_tokens.specs.declared.lexing.LexState.{LexState}
use Rattle.hp_tokens.specs.Reading.{Unread}
use Rattle.hp_tokens.specs.States.{is_resting}
use Rattle.hp_tokens.specs.declared.state.State.{State}
use Rattle.hp_tokens.specs.declared.rows.Step.TheVariants as steps
use Rattle.hp_tokens.specs.declared.rows.Turn.{Turn}
use Rattle.hp_tokens.specs.declared.rows.Turn.TheVariants as turns
use Rattle.hp_tokens.specs.Moves.{Lexing, Emitted, Move, Rules, move, needs_more, asks_cdata, asks_last_tag, makes, end_move, ends}
use Rattle.hp_tokens.specs.Runs.{Leads, here, onward, Waits}
use Rattle.hp_tokens.specs.Advancing.{place_of, lexing, single, singles, tokens_of, Began, AreRuns, Appends, Says, Goes, Advances, held, end_of_text, AlongEnd, Ends, Leaves, Stepped, Steps, Turned, at_rest, without_move, elsewhere}
use Rattle.hp_tokens.proofs.Pieces.{Leads-join}

tokens_of-append : (xs ys : List Emitted) → tokens_of (xs ++ ys) ≡ tokens_of xs ++ tokens_of ys
tokens_of-append [] ys = refl
tokens_of-append (x ∷ xs) ys = ap (λ (ts : List Token). x.token ∷ ts) (tokens_of-append xs ys)

AreRuns-join : (xs ys : List Token) → AreRuns xs → AreRuns ys → AreRuns (xs ++ ys)
AreRuns-join [] ys h k = k
AreRuns-join (x ∷ xs) ys h k = (h.0, AreRuns-join xs ys h.1 k)

pub Appends-none : (tokens : List Token) → Appends tokens [] tokens
Appends-none tokens = record { more = []; appended = sym (append-nil tokens); spelled = refl; runs = tt }

pub Appends-join : {old mid new : List Token} {es fs : List Emitted} → Appends old es mid → Appends mid fs new → Appends old (es ++ fs) new
Appends-join {old} {mid} {new} {es} {fs} a b = record {
  more = a.more ++ b.more;
  appended = b.appended ∙ (ap (λ (ts : List Token). ts ++ b.more) a.appended ∙ append_assoc old a.more b.more);
  spelled =
      flat_map-append single a.more b.more ∙ (ap (λ (ts : List Token). ts ++ singles b.more) a.spelled
      ∙ (ap (λ (ts : List Token). tokens_of es ++ ts) b.spelled ∙ sym (tokens_of-append es fs)));
  runs = AreRuns-join a.more b.more a.runs b.runs;
}

Began-join : (xs ys : List Emitted) (place : ℕ) → Began xs place → Began ys place → Began (xs ++ ys) place
Began-join [] ys place h k = k
Began-join (x ∷ xs) ys place h k = h

Says-join : (xs ys : List Emitted) (a b : Bool) → Says xs a → Says ys b → Says (xs ++ ys) (a || b)
Says-join [] ys true b h k = cc
Says-join [] ys false b h k = k
Says-join (x ∷ xs) ys true b h k = refl
Says-join (x ∷ xs) ys false b h k = cc

pub silent : (es : List Emitted) → Says es false → es ≡ []
silent [] h = refl
silent (e ∷ es) h = cc

pub none_yet : (rules : Rules) (l : Lexing) (tokens : List Token) (rested : ℕ) → Advances rules l tokens l tokens rested false
none_yet rules l tokens rested = record {
  es = [];
  leads = here;
  appends = Appends-none tokens;
  began = tt;
  says = refl;
}

pub one_more : (rules : Rules) (old mid new : Lexing) (old_tokens mid_tokens new_tokens : List Token) (rested : ℕ) (before now : Bool)
    → Advances rules old old_tokens mid mid_tokens rested before → Goes (move rules) mid mid_tokens new new_tokens now → rested ≡ mid.rested
    → Advances rules old old_tokens new new_tokens rested (before || now)
one_more rules old mid new old_tokens mid_tokens new_tokens rested before now a g settled = record {
  es = a.es ++ (g.first ++ g.rest);
  leads = Leads-join a.leads (onward g.made g.leads);
  appends = Appends-join a.appends g.appends;
  began = Began-join a.es (g.first ++ g.rest) rested a.began (let P : ℕ → Type 0 = λ p. Began (g.first ++ g.rest) p in subst P (sym settled) g.began);
  says = Says-join a.es (g.first ++ g.rest) before now a.says g.says;
}

-- in a resting state it doesn't matter what was kept as the last rest
pub rests : (s : LexState) (input : Unread) (r q : ℕ) → is_resting s.machine.state ≡ true → lexing s input r ≡ lexing s input q
rests s input r q h = rw h refl

pub settled_at_rest : (s : LexState) (input : Unread) → is_resting s.machine.state ≡ true → place_of s input ≡ (lexing s input (place_of s input)).rested
settled_at_rest s input h = rw h refl

pub settled_elsewhere : (s : LexState) (input : Unread) (r : ℕ) → is_resting s.machine.state ≡ false → r ≡ (lexing s input r).rested
settled_elsewhere s input r h = rw h refl

-- where nothing was emitted yet, the place of the last rest moves on
pub moved_on : (rules : Rules) (old : Lexing) (old_tokens : List Token) (s : LexState) (input : Unread) (tokens : List Token) (r q : ℕ)
    → is_resting s.machine.state ≡ true → Advances rules old old_tokens (lexing s input r) tokens r false
    → Advances rules old old_tokens (lexing s input q) tokens q false
moved_on rules old old_tokens s input tokens r q h a = record {
  es = a.es;
  leads = let P : Lexing → Type 0 = λ l. Leads (move rules) old a.es l in subst P (rests s input r q h) a.leads;
  appends = a.appends;
  began = let P : List Emitted → Type 0 = λ es. Began es q in subst P (sym (silent a.es a.says)) tt;
  says = a.says;
}

-- a first step in a resting state that emits one token
pub one_token : (rules : Rules) (own : State → Bool) (s : LexState) (old new : Unread) (taken : Token) (r place : ℕ)
    → is_resting s.machine.state ≡ true → place ≡ place_of s old → Steps (move rules) s old [] s new (taken ∷ []) (steps.Made true)
    → Turned rules own (lexing s old r) [] (lexing s new place) (taken ∷ []) place turns.Emitted
one_token rules own s old new taken r place h at step =
    let P : ℕ → Type 0 = λ p. p ≡ (lexing s old p).rested in
    let settled : place ≡ (lexing s old place).rested = subst P (sym at) (settled_at_rest s old h) in
    let Q : Lexing → Type 0 = λ l. Advances rules l [] (lexing s new place) (taken ∷ []) place true in (
      subst Q (rests s old place r h) (one_more rules (lexing s old place) (lexing s old place) (lexing s new place) [] [] (taken ∷ []) place false true
          (none_yet rules (lexing s old place) [] place) (step place settled) settled),
      at_rest h,
    )

-- nothing changed
pub stayed : (rules : Rules) (old mid new : Lexing) (old_tokens mid_tokens new_tokens : List Token) (rested : ℕ) (before now : Bool)
    → Advances rules old old_tokens mid mid_tokens rested before → new ≡ mid → new_tokens ≡ mid_tokens → before ≡ now
    → Advances rules old old_tokens new new_tokens rested now
stayed rules old mid new old_tokens mid_tokens new_tokens rested before now a e f g =
    let P : Lexing → Type 0 = λ x. Advances rules old old_tokens x new_tokens rested now in
    let Q : List Token → Type 0 = λ x. Advances rules old old_tokens mid x rested now in
    let R : Bool → Type 0 = λ x. Advances rules old old_tokens mid mid_tokens rested x in
    subst P (sym e) (subst Q (sym f) (subst R g a))

pub same_move : (rules : Rules) (mid new : Lexing) (x : Move) → new ≡ mid → move rules mid ≡ x → move rules new ≡ x
same_move rules mid new x e h = ap (λ (l : Lexing). move rules l) e ∙ h

needing_waits : (rules : Rules) (l : Lexing) → move rules l ≡ needs_more → Waits (move rules) l
needing_waits rules l h = record { no_move = λ m es e. let x : needs_more ≡ makes m es = sym h ∙ e in cc }

asking_waits : (rules : Rules) (l foreign html : Lexing) → move rules l ≡ asks_cdata foreign html → Waits (move rules) l
asking_waits rules l foreign html h = record { no_move = λ m es e. let x : asks_cdata foreign html ≡ makes m es = sym h ∙ e in cc }

naming_waits : (rules : Rules) (l : Lexing) → move rules l ≡ asks_last_tag → Waits (move rules) l
naming_waits rules l h = record { no_move = λ m es e. let x : asks_last_tag ≡ makes m es = sym h ∙ e in cc }

-- no step is made: something was appended, or what the step says is answered
stopped : (rules : Rules) (own : State → Bool) (old new : Lexing) (old_tokens new_tokens : List Token) (rested : ℕ) (emitted : Bool) (answer turn : Turn)
    → answer ≡ (if emitted then turns.Emitted else turn) → Advances rules old old_tokens new new_tokens rested emitted → Waits (move rules) new
    → (Advances rules old old_tokens new new_tokens rested false → Turned rules own old old_tokens new new_tokens rested turn)
    → Turned rules own old old_tokens new new_tokens rested answer
stopped rules own old new old_tokens new_tokens rested true answer turn is a w t =
    let P : Turn → Type 0 = λ x. Turned rules own old old_tokens new new_tokens rested x in subst P (sym is) (a, without_move w)
stopped rules own old new old_tokens new_tokens rested false answer turn is a w t =
    let P : Turn → Type 0 = λ x. Turned rules own old old_tokens new new_tokens rested x in subst P (sym is) (t a)

module _ (rules : Rules) (own : State → Bool) (old mid new : Lexing) (old_tokens mid_tokens new_tokens : List Token) (rested : ℕ) (emitted : Bool) (answer : Turn)
    (a : Advances rules old old_tokens mid mid_tokens rested emitted) where
  pub needing : answer ≡ (if emitted then turns.Emitted else turns.NeedsMore) → Stepped (move rules) mid mid_tokens new new_tokens steps.NeedsMore
      → Turned rules own old old_tokens new new_tokens rested answer
  needing is s =
      let same : move rules new ≡ needs_more = same_move rules mid new needs_more s.1 s.0 in
      stopped rules own old new old_tokens new_tokens rested emitted answer turns.NeedsMore is
      (stayed rules old mid new old_tokens mid_tokens new_tokens rested emitted emitted a s.1 s.2 refl) (needing_waits rules new same) (λ b. (b, same))

  pub asking : answer ≡ (if emitted then turns.Emitted else turns.AskCdata) → Stepped (move rules) mid mid_tokens new new_tokens steps.AskCdata
      → Turned rules own old old_tokens new new_tokens rested answer
  asking is s =
      let same : move rules new ≡ asks_cdata s.0.0 s.0.1 = same_move rules mid new (asks_cdata s.0.0 s.0.1) s.1 s.0.2 in
      stopped rules own old new old_tokens new_tokens rested emitted answer turns.AskCdata is
      (stayed rules old mid new old_tokens mid_tokens new_tokens rested emitted emitted a s.1 s.2 refl) (asking_waits rules new s.0.0 s.0.1 same) (λ b. (b, (s.0.0, s.0.1, same)))

  pub naming : answer ≡ (if emitted then turns.Emitted else turns.AskLastTag) → Stepped (move rules) mid mid_tokens new new_tokens steps.AskLastTag
      → Turned rules own old old_tokens new new_tokens rested answer
  naming is s =
      let same : move rules new ≡ asks_last_tag = same_move rules mid new asks_last_tag s.1 s.0 in
      stopped rules own old new old_tokens new_tokens rested emitted answer turns.AskLastTag is
      (stayed rules old mid new old_tokens mid_tokens new_tokens rested emitted emitted a s.1 s.2 refl) (naming_waits rules new same) (λ b. (b, same))

-- the state belongs to another crate
pub left_here : (rules : Rules) (own : State → Bool) (old new : Lexing) (old_tokens new_tokens : List Token) (rested : ℕ) (emitted : Bool) (answer : Turn)
    → answer ≡ (if emitted then turns.Emitted else turns.Moved) → Advances rules old old_tokens new new_tokens rested emitted → own new.machine.state ≡ false
    → Turned rules own old old_tokens new new_tokens rested answer
left_here rules own old new old_tokens new_tokens rested true answer is a there =
    let P : Turn → Type 0 = λ x. Turned rules own old old_tokens new new_tokens rested x in subst P (sym is) (a, elsewhere there)
left_here rules own old new old_tokens new_tokens rested false answer is a there =
    let P : Turn → Type 0 = λ x. Turned rules own old old_tokens new new_tokens rested x in subst P (sym is) (a, there)

-- what is kept as the last rest
resettle : (s : LexState) (input : Unread) (r : ℕ) → lexing s input r ≡ lexing s input (lexing s input r).rested
resettle s input r = by_cases (is_resting s.machine.state) refl
  where
    by_cases : (b : Bool) → is_resting s.machine.state ≡ b → lexing s input r ≡ lexing s input (lexing s input r).rested
    by_cases true h = rw h refl
    by_cases false h = rw h refl

-- nothing was done yet at the end
pub end_init : (rules : Rules) (s : LexState) (input : Unread) (tokens : List Token) → input ≡ end_of_text → held s ≤ 2 ^ 32
    → AlongEnd rules s tokens s input tokens
end_init rules s input tokens e h = record {
  held = let P : ℕ → Type 0 = λ n. held s ≤ n in subst P (sym (ap (λ (u : Unread). u.place) e)) h;
  ended = ap (λ (u : Unread). u.text) e;
  leads = λ rested.
      let now : ℕ = (lexing s end_of_text rested).rested in
      let same : lexing s end_of_text rested ≡ lexing s input now = resettle s end_of_text rested ∙ ap (λ (u : Unread). lexing s u now) (sym e) in
      let P : Lexing → Type 0 = λ l. Leads (end_move rules) (lexing s end_of_text rested) [] l in
      (now, ap (λ (l : Lexing). l.rested) same, [], subst P same here, Appends-none tokens);
}

-- one step more at the end
pub end_more : (rules : Rules) (s : LexState) (old_tokens : List Token) (mid : LexState) (mid_input : Unread) (mid_tokens : List Token)
    (new : LexState) (new_input : Unread) (new_tokens : List Token) → AlongEnd rules s old_tokens mid mid_input mid_tokens
    → held new ≤ new_input.place → new_input.text ≡ []
    → ((rested : ℕ) → rested ≡ (lexing mid mid_input rested).rested
    → (emitted : Bool) × Goes (end_move rules) (lexing mid mid_input rested) mid_tokens (lexing new new_input rested) new_tokens emitted)
    → AlongEnd rules s old_tokens new new_input new_tokens
end_more rules s old_tokens mid mid_input mid_tokens new new_input new_tokens a h e step = record {
  held = h;
  ended = e;
  leads = λ rested.
      let x = a.leads rested in
      let now : ℕ = x.0 in
      let settled : now ≡ (lexing mid mid_input now).rested = x.1 in
      let es : List Emitted = x.2 in
      let leads : Leads (end_move rules) (lexing s end_of_text rested) es (lexing mid mid_input now) = x.3 in
      let appends : Appends old_tokens es mid_tokens = x.4 in
      let g : Goes (end_move rules) (lexing mid mid_input now) mid_tokens (lexing new new_input now) new_tokens (step now settled).0 = (step now settled).1 in
      let later : ℕ = (lexing new new_input now).rested in
      let same : lexing new new_input now ≡ lexing new new_input later = resettle new new_input now in
      let P : Lexing → Type 0 = λ l. Leads (end_move rules) (lexing s end_of_text rested) (es ++ (g.first ++ g.rest)) l in
      (later, ap (λ (l : Lexing). l.rested) same, es ++ (g.first ++ g.rest), subst P same (Leads-join leads (onward g.made g.leads)), Appends-join appends g.appends);
}

pub end_done : (rules : Rules) (s : LexState) (old_tokens : List Token) (mid : LexState) (mid_input : Unread) (mid_tokens new_tokens : List Token)
    → AlongEnd rules s old_tokens mid mid_input mid_tokens
    → ((rested : ℕ) → rested ≡ (lexing mid mid_input rested).rested
    → (es : List Emitted) × (end_move rules (lexing mid mid_input rested) ≡ ends es) × Appends mid_tokens es new_tokens)
    → (rested : ℕ) → Ends rules (lexing s end_of_text rested) old_tokens new_tokens
end_done rules s old_tokens mid mid_input mid_tokens new_tokens a step rested =
    let x = a.leads rested in
    let last = step x.0 x.1 in
    record { mid = lexing mid mid_input x.0; first = x.2; rest = last.0; leads = x.3; ended = last.1; appends = Appends-join x.4 last.2 }

pub end_left : (rules : Rules) (s : LexState) (old_tokens : List Token) (new : LexState) (new_input : Unread) (new_tokens : List Token)
    → AlongEnd rules s old_tokens new new_input new_tokens → (rested : ℕ) → Leaves rules (lexing s end_of_text rested) old_tokens new new_tokens
end_left rules s old_tokens new new_input new_tokens a rested =
    let x = a.leads rested in
    record {
      there = lexing new new_input x.0;
      machine = refl;
      unread = ap (λ (xs : List ℕ). new.ahead ++ xs) a.ended ∙ append-nil new.ahead;
      es = x.2;
      leads = x.3;
      appends = x.4;
    }
