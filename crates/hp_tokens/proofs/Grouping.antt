-- What steps emit is a group.
use Rattle.std.proofs.Common.{◌≡◌, ℕ, List, [], ◌∷◌, ◌++◌, Bool, true, false, ◌||◌, ◌&&◌, not, inl, inr, ◌⊎◌, refl, ap, ◌∙◌, sym, subst, append-nil, append_assoc, length}
use Rattle.std.specs.Prelude.{if◌then◌else◌}
use Rattle.hp_elements.specs.declared.token.Token.{Token}
use Rattle.hp_elements.specs.declared.token.Token.TheVariants as token
use Rattle.hp_tokens.specs.declared.lexing.LexState.{LexState}
use Rattle.hp_tokens.specs.declared.rows.Turn.{Turn}
use Rattle.hp_tokens.specs.declared.rows.Turn.TheVariants as turns
use Rattle.hp_tokens.specs.declared.rows.Step.TheVariants as steps
use Rattle.hp_tokens.specs.declared.state.State.{State}
use Rattle.hp_tokens.specs.Reading.{Unread}
use Rattle.hp_tokens.specs.States.{is_resting}
use Rattle.hp_tokens.specs.Moves.{Lexing, Emitted, Move, Rules, move, makes}
use Rattle.hp_tokens.specs.Runs.{Leads, here, onward}
use Rattle.hp_tokens.specs.Groups.{Through, done, going, restless, AllBegan, Together, at_once, no_token, in_state, as_run}
use Rattle.hp_tokens.specs.Advancing.{place_of, lexing, single, singles, tokens_of, IsRun, AreRuns, Appends, Says, Goes, Advances, Steps, OneGroup, IsGroup}
use Rattle.hp_tokens.proofs.Pieces.{Leads-join}
use Rattle.hp_tokens.proofs.OneByOne.{Appends-join, silent, none_yet, rests, settled_at_rest}

pub Through-join : {next : Lexing → Move} {may : State → Bool} {l m k : Lexing} {es fs : List Emitted} → Through next may l es m → Through next may m fs k → Through next may l (es ++ fs) k
Through-join done q = q
Through-join {next} {may} {l} {k = k} {fs = fs} (going {es = first} {fs = later} h e r) q =
    let P : List Emitted → Type 0 = λ xs. Through next may l xs k in
    subst P (sym (append_assoc first later fs)) (going h e (Through-join r q))

pub Through-leads : {next : Lexing → Move} {may : State → Bool} {l k : Lexing} {es : List Emitted} → Through next may l es k → Leads next l es k
Through-leads done = here
Through-leads (going h e r) = onward e (Through-leads r)

-- by other moves, where these are among them
pub Through-by : {next other : Lexing → Move} {may : State → Bool} {l k : Lexing} {es : List Emitted}
    → ((l m : Lexing) (es : List Emitted) → next l ≡ makes m es → other l ≡ makes m es) → Through next may l es k → Through other may l es k
Through-by w done = done
Through-by {l = l} w (going {m = m} {es = es} h e r) = going h (w l m es e) (Through-by w r)

AllBegan-join : (xs ys : List Emitted) (place : ℕ) → AllBegan xs place → AllBegan ys place → AllBegan (xs ++ ys) place
AllBegan-join [] ys place h k = k
AllBegan-join (x ∷ xs) ys place h k = (h.0, AllBegan-join xs ys place h.1 k)

no_single : (t : Token) (rest : List Token) → IsRun t → single t ++ rest ≡ [] → ⊥
no_single (token.Characters class []) rest h e = h
no_single (token.Characters class (c ∷ cs)) rest h e = cc
no_single _ rest h e = cc

no_more : (ts : List Token) → AreRuns ts → singles ts ≡ [] → ts ≡ []
no_more [] h e = refl
no_more (t ∷ ts) h e = absurd (no_single t (singles ts) h.0 e)

-- where nothing is emitted, nothing is appended
nothing_new : (old new : List Token) (es : List Emitted) → es ≡ [] → Appends old es new → new ≡ old
nothing_new old new es none a =
    a.appended ∙ (ap (λ (ts : List Token). old ++ ts) (no_more a.more a.runs (a.spelled ∙ ap tokens_of none)) ∙ append-nil old)

both : (a b : Bool) → a ≡ true → b ≡ false → (a && not b) ≡ true
both a b h k = rw (h, k) refl

-- in a state in which the lexer doesn't rest, all that a step emits began at the last rest
began_there : {next : Lexing → Move} {old new : Lexing} {es : List Emitted} {more : List Token} → Together next old es new more → is_resting old.machine.state ≡ false → AllBegan es old.rested
began_there (at_once made all) away = all
began_there {old = old} (no_token none) away = let P : List Emitted → Type 0 = λ xs. AllBegan xs old.rested in subst P (sym none) tt
began_there (in_state other all) away = all
began_there (as_run class text one rests again) away = cc

module _ (rules : Rules) (own : State → Bool) (old mid new : Lexing) (old_tokens mid_tokens new_tokens : List Token) (rested : ℕ)
    (settled : rested ≡ mid.rested) (mine : own mid.machine.state ≡ true) where
  -- a group goes on
  pub goes_on : (now : Bool) → OneGroup (move rules) own old old_tokens mid mid_tokens rested → is_resting mid.machine.state ≡ false
      → Goes (move rules) mid mid_tokens new new_tokens now → OneGroup (move rules) own old old_tokens new new_tokens rested
  goes_on now group away g =
      let more : List Emitted = g.first ++ g.rest in
      let same : (group.first ++ group.rest) ++ more ≡ group.first ++ (group.rest ++ more) = append_assoc group.first group.rest more in
      let P : ℕ → Type 0 = λ p. AllBegan more p in
      let Q : List Emitted → Type 0 = λ xs. Appends old_tokens xs new_tokens in
      let R : List Emitted → Type 0 = λ xs. AllBegan xs rested in
      record {
        from = group.from;
        mid = group.mid;
        first = group.first;
        rest = group.rest ++ more;
        quiet = group.quiet;
        inside = group.inside;
        made = group.made;
        onward = Through-join group.onward (g.through (restless own) (both _ _ mine away));
        appends = subst Q same (Appends-join group.appends g.appends);
        one_place = subst R same (AllBegan-join (group.first ++ group.rest) more rested group.one_place (subst P (sym settled) (began_there g.together away)));
      }

  module _ (before : Advances rules old old_tokens mid mid_tokens rested false) (g : Goes (move rules) mid mid_tokens new new_tokens true) where
    quietly : Leads (move rules) old [] mid
    quietly = let P : List Emitted → Type 0 = λ es. Leads (move rules) old es mid in subst P (silent before.es before.says) before.leads

    more_is : List Emitted
    more_is = g.first ++ g.rest

    all_appended : (es : List Emitted) → g.first ++ g.rest ≡ es → Appends old_tokens es new_tokens
    all_appended es e =
        let P : List Emitted → Type 0 = λ xs. Appends old_tokens (xs ++ (g.first ++ g.rest)) new_tokens in
        let Q : List Emitted → Type 0 = λ xs. Appends old_tokens xs new_tokens in
        subst Q e (subst P (silent before.es before.says) (Appends-join before.appends g.appends))

    by_first : (m : Lexing) (first rest : List Emitted) → g.first ++ g.rest ≡ first ++ rest → move rules mid ≡ makes m first
        → Through (move rules) (restless own) m rest new → AllBegan (g.first ++ g.rest) mid.rested → OneGroup (move rules) own old old_tokens new new_tokens rested
    by_first m first rest e made further all =
        let P : List Emitted → Type 0 = λ xs. AllBegan xs rested in
        let Q : ℕ → Type 0 = λ p. AllBegan (g.first ++ g.rest) p in
        record {
          from = mid;
          mid = m;
          first = first;
          rest = rest;
          quiet = quietly;
          inside = mine;
          made = made;
          onward = further;
          appends = all_appended (first ++ rest) e;
          one_place = subst P e (subst Q (sym settled) all);
        }

    opened : (l : Lexing) (es : List Emitted) → l ≡ mid → g.first ++ g.rest ≡ es → Says es true → Through (move rules) (restless own) l es new → AllBegan (g.first ++ g.rest) mid.rested
        → OneGroup (move rules) own old old_tokens new new_tokens rested
    opened l [] same e says done all = cc
    opened l es same e says (going {m = m} {es = first} {fs = rest} h made r) all =
        by_first m first rest e (ap (λ (x : Lexing). move rules x) (sym same) ∙ made) r all

    -- a group opens
    pub begins : IsGroup (move rules) own old old_tokens new new_tokens rested
    begins = at g.together
      where
        at : Together (move rules) mid (g.first ++ g.rest) new g.appends.more → IsGroup (move rules) own old old_tokens new new_tokens rested
        at (at_once made all) = inl (by_first new (g.first ++ g.rest) [] (sym (append-nil (g.first ++ g.rest))) made done all)
        at (no_token none) = let P : List Emitted → Type 0 = λ xs. Says xs true in let no : Says [] true = subst P none g.says in cc
        at (in_state away all) = inl (opened mid (g.first ++ g.rest) refl refl g.says (g.through (restless own) (both _ _ mine away)) all)
        at (as_run class text one rests again) = inr record {
          from = mid;
          es = g.first ++ g.rest;
          class = class;
          text = text;
          quiet = quietly;
          inside = mine;
          rests = rests;
          through = g.through;
          appends = all_appended (g.first ++ g.rest) refl;
          one = g.appends.appended ∙ (ap (λ (ts : List Token). mid_tokens ++ ts) one
              ∙ ap (λ (ts : List Token). ts ++ token.Characters class text ∷ []) (nothing_new old_tokens mid_tokens before.es (silent before.es before.says) before.appends));
          rests_again = again;
        }

  -- what was emitted before a step and by it is a group
  pub grouped : (before now : Bool) → Advances rules old old_tokens mid mid_tokens rested before
      → (before ≡ true → (is_resting mid.machine.state ≡ false) × OneGroup (move rules) own old old_tokens mid mid_tokens rested)
      → Goes (move rules) mid mid_tokens new new_tokens now → (before || now) ≡ true → IsGroup (move rules) own old old_tokens new new_tokens rested
  grouped true now a group g some = let o = group refl in inl (goes_on now o.1 o.0 g)
  grouped false true a group g some = begins a g
  grouped false false a group g some = cc

-- one that goes on is no run
pub still_open : (next : Lexing → Move) (own : State → Bool) (old new : Lexing) (old_tokens new_tokens : List Token) (rested : ℕ)
    → IsGroup next own old old_tokens new new_tokens rested → is_resting new.machine.state ≡ false → OneGroup next own old old_tokens new new_tokens rested
still_open next own old new old_tokens new_tokens rested (inl g) away = g
still_open next own old new old_tokens new_tokens rested (inr r) away = let no : true ≡ false = sym r.rests_again ∙ away in cc

-- the answer is that something was emitted, where the step's isn't
pub was_emitted : (e : Bool) (answer turn : Turn) → answer ≡ (if e then turns.Emitted else turn) → answer ≡ turns.Emitted → (turn ≡ turns.Emitted → ⊥) → e ≡ true
was_emitted true answer turn is emitted other = refl
was_emitted false answer turn is emitted other = absurd (other (sym is ∙ emitted))

-- where no step was made, the group ends
pub left_so : (next : Lexing → Move) (own : State → Bool) (old mid new : Lexing) (old_tokens mid_tokens new_tokens : List Token) (rested : ℕ)
    → OneGroup next own old old_tokens mid mid_tokens rested → new ≡ mid → new_tokens ≡ mid_tokens → IsGroup next own old old_tokens new new_tokens rested
left_so next own old mid new old_tokens mid_tokens new_tokens rested g e f =
    let P : Lexing → Type 0 = λ x. IsGroup next own old old_tokens x new_tokens rested in
    let Q : List Token → Type 0 = λ x. IsGroup next own old old_tokens mid x rested in
    subst P (sym e) (subst Q (sym f) (inl g))

-- a first step in a resting state that emits one token
pub one_group : (rules : Rules) (own : State → Bool) (s : LexState) (old new : Unread) (taken : Token) (r place : ℕ)
    → own s.machine.state ≡ true → is_resting s.machine.state ≡ true → place ≡ place_of s old → Steps (move rules) s old [] s new (taken ∷ []) (steps.Made true)
    → IsGroup (move rules) own (lexing s old r) [] (lexing s new place) (taken ∷ []) place
one_group rules own s old new taken r place mine h at step =
    let P : ℕ → Type 0 = λ p. p ≡ (lexing s old p).rested in
    let settled : place ≡ (lexing s old place).rested = subst P (sym at) (settled_at_rest s old h) in
    let Q : Lexing → Type 0 = λ l. IsGroup (move rules) own l [] (lexing s new place) (taken ∷ []) place in
    subst Q (rests s old place r h)
    (begins rules own (lexing s old place) (lexing s old place) (lexing s new place) [] [] (taken ∷ []) place settled mine (none_yet rules (lexing s old place) [] place) (step place settled))

-- what a group says of its tokens: they are what moves from there to here emitted, and all of it began at one place, or it is one token
pub record IsOfOnePlace (next : Lexing → Move) (old new : Lexing) (place : ℕ) (tokens : List Token) : Type 0 where
  pub es : List Emitted
  pub leads : Leads next old es new
  pub spelled : singles tokens ≡ tokens_of es
  pub one_place : AllBegan es place ⊎ (length tokens ≡ 1)

spelled_by : (tokens : List Token) (es : List Emitted) → Appends [] es tokens → singles tokens ≡ tokens_of es
spelled_by tokens es a = ap (λ (ts : List Token). singles ts) a.appended ∙ a.spelled

pub of_one_place : (next : Lexing → Move) (own : State → Bool) (old new : Lexing) (place : ℕ) (tokens : List Token) → IsGroup next own old [] new tokens place
    → IsOfOnePlace next old new place tokens
of_one_place next own old new place tokens (inl g) = record {
  es = g.first ++ g.rest;
  leads = Leads-join g.quiet (onward g.made (Through-leads g.onward));
  spelled = spelled_by tokens (g.first ++ g.rest) g.appends;
  one_place = inl g.one_place;
}
of_one_place next own old new place tokens (inr r) = record {
  es = r.es;
  leads = Leads-join r.quiet (Through-leads (r.through (λ s. true) refl));
  spelled = spelled_by tokens r.es r.appends;
  one_place = inr (ap length r.one);
}
