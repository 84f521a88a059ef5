-- The moves that a group of tokens comes from: what is no character is emitted by the last of them.
use Rattle.std.proofs.Common.{◌≡◌, ℕ, List, [], ◌∷◌, ◌++◌, Bool, true, false, not, ◌⊎◌, inl, inr, refl, ap, ◌∙◌, sym, subst, append-nil, append_assoc}
use Rattle.std.proofs.lemmas.Bool.{and_parts}
use Rattle.hp_elements.specs.declared.token.CharClass.{CharClass}
use Rattle.hp_elements.specs.declared.token.Token.{Token}
use Rattle.hp_elements.specs.declared.token.Token.TheVariants as token
use Rattle.hp_names.specs.References.{Reference}
use Rattle.hp_tokens.specs.declared.state.State.{State}
use Rattle.hp_tokens.specs.Advancing.{IsGroup, OneGroup, OneRun, single, singles, tokens_of}
use Rattle.hp_tokens.specs.Groups.{AllBegan, Through, done, going, restless}
use Rattle.hp_tokens.specs.Moves.{Emitted, Lexing, makes, move}
use Rattle.hp_tokens.specs.Runs.{Leads, here, onward as moves_on}
use Rattle.hp_tokens.specs.States.{is_resting}
use Rattle.hp_tokens.proofs.Grouping.{Through-leads}
use Rattle.hp_lexer.specs.Standing.{IsBatch}
use Rattle.hp_lexer.specs.Table.{part_of, table}
use Rattle.hp_runs.specs.Closing.{AreCharacters, LeadsOn, last, onward, stays}
use Rattle.hp_runs.proofs.Began.{tokens-append}
use Rattle.hp_runs.proofs.Settling.{tags-rest}

-- characters in two parts
pub front-alone : (xs ys : List Token) → AreCharacters (xs ++ ys) → AreCharacters xs
front-alone [] ys h = tt
front-alone (token.Characters class text ∷ xs) ys h = front-alone xs ys h
front-alone (x ∷ xs) ys h = h

pub rest-alone : (xs ys : List Token) → AreCharacters (xs ++ ys) → AreCharacters ys
rest-alone [] ys h = h
rest-alone (token.Characters class text ∷ xs) ys h = rest-alone xs ys h
rest-alone (x ∷ xs) ys h = absurd h

parts-alone : (es fs : List Emitted) → AreCharacters (tokens_of (es ++ fs)) → AreCharacters (tokens_of es) × AreCharacters (tokens_of fs)
parts-alone es fs h =
    let both : AreCharacters (tokens_of es ++ tokens_of fs) = subst AreCharacters (tokens-append es fs) h in
    (front-alone (tokens_of es) (tokens_of fs) both, rest-alone (tokens_of es) (tokens_of fs) both)

-- a run is characters alone
pub run-alone : (class : CharClass) (text : List ℕ) → AreCharacters (single (token.Characters class text))
run-alone class [] = tt
run-alone class (x ∷ text) = run-alone class text

module _ (names : List Reference) where
  -- moves that emit characters alone, and then such moves
  pub led-behind : {l m k : Lexing} {es fs : List Emitted} → Leads (move (table names)) l es m → AreCharacters (tokens_of es) → LeadsOn (move (table names)) m fs k → LeadsOn (move (table names)) l (es ++ fs) k
  led-behind here a more = more
  led-behind {l} {k = k} {fs = fs} (moves_on {es = xs} {fs = ys} made rest) a more =
      let parts = parts-alone xs ys a in
      subst (λ (es : List Emitted). LeadsOn (move (table names)) l es k) (sym (append_assoc xs ys fs)) (onward made parts.0 (led-behind rest parts.1 more))

  -- moves that emit characters alone
  pub characters-led : {l k : Lexing} {es : List Emitted} → Leads (move (table names)) l es k → AreCharacters (tokens_of es) → LeadsOn (move (table names)) l es k
  characters-led {l} {k} {es} leads a = subst (λ (xs : List Emitted). LeadsOn (move (table names)) l xs k) (append-nil es) (led-behind leads a stays)

  -- no move is made at a rest
  none-at-rest : (own : State → Bool) {l k : Lexing} {es : List Emitted} → is_resting l.machine.state ≡ true → Through (move (table names)) (restless own) l es k → (es ≡ []) × (l ≡ k)
  none-at-rest own rests done = (refl, refl)
  none-at-rest own {l} rests (going may made rest) =
      let both = and_parts (own l.machine.state) (not (is_resting l.machine.state)) may in
      let no : false ≡ true = ap not (sym rests) ∙ both.1 in cc

  -- a move, and further ones at no rest
  first-led : (own : State → Bool) {l m k : Lexing} {es fs : List Emitted} → move (table names) l ≡ makes m es → Through (move (table names)) (restless own) m fs k → LeadsOn (move (table names)) m fs k
      → LeadsOn (move (table names)) l (es ++ fs) k
  first-led own {l} {m} {k} {es} {fs} made further led = by (tags-rest names l m es made)
    where
      by : AreCharacters (tokens_of es) ⊎ (is_resting m.machine.state ≡ true) → LeadsOn (move (table names)) l (es ++ fs) k
      by (inl a) = onward made a led
      by (inr rests) =
          let ends = none-at-rest own rests further in
          subst (λ (n : Lexing). LeadsOn (move (table names)) l (es ++ fs) n) ends.1
          (subst (λ (xs : List Emitted). LeadsOn (move (table names)) l xs m) (sym (append-nil es) ∙ ap (λ (xs : List Emitted). es ++ xs) (sym ends.0)) (last made))

  through-led : (own : State → Bool) {l k : Lexing} {es : List Emitted} → Through (move (table names)) (restless own) l es k → LeadsOn (move (table names)) l es k
  through-led own done = stays
  through-led own (going may made rest) = first-led own made rest (through-led own rest)

  -- the moves of an answer's tokens: all began at one place, or they are one run
  pub record Led (old new : Lexing) (tokens : List Token) (place : ℕ) : Type 0 where
    pub es : List Emitted
    pub leads : LeadsOn (move (table names)) old es new
    pub spelled : singles tokens ≡ tokens_of es
    pub one_place : AllBegan es place ⊎ ((class : CharClass) × (text : List ℕ) × (tokens ≡ token.Characters class text ∷ []))

  group-led : (own : State → Bool) (old new : Lexing) (tokens : List Token) (place : ℕ) → OneGroup (move (table names)) own old [] new tokens place → Led old new tokens place
  group-led own old new tokens place g = record {
    es = g.first ++ g.rest;
    leads = led-behind g.quiet tt (first-led own g.made g.onward (through-led own g.onward));
    spelled = ap singles g.appends.appended ∙ g.appends.spelled;
    one_place = inl g.one_place;
  }

  run-led : (own : State → Bool) (old new : Lexing) (tokens : List Token) (place : ℕ) → OneRun (move (table names)) own old [] new tokens → Led old new tokens place
  run-led own old new tokens place g =
      let spells : singles tokens ≡ tokens_of g.es = ap singles g.appends.appended ∙ g.appends.spelled in
      let run : single (token.Characters g.class g.text) ≡ tokens_of g.es = sym (append-nil (single (token.Characters g.class g.text))) ∙ (ap singles (sym g.one) ∙ spells) in
      record {
        es = g.es;
        leads = led-behind g.quiet tt (characters-led (Through-leads (g.through (λ s. true) refl)) (subst AreCharacters run (run-alone g.class g.text)));
        spelled = spells;
        one_place = inr (g.class, g.text, g.one);
      }

  pub batch-led : (old new : Lexing) (tokens : List Token) (place : ℕ) → IsBatch names old new tokens place → Led old new tokens place
  batch-led old new tokens place b = by b.group
    where
      by : IsGroup (move (table names)) (part_of b.part) old [] new tokens place → Led old new tokens place
      by (inl g) = group-led (part_of b.part) old new tokens place g
      by (inr g) = run-led (part_of b.part) old new tokens place g
