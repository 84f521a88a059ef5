-- How far nothing older is touched: there is one such place, and it is the same where less text follows.
use Rattle.std.proofs.Common.{◌≡◌, ℕ, List, [], ◌∷◌, ◌++◌, Bool, true, false, not, ◌⊎◌, inl, inr, refl, ap, ◌∙◌, sym, subst, Option, None, Some}
use Rattle.std.specs.Prelude.{◌&&◌, sum_by}
use Rattle.std.specs.Option.{is_some}
use Rattle.std.specs.Char.{len_utf8}
use Rattle.hp_elements.specs.declared.token.Rest.{Rest}
use Rattle.hp_names.specs.References.{Reference}
use Rattle.hp_tokens.specs.Advancing.{tokens_of}
use Rattle.hp_tokens.specs.Moves.{Emitted, Lexing, Move, Rules, asks_cdata, asks_last_tag, ends, makes, move, needs_more}
use Rattle.hp_tokens.specs.Runs.{followed_by as more_unread, IsSteady, Stays}
use Rattle.hp_tokens.proofs.Pieces.{move-stays}
use Rattle.hp_control.specs.declared.edit.Edit.{Edit}
use Rattle.hp_control.specs.Outcome.{touches_any}
use Rattle.hp_control.specs.States.{ControlState}
use Rattle.hp_control.specs.Truth.{rest_of}
use Rattle.hp_groves.specs.Joining.{Same}
use Rattle.hp_lexer.proofs.Steady.{table_steady}
use Rattle.hp_lexer.specs.Table.{table}
use Rattle.hp_model.proofs.Running.{followed-again, goes-followed, goes-same}
use Rattle.hp_model.specs.Handling.{handle}
use Rattle.hp_model.specs.Runs.{Goes, here as stays, onward as steps_on, Parser, Rests, at_lexing, built, followed_by, goes, step, step_by}
use Rattle.hp_model.specs.Turns.{left_by}
use Rattle.hp_runs.proofs.Existing.{run_exists}
use Rattle.hp_runs.proofs.Own.{Touching, from-touching, own-goes, touch_found, touching-from}
use Rattle.hp_runs.specs.Touching.{GoesOwn, here, onward, RunsOwn, TouchesAt, TouchesFrom, is_untouched, touching_here, untouched}
use Rattle.hp_pieces.specs.Running.{Leads, parser_in, state_at}
use Rattle.hp_pieces.specs.First.{IsFirst, restless, touched, whole}

-- what touches isn't untouched
touch_cases : (b u : Bool) (place began : ℕ) (Y : Type 0) → (Y → u ≡ true → ⊥) → touching_here b (place ≡ began) Y → (not b && u) ≡ true → ⊥
touch_cases true u place began Y k t h = let no : false ≡ true = h in cc
touch_cases false u place began Y k t h = k t h

touches-not : (s c : ControlState) (es : List Emitted) (place : ℕ) → TouchesAt s c es place → untouched s c (tokens_of es) ≡ true → ⊥
touches-not s c [] place t h = t
touches-not s c (e ∷ es) place t h =
    touch_cases (touches_any s (handle c e.token).outcome) (untouched s (left_by (handle c e.token)) (tokens_of es)) place e.began
    (TouchesAt s (left_by (handle c e.token)) es place) (touches-not s (left_by (handle c e.token)) es place) t h

once_cases : (b : Bool) (m n began : ℕ) (Y Z : Type 0) → (Y → Z → m ≡ n) → touching_here b (m ≡ began) Y → touching_here b (n ≡ began) Z → m ≡ n
once_cases true m n began Y Z k t u = t ∙ sym u
once_cases false m n began Y Z k t u = k t u

touch-once : (s c : ControlState) (es : List Emitted) (m n : ℕ) → TouchesAt s c es m → TouchesAt s c es n → m ≡ n
touch-once s c [] m n t u = absurd t
touch-once s c (e ∷ es) m n t u =
    once_cases (touches_any s (handle c e.token).outcome) m n e.began (TouchesAt s (left_by (handle c e.token)) es m) (TouchesAt s (left_by (handle c e.token)) es n)
    (touch-once s (left_by (handle c e.token)) es m n) t u

makes-same : (m n : Lexing) (es fs : List Emitted) → makes m es ≡ makes n fs → es ≡ fs
makes-same m n es fs e = cc

module _ (rules : Rules) (s : ControlState) where
  passes-not : {p : Parser} {place : ℕ} → Touching rules s p place → is_untouched s p.control (move rules p.lexing) ≡ true → ⊥
  passes-not {p} {place} t u = touches-not s p.control t.emitted place t.touches (subst (λ (m : Move). is_untouched s p.control m ≡ true) t.makes_them u)

  steps-on : {p : Parser} {place : ℕ} → Touching rules s p place → Rests (step rules) p → ⊥
  steps-on {p} t w = w.no_step (built (at_lexing p t.next) t.emitted).parser (built (at_lexing p t.next) t.emitted).edits (ap (step_by p) t.makes_them)

  same-place : {p : Parser} {m n : ℕ} → Touching rules s p m → Touching rules s p n → m ≡ n
  same-place {p} {m} {n} t u =
      let same : t.emitted ≡ u.emitted = makes-same t.next u.next t.emitted u.emitted (sym t.makes_them ∙ u.makes_them) in
      touch-once s p.control u.emitted m n (subst (λ (es : List Emitted). TouchesAt s p.control es m) same t.touches) u.touches

  one_touch : {p q r : Parser} {es fs : List Edit} {m n : ℕ} → GoesOwn rules s p es q → Touching rules s q m → GoesOwn rules s p fs r → Touching rules s r n → m ≡ n
  one_touch here t here v = same-place t v
  one_touch here t (onward e u g) v = absurd (passes-not t u)
  one_touch (onward e u g) t here v = absurd (passes-not v u)
  one_touch (onward {q = a} {es = es} e u g) t (onward {q = b} {r = r} {es = fs} {fs = others} f w h) v =
      let same : (a ≡ b) × (es ≡ fs) = goes-same a b es fs (sym e ∙ f) in
      one_touch g t (subst (λ (x : Parser). GoesOwn rules s x others r) (sym same.0) h) v

  touch-rests : {p q r : Parser} {es fs : List Edit} {m : ℕ} → GoesOwn rules s p es q → Touching rules s q m → GoesOwn rules s p fs r → Rests (step rules) r → ⊥
  touch-rests here t here w = steps-on t w
  touch-rests here t (onward e u g) w = passes-not t u
  touch-rests (onward {q = a} {es = es} e u g) t here w = w.no_step a es e
  touch-rests (onward {q = a} {es = es} e u g) t (onward {q = b} {r = r} {es = fs} {fs = others} f v h) w =
      let same : (a ≡ b) × (es ≡ fs) = goes-same a b es fs (sym e ∙ f) in
      touch-rests g t (subst (λ (x : Parser). GoesOwn rules s x others r) (sym same.0) h) w

  pub own_or_touches : (from : Parser) (place : ℕ) → RunsOwn rules s from → TouchesFrom rules s from place → ⊥
  own_or_touches from place r t = touch-rests t.goes (touching-from rules s t) r.goes r.rests

  -- along a run something older is touched, or nothing is
  pub data First (p : Parser) : Type 0 where
    touches : (place : ℕ) → TouchesFrom rules s p place → First p
    rests_own : RunsOwn rules s p → First p

  now_touched : (p : Parser) (m : Move) → move rules p.lexing ≡ m → is_untouched s p.control m ≡ false → First p
  now_touched p (makes l es) e u =
      let f = touch_found s p.control es u in
      touches f.0 (record { there = p; edits = []; goes = here; next = l; emitted = es; makes_them = e; touches = f.1 })
  now_touched p needs_more e u = let no : true ≡ false = u in cc
  now_touched p (asks_cdata f h) e u = let no : true ≡ false = u in cc
  now_touched p asks_last_tag e u = let no : true ≡ false = u in cc
  now_touched p (ends es) e u = let no : true ≡ false = u in cc

  further : (p q : Parser) (es : List Edit) → step rules p ≡ goes q es → is_untouched s p.control (move rules p.lexing) ≡ true → First q → First p
  further p q es e u (touches place t) = touches place (from-touching rules s (onward e u t.goes) (touching-from rules s t))
  further p q es e u (rests_own r) = rests_own (record { there = r.there; edits = es ++ r.edits; goes = onward e u r.goes; rests = r.rests })

  pub first_along : {p q : Parser} {es : List Edit} → Goes (step rules) p es q → Rests (step rules) q → First p
  first_along {p} stays w = rests_own (record { there = p; edits = []; goes = here; rests = w })
  first_along {p} (steps_on {q = q} {es = es} e g) w = by (is_untouched s p.control (move rules p.lexing)) refl (first_along g w)
    where
      by : (b : Bool) → is_untouched s p.control (move rules p.lexing) ≡ b → First q → First p
      by true u f = further p q es e u f
      by false u f = now_touched p (move rules p.lexing) refl u

pub first_once : (names : List Reference) (s : ControlState) (text : List ℕ) (m n : ℕ) → IsFirst names s text m → IsFirst names s text n → m ≡ n
first_once names s text m n (restless e) (restless f) = refl
first_once names s text m n (restless e) (touched i t) = let no : false ≡ true = sym (ap is_some e) ∙ i in cc
first_once names s text m n (restless e) (whole i r) = let no : false ≡ true = sym (ap is_some e) ∙ i in cc
first_once names s text m n (touched i t) (restless e) = let no : false ≡ true = sym (ap is_some e) ∙ i in cc
first_once names s text m n (touched i t) (touched j u) = one_touch (table names) s t.goes (touching-from (table names) s t) u.goes (touching-from (table names) s u)
first_once names s text m n (touched i t) (whole j r) = absurd (own_or_touches (table names) s (followed_by (parser_in s) text) _ r t)
first_once names s text m n (whole i r) (restless e) = let no : false ≡ true = sym (ap is_some e) ∙ i in cc
first_once names s text m n (whole i r) (touched j t) = absurd (own_or_touches (table names) s (followed_by (parser_in s) text) _ r t)
first_once names s text m n (whole i r) (whole j q) = refl

pub first_exists : (names : List Reference) (s : ControlState) (text : List ℕ) → (n : ℕ) × IsFirst names s text n
first_exists names s text = by (rest_of s.lex.machine.state) refl
  where
    from : is_some (rest_of s.lex.machine.state) ≡ true → First (table names) s (followed_by (parser_in s) text) → (n : ℕ) × IsFirst names s text n
    from i (touches place t) = (place, touched i t)
    from i (rests_own r) = (sum_by len_utf8 text, whole i r)

    by : (o : Option Rest) → rest_of s.lex.machine.state ≡ o → (n : ℕ) × IsFirst names s text n
    by None e = (0, restless e)
    by (Some rest) e =
        let run = run_exists names (parser_in s) text in
        from (ap is_some e) (first_along (table names) s run.2.goes run.2.rests)

-- what is untouched stays so with more text behind it
stays-own : (s : ControlState) (p : Parser) (now later : Move) (text : List ℕ) (q : Parser) (es : List Edit) → Stays now later text → step_by p now ≡ goes q es → is_untouched s p.control now ≡ true
    → is_untouched s p.control later ≡ true
stays-own s p needs_more later text q es t e u = absurd (cc)
stays-own s p (asks_cdata foreign html) later text q es t e u = ap (is_untouched s p.control) t
stays-own s p asks_last_tag later text q es t e u = absurd (cc)
stays-own s p (makes l ts) later text q es t e u = ap (is_untouched s p.control) t ∙ u
stays-own s p (ends ts) later text q es t e u = absurd (cc)

module _ (rules : Rules) (steady : IsSteady rules) (s : ControlState) where
  pub own-followed : {p q : Parser} {es : List Edit} (text : List ℕ) → GoesOwn rules s p es q → GoesOwn rules s (followed_by p text) es (followed_by q text)
  own-followed text here = here
  own-followed {p} text (onward {q = q} {es = es} e u g) =
      let later : Move = move rules (more_unread p.lexing text) in
      let stays_made : Stays (move rules p.lexing) later text = move-stays rules steady p.lexing text in
      onward (goes-followed p (move rules p.lexing) later text q es stays_made e) (stays-own s p (move rules p.lexing) later text q es stays_made e u) (own-followed text g)

  pub touching-followed : {p : Parser} {place : ℕ} (text : List ℕ) → Touching rules s p place → Touching rules s (followed_by p text) place
  touching-followed {p} text t = record {
    next = more_unread t.next text;
    emitted = t.emitted;
    makes_them = subst (λ (m : Move). Stays m (move rules (more_unread p.lexing text)) text) t.makes_them (move-stays rules steady p.lexing text);
    touches = t.touches;
  }

first-later : (names : List Reference) (s : ControlState) (a b : List ℕ) (m : ℕ) → IsFirst names s a m → IsFirst names s (a ++ b) m ⊎ (m ≡ sum_by len_utf8 a)
first-later names s a b m (restless e) = inl (restless e)
first-later names s a b m (touched i t) =
    inl (touched i (subst (λ (p : Parser). TouchesFrom (table names) s p m) (followed-again (parser_in s) a b)
    (from-touching (table names) s (own-followed (table names) (table_steady names) s b t.goes) (touching-followed (table names) (table_steady names) s b (touching-from (table names) s t)))))
first-later names s a b m (whole i r) = inr refl

pub first_before : (names : List Reference) (s : ControlState) (a b : List ℕ) (n : ℕ) → IsFirst names s (a ++ b) n → n ≡ sum_by len_utf8 a → IsFirst names s a n
first_before names s a b n h e = by (first_exists names s a)
  where
    by : (m : ℕ) × IsFirst names s a m → IsFirst names s a n
    by (m, f) = this (first-later names s a b m f)
      where
        this : IsFirst names s (a ++ b) m ⊎ (m ≡ sum_by len_utf8 a) → IsFirst names s a n
        this (inl x) = subst (IsFirst names s a) (first_once names s (a ++ b) m n x h) f
        this (inr x) = subst (IsFirst names s a) (x ∙ sym e) f

pub own_leads : (names : List Reference) (s : ControlState) (text : List ℕ) (run : RunsOwn (table names) s (followed_by (parser_in s) text)) → Leads names text s run.edits (state_at run.there)
own_leads names s text run = record { made = run.edits; there = run.there; run = record { goes = own-goes (table names) s run.goes; rests = run.rests }; reaches = refl; same = Same run.edits }
