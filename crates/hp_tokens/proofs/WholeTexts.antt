-- A text that is emitted as it stands: each of its code points is a token of its own.
use Rattle.std.proofs.Common.{◌≡◌, ℕ, ◌+◌, ◌<◌, List, [], ◌∷◌, ◌++◌, Bool, true, false, cond, length, map, refl, ap, ◌∙◌, sym, subst, arith, Option, not}
use Rattle.std.specs.Prelude.{◌==◌, IsTrue, sum_by, IfSome}
use Rattle.std.specs.List.{list_all}
use Rattle.std.specs.Char.{len_utf8}
use Rattle.std.proofs.lemmas.Bool.{and_parts, and_from, eqb-true}
use Rattle.std.proofs.lemmas.List.Sums.{sum_by-cons}
use Rattle.hp_elements.specs.declared.token.Token.{Token}
use Rattle.hp_tokens.specs.declared.state.State.{State}
use Rattle.hp_tokens.specs.declared.machine.Machine.{Machine}
use Rattle.hp_tokens.specs.declared.lexing.LexState.{LexState}
use Rattle.hp_tokens.specs.declared.rows.Turn.TheVariants as turns
use Rattle.hp_tokens.specs.Reading.{Unread, first, ReadsRun, StopsRun, SkipsPairCr, begins_with_pair}
use Rattle.hp_tokens.specs.States.{is_resting}
use Rattle.hp_tokens.specs.Rows.{Row, character}
use Rattle.hp_tokens.specs.Moves.{Lexing, Emitted, Rules, move, makes, standing, after_row}
use Rattle.hp_tokens.specs.Runs.{Leads, onward}
use Rattle.hp_tokens.specs.Advancing.{lexing, tokens_of, Began, Says, Appends, HasRows, MovesByRows, Turned, at_rest}
use Rattle.hp_tokens.specs.Plain.{EmitsPlain, none_of}
use Rattle.hp_tokens.proofs.FineRows.{characters-single}
use Rattle.hp_tokens.proofs.Stepping.{by_rows, singles-alone, AreRuns-alone}
use Rattle.hp_tokens.proofs.OneByOne.{rests}
use Rattle.hp_tokens.proofs.PlainRuns.{cleared, rested_at, begins, run_of, same_rest, lexing_clear, text_leads}

-- the code points of a run, each as a token
run_tokens : (m : Machine) (p r : ℕ) (cs : List ℕ) → tokens_of (run_of m p r cs) ≡ map character cs
run_tokens m p r [] = refl
run_tokens m p r (c ∷ cs) = ap (λ (ts : List Token). character c ∷ ts) (run_tokens m (p + len_utf8 c) r cs)

appends_characters : (cs : List ℕ) (es : List Emitted) → tokens_of es ≡ map character cs → Appends [] es (map character cs)
appends_characters cs es e = record {
  more = map character cs;
  appended = refl;
  spelled = singles-alone (map character cs) (characters-single cs) ∙ sym e;
  runs = AreRuns-alone (map character cs) (characters-single cs);
}

behind_pair : (text : List ℕ) → begins_with_pair (13 ∷ text) ≡ true → (cs : List ℕ) × (text ≡ 10 ∷ cs)
behind_pair [] h = cc
behind_pair (x ∷ xs) h = (xs, ap (λ (y : ℕ). y ∷ xs) (eqb-true x 10 h))

module _ (rules : Rules) (has : State → Bool) (row : Machine → Option ℕ → Row) (rows : HasRows rules has row)
    (s : State) (is : IsTrue (has s)) (passes : ℕ → Bool) (no_cr : passes 13 ≡ false) (lf : passes 10 ≡ true) (plain : EmitsPlain row passes s)
    (rest : is_resting s ≡ true) where
  by : MovesByRows (move rules) has row
  by = by_rows rules has row rows

  leads : (m : Machine) (p r : ℕ) (cs u : List ℕ) → m.state ≡ s → list_all passes cs ≡ true
      → Leads (move rules) (standing (cleared m) p r (cs ++ u)) (run_of m p r cs) (standing (cleared m) (p + sum_by len_utf8 cs) r u)
  leads = text_leads has row (move rules) by s is passes no_cr plain

  has_at : (m : Machine) → m.state ≡ s → IsTrue (has m.state)
  has_at m e = let P : State → Type 0 = λ x. IsTrue (has x) in subst P (sym e) is

  -- CR is emitted as LF, and the LF behind it is dropped
  cr_move : (m : Machine) (p r : ℕ) (u : List ℕ) → m.state ≡ s
      → move rules (standing (cleared m) p r (13 ∷ u)) ≡ makes (standing (record m { after_cr = true }) (p + 1) r u) (begins (rested_at m p r) 10 ∷ [])
  cr_move m p r u e =
      let l : Lexing = standing (cleared m) p r (13 ∷ u) in
      by.by_row l 13 u refl refl (has_at m e)
      ∙ (ap (λ (x : Row). after_row x l 13 u x.reads) (plain.stays (cleared m) 10 e lf)
      ∙ ap (λ (x : Lexing). makes x (begins (rested_at m p r) 10 ∷ [])) (same_rest (record m { after_cr = true }) (p + 1) p r u))

  pair_move : (m : Machine) (p r : ℕ) (u : List ℕ)
      → move rules (standing (record m { after_cr = true }) p r (10 ∷ u)) ≡ makes (standing (cleared m) (p + 1) r u) []
  pair_move m p r u =
      let l : Lexing = standing (record m { after_cr = true }) p r (10 ∷ u) in
      by.by_pair l 10 u refl refl ∙ ap (λ (x : Lexing). makes x []) (same_rest (cleared m) (p + 1) p r u)

  pair_leads : (m : Machine) (p r : ℕ) (cs u : List ℕ) → m.state ≡ s → list_all passes cs ≡ true
      → Leads (move rules) (standing (cleared m) p r (13 ∷ (10 ∷ (cs ++ u)))) (begins (rested_at m p r) 10 ∷ run_of m (p + 1 + 1) r cs)
      (standing (cleared m) ((p + 1 + 1) + sum_by len_utf8 cs) r u)
  pair_leads m p r cs u e h = onward (cr_move m p r (10 ∷ (cs ++ u)) e) (onward (pair_move m (p + 1) r (cs ++ u)) (leads m (p + 1 + 1) r cs u e h))

  -- the moves of the text c ∷ cs, of which the LF is a pair's where one comes first
  record Moved (m : Machine) (p q r : ℕ) (old u : List ℕ) (text : List ℕ) : Type 0 where
    es : List Emitted
    way : Leads (move rules) (standing (cleared m) p r old) es (standing (cleared m) q r u)
    tokens : tokens_of es ≡ map character text
    began : Began es (rested_at m p r)
    says : Says es true

  moved_plain : (m : Machine) (p q r c : ℕ) (cs old u : List ℕ) → m.state ≡ s → old ≡ (c ∷ cs) ++ u → q ≡ p + sum_by len_utf8 (c ∷ cs)
      → list_all passes (c ∷ cs) ≡ true → Moved m p q r old u (c ∷ cs)
  moved_plain m p q r c cs old u e text place h = record {
    es = run_of m p r (c ∷ cs);
    way =
        let P : List ℕ → Type 0 = λ xs. Leads (move rules) (standing (cleared m) p r xs) (run_of m p r (c ∷ cs)) (standing (cleared m) q r u) in
        let Q : ℕ → Type 0 = λ x. Leads (move rules) (standing (cleared m) p r ((c ∷ cs) ++ u)) (run_of m p r (c ∷ cs)) (standing (cleared m) x r u) in
        subst P (sym text) (subst Q (sym place) (leads m p r (c ∷ cs) u e h));
    tokens = run_tokens m p r (c ∷ cs);
    began = refl;
    says = refl;
  }

  moved_pair : (m : Machine) (p q r c : ℕ) (cs old u : List ℕ) → m.state ≡ s → old ≡ 13 ∷ ((c ∷ cs) ++ u) → begins_with_pair old ≡ true
      → q ≡ (p + 1) + sum_by len_utf8 (c ∷ cs) → list_all passes (c ∷ cs) ≡ true → Moved m p q r old u (c ∷ cs)
  moved_pair m p q r c cs old u e text pair place h =
      let first = behind_pair ((c ∷ cs) ++ u) (sym (ap begins_with_pair text) ∙ pair) in
      let is_lf : c ≡ 10 = let both : c ∷ (cs ++ u) ≡ 10 ∷ first.0 = first.1 in cc in
      let whole : old ≡ 13 ∷ (10 ∷ (cs ++ u)) = text ∙ ap (λ (x : ℕ). 13 ∷ (x ∷ (cs ++ u))) is_lf in
      let width : len_utf8 c ≡ 1 = ap (λ (x : ℕ). len_utf8 x) is_lf in
      let at : (p + 1 + 1) + sum_by len_utf8 cs ≡ q = omega (arith, sum_by-cons len_utf8 c cs, place, width) in
      record {
        es = begins (rested_at m p r) 10 ∷ run_of m (p + 1 + 1) r cs;
        way =
            let P : List ℕ → Type 0 = λ xs. Leads (move rules) (standing (cleared m) p r xs) (begins (rested_at m p r) 10 ∷ run_of m (p + 1 + 1) r cs) (standing (cleared m) q r u) in
            let Q : ℕ → Type 0 = λ x. Leads (move rules) (standing (cleared m) p r (13 ∷ (10 ∷ (cs ++ u)))) (begins (rested_at m p r) 10 ∷ run_of m (p + 1 + 1) r cs) (standing (cleared m) x r u) in
            subst P (sym whole) (subst Q at (pair_leads m p r cs u e (and_parts (passes c) _ h).1));
        tokens = ap (λ (x : ℕ). character x ∷ tokens_of (run_of m (p + 1 + 1) r cs)) (sym is_lf) ∙ ap (λ (ts : List Token). character c ∷ ts) (run_tokens m (p + 1 + 1) r cs);
        began = refl;
        says = refl;
      }

  moved : (m : Machine) (r : ℕ) (old mid new : Unread) (text : List ℕ) → m.state ≡ s → SkipsPairCr old mid → ReadsRun passes mid text new
      → 0 < length text → Moved m old.place new.place r old.text new.text text
  moved m r old mid new [] e skips run some = absurd (omega (arith, some))
  moved m r old mid new (c ∷ cs) e skips run some = by_cases (begins_with_pair old.text) refl
    where
      by_cases : (b : Bool) → begins_with_pair old.text ≡ b → Moved m old.place new.place r old.text new.text (c ∷ cs)
      by_cases true h =
          let took = skips.taken h in
          let width : len_utf8 13 ≡ 1 = refl in
          moved_pair m old.place new.place r c cs old.text new.text e (took.text ∙ ap (λ (xs : List ℕ). 13 ∷ xs) run.text) h (omega (arith, run.place, took.place, width)) run.passes
      by_cases false h =
          let same = skips.left h in
          moved_plain m old.place new.place r c cs old.text new.text e (sym (ap (λ (u : Unread). u.text) same) ∙ run.text)
          (run.place ∙ ap (λ (u : Unread). u.place + sum_by len_utf8 (c ∷ cs)) same) run.passes

  -- the promise of a text that is emitted as it stands
  pub whole_turn : (own : State → Bool) (l : LexState) (old mid new : Unread) (text : List ℕ) (r place : ℕ) → l.machine.state ≡ s
      → l.machine.after_cr ≡ false → l.ahead ≡ [] → place ≡ old.place → SkipsPairCr old mid → ReadsRun passes mid text new → 0 < length text
      → Turned rules own (lexing l old r) [] (lexing l new place) (map character text) place turns.Emitted
  whole_turn own l old mid new text r place e cr ahead at skips run some =
      let resting : is_resting l.machine.state ≡ true = ap (λ (x : State). is_resting x) e ∙ rest in
      let x = moved l.machine place old mid new text e skips run some in
      let start : lexing l old r ≡ standing (cleared l.machine) old.place place old.text = rests l old r place resting ∙ lexing_clear l old place cr ahead in
      let end : lexing l new place ≡ standing (cleared l.machine) new.place place new.text = lexing_clear l new place cr ahead in
      let P : Lexing → Type 0 = λ k. Leads (move rules) k x.es (lexing l new place) in
      let Q : Lexing → Type 0 = λ k. Leads (move rules) (standing (cleared l.machine) old.place place old.text) x.es k in
      let B : ℕ → Type 0 = λ p. Began x.es p in
      let first : rested_at l.machine old.place place ≡ place = ap (λ (b : Bool). cond b old.place place) resting ∙ sym at in (
        record {
          es = x.es;
          leads = subst P (sym start) (subst Q (sym end) x.way);
          appends = appends_characters text x.es x.tokens;
          began = subst B first x.began;
          says = x.says;
        },
        at_rest resting,
      )

-- a text without these has none of the first
pub no-first : (x : ℕ) (stops text : List ℕ) → list_all (none_of (x ∷ stops)) text ≡ true → list_all (none_of (x ∷ [])) text ≡ true
no-first x stops [] h = refl
no-first x stops (c ∷ cs) h =
    let parts = and_parts (none_of (x ∷ stops) c) _ h in
    and_from (none_of (x ∷ []) c) _ (and_from (not (c == x)) true (and_parts (not (c == x)) _ parts.0).0 refl) (no-first x stops cs parts.1)

same_unread : (old new : Unread) → old.text ≡ new.text → new.place ≡ old.place → new ≡ old
same_unread old new text place =
    ap (λ (p : ℕ). record { place = p; text = new.text }) place ∙ ap (λ (t : List ℕ). record { place = old.place; text = t }) (sym text)

-- where nothing comes first that is emitted as it stands, nothing was taken
pub whole-none : (passes : ℕ → Bool) → passes 10 ≡ true → (old mid new : Unread) (text : List ℕ) → SkipsPairCr old mid → ReadsRun passes mid text new
    → StopsRun passes new → text ≡ [] → new ≡ old
whole-none passes lf old mid new text skips run stops none =
    let left : mid.text ≡ new.text = run.text ∙ ap (λ (xs : List ℕ). xs ++ new.text) none in
    let still : new.place ≡ mid.place = run.place ∙ (ap (λ (xs : List ℕ). mid.place + sum_by len_utf8 xs) none ∙ omega arith) in
    by_cases (begins_with_pair old.text) refl left still
  where
    by_cases : (b : Bool) → begins_with_pair old.text ≡ b → mid.text ≡ new.text → new.place ≡ mid.place → new ≡ old
    by_cases true h left still =
        let took = skips.taken h in
        let next = behind_pair mid.text (sym (ap begins_with_pair took.text) ∙ h) in
        let P : List ℕ → Type 0 = λ xs. IfSome (first xs) (λ c. passes c ≡ false) in
        let stopped : passes 10 ≡ false = subst P (sym left ∙ next.1) stops in
        let both : true ≡ false = sym lf ∙ stopped in cc
    by_cases false h left still = same_unread mid new left still ∙ skips.left h
