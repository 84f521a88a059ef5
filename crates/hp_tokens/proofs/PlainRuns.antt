-- A run of plain code points is that many moves.
use Rattle.std.proofs.Common.{◌≡◌, ℕ, ◌+◌, ◌-◌, ◌<◌, List, [], ◌∷◌, ◌++◌, Bool, true, false, inl, inr, cond, length, map, refl, ap, ◌∙◌, sym, subst, arith, Option, None, Some, append-nil, append_assoc, length-append}
use Rattle.std.specs.Prelude.{◌==◌, IsTrue, sum_by, MatchOption}
use Rattle.std.specs.List.{list_all}
use Rattle.std.specs.Char.{len_utf8}
use Rattle.std.specs.Str.{chars}
use Rattle.std.proofs.lemmas.Str.{chars-nil}
use Rattle.std.proofs.lemmas.Bool.{and_parts}
use Rattle.std.proofs.lemmas.List.Sums.{sum_by-cons}
use Rattle.hp_elements.specs.Tokens.{class_of}
use Rattle.hp_elements.specs.declared.token.CharClass.{CharClass}
use Rattle.hp_elements.specs.declared.token.Token.{Token}
use Rattle.hp_elements.specs.declared.token.Token.TheVariants.{Characters}
use Rattle.hp_elements.specs.declared.token.CharClass.TheVariants.{White, Other}
use Rattle.hp_tokens.specs.declared.building.Building.{Building}
use Rattle.hp_tokens.specs.declared.building.Building.TheVariants as building
use Rattle.hp_tokens.specs.declared.building.NewAttribute.{NewAttribute}
use Rattle.hp_tokens.specs.declared.building.NewTag.{NewTag}
use Rattle.hp_tokens.specs.declared.building.NewDoctype.{NewDoctype}
use Rattle.hp_tokens.specs.declared.building.Part.{Part}
use Rattle.hp_tokens.specs.declared.building.Part.TheVariants.{Name, Comment, AttributeName, Value, DoctypeName, Public, System}
use Rattle.hp_tokens.specs.declared.state.State.{State}
use Rattle.hp_tokens.specs.declared.machine.Machine.{Machine}
use Rattle.hp_tokens.specs.declared.lexing.LexState.{LexState}
use Rattle.hp_tokens.specs.Reading.{Unread, first, Reads, ReadsRun}
use Rattle.hp_tokens.specs.States.{is_resting}
use Rattle.hp_tokens.specs.Parts.{put, put_in_tag, put_in_name, put_in_comment, put_in_doctype, longer_name, longer_value, appended}
use Rattle.hp_tokens.specs.Rows.{Row, is_blank, character, putting, putting_text}
use Rattle.hp_tokens.specs.Moves.{Lexing, Emitted, Move, makes, standing, after_row, read_as}
use Rattle.hp_tokens.specs.Runs.{Leads, here, onward}
use Rattle.hp_tokens.specs.Groups.{Through, done, going, AllBegan, Together, no_token, in_state, as_run}
use Rattle.hp_tokens.specs.Ranks.{symbol_of}
use Rattle.hp_tokens.specs.Advancing.{place_of, lexing, tokens_of, IsRunText, Goes, MovesByRows}
use Rattle.hp_tokens.specs.PlainLaws.{unlike}
use Rattle.hp_tokens.specs.Plain.{EmitsPlain, PutsPlain, TextTaken, IsOneToken, MayTake, TextRan}
use Rattle.hp_tokens.proofs.Texts.{has_none}
use Rattle.hp_tokens.proofs.Stepping.{stand_same, rank-below}
use Rattle.hp_tokens.proofs.OneByOne.{Appends-none}

-- after a code point that is no CR
abbrev pub cleared : Machine → Machine
cleared m = record m { after_cr = false }

-- the last rest before a code point at p
abbrev pub rested_at : Machine → ℕ → ℕ → ℕ
rested_at m p r = cond (is_resting m.state) p r

pub same_rest : (m : Machine) (q p r : ℕ) (u : List ℕ) → standing m q (rested_at m p r) u ≡ standing m q r u
same_rest m q p r u = by_cases (is_resting m.state) refl
  where
    by_cases : (b : Bool) → is_resting m.state ≡ b → standing m q (rested_at m p r) u ≡ standing m q r u
    by_cases true h = rw h refl
    by_cases false h = rw h refl

read_same : (c : ℕ) → (c == 13) ≡ false → read_as c ≡ c
read_same c h = rw h refl

abbrev pub begins : ℕ → ℕ → Emitted
begins p c = record { began = p; token = character c }

abbrev pub run_of : Machine → ℕ → ℕ → List ℕ → List Emitted
run_of m p r [] = []
run_of m p r (c ∷ cs) = begins (rested_at m p r) c ∷ run_of m (p + len_utf8 c) r cs

-- a run as one token is those of its code points
run_singles : (passes : ℕ → Bool) (class : CharClass) (alike : (c : ℕ) → passes c ≡ true → class_of c ≡ class) (m : Machine) (p r : ℕ) (cs : List ℕ)
    → list_all passes cs ≡ true → map (λ c. Characters class (c ∷ [])) cs ≡ tokens_of (run_of m p r cs)
run_singles passes class alike m p r [] h = refl
run_singles passes class alike m p r (c ∷ cs) h =
    ap (λ (k : CharClass). Characters k (c ∷ []) ∷ map (λ c. Characters class (c ∷ [])) cs) (sym (alike c (and_parts (passes c) _ h).0))
    ∙ ap (λ (ts : List Token). character c ∷ ts) (run_singles passes class alike m (p + len_utf8 c) r cs (and_parts (passes c) _ h).1)

-- a lexer that holds nothing back, with no CR before
pub lexing_clear : (l : LexState) (input : Unread) (r : ℕ) → l.machine.after_cr ≡ false → l.ahead ≡ []
    → lexing l input r ≡ standing (cleared l.machine) input.place r input.text
lexing_clear l input r cr ahead =
    let place : place_of l input ≡ input.place = ap (λ (xs : List ℕ). input.place - sum_by len_utf8 xs) ahead ∙ omega arith in
    stand_same (ap (λ (x : Bool). record l.machine { after_cr = x }) cr) place refl (ap (λ (xs : List ℕ). xs ++ input.text) ahead)

-- a text that is appended in two parts
name_twice : (xs ys : List ℕ) (a : Option NewAttribute) → longer_name (xs ++ ys) a ≡ longer_name ys (longer_name xs a)
name_twice xs ys None = refl
name_twice xs ys (Some a) = ap (λ (n : List ℕ). Some (record a { name = n })) (sym (append_assoc a.name xs ys))

value_twice : (xs ys : List ℕ) (a : Option NewAttribute) → longer_value (xs ++ ys) a ≡ longer_value ys (longer_value xs a)
value_twice xs ys None = refl
value_twice xs ys (Some a) = ap (λ (n : List ℕ). Some (record a { value = n })) (sym (append_assoc a.value xs ys))

appended_twice : (xs ys : List ℕ) (a : Option (List ℕ)) → appended a (xs ++ ys) ≡ appended (appended a xs) ys
appended_twice xs ys None = refl
appended_twice xs ys (Some a) = ap (λ (n : List ℕ). Some n) (sym (append_assoc a xs ys))

tag_twice : (part : Part) (xs ys : List ℕ) (t : NewTag) → put_in_tag part (xs ++ ys) t ≡ put_in_tag part ys (put_in_tag part xs t)
tag_twice Name xs ys t = ap (λ (n : List ℕ). record t { name = n }) (sym (append_assoc t.name xs ys))
tag_twice AttributeName xs ys t = ap (λ (a : Option NewAttribute). record t { attribute = a }) (name_twice xs ys t.attribute)
tag_twice Value xs ys t = ap (λ (a : Option NewAttribute). record t { attribute = a }) (value_twice xs ys t.attribute)
tag_twice _ xs ys t = refl

end_twice : (part : Part) (xs ys name : List ℕ) → put_in_name part (xs ++ ys) name ≡ put_in_name part ys (put_in_name part xs name)
end_twice Name xs ys name = sym (append_assoc name xs ys)
end_twice _ xs ys name = refl

comment_twice : (part : Part) (xs ys text : List ℕ) → put_in_comment part (xs ++ ys) text ≡ put_in_comment part ys (put_in_comment part xs text)
comment_twice Comment xs ys text = sym (append_assoc text xs ys)
comment_twice _ xs ys text = refl

doctype_twice : (part : Part) (xs ys : List ℕ) (d : NewDoctype) → put_in_doctype part (xs ++ ys) d ≡ put_in_doctype part ys (put_in_doctype part xs d)
doctype_twice DoctypeName xs ys d = ap (λ (n : Option (List ℕ)). record d { name = n }) (appended_twice xs ys d.name)
doctype_twice Public xs ys d = ap (λ (n : Option (List ℕ)). record d { public = n }) (appended_twice xs ys d.public)
doctype_twice System xs ys d = ap (λ (n : Option (List ℕ)). record d { system = n }) (appended_twice xs ys d.system)
doctype_twice _ xs ys d = refl

put_twice : (part : Part) (xs ys : List ℕ) (b : Building) → put part (xs ++ ys) b ≡ put part ys (put part xs b)
put_twice part xs ys building.Nothing = refl
put_twice part xs ys (building.StartTag t) = ap (λ (x : NewTag). building.StartTag x) (tag_twice part xs ys t)
put_twice part xs ys (building.EndTag name) = ap (λ (x : List ℕ). building.EndTag x) (end_twice part xs ys name)
put_twice part xs ys (building.Comment text) = ap (λ (x : List ℕ). building.Comment x) (comment_twice part xs ys text)
put_twice part xs ys (building.Doctype d) = ap (λ (x : NewDoctype). building.Doctype x) (doctype_twice part xs ys d)

putting_twice : (part : Part) (c : ℕ) (cs : List ℕ) (m : Machine) → putting_text part (c ∷ cs) m ≡ putting_text part cs (putting part c m)
putting_twice part c cs m = ap (λ (b : Building). record m { building = b }) (put_twice part (c ∷ []) cs m.building)

module _ (has : State → Bool) (row : Machine → Option ℕ → Row) (next : Lexing → Move) (rows : MovesByRows next has row)
    (s : State) (is : IsTrue (has s)) (passes : ℕ → Bool) (no_cr : passes 13 ≡ false) where
  has_at : (m : Machine) → m.state ≡ s → IsTrue (has m.state)
  has_at m e = let P : State → Type 0 = λ x. IsTrue (has x) in subst P (sym e) is

  module _ (plain : EmitsPlain row passes s) where
    text_move : (m : Machine) (p r c : ℕ) (u : List ℕ) → m.state ≡ s → passes c ≡ true
        → next (standing (cleared m) p r (c ∷ u)) ≡ makes (standing (cleared m) (p + len_utf8 c) r u) (begins (rested_at m p r) c ∷ [])
    text_move m p r c u e h =
        let l : Lexing = standing (cleared m) p r (c ∷ u) in
        let cr : (c == 13) ≡ false = unlike passes 13 c no_cr h in
        rows.by_row l c u refl refl (has_at m e)
        ∙ (ap (λ (x : ℕ). after_row (row (cleared m) (Some x)) l c u (row (cleared m) (Some x)).reads) (read_same c cr)
        ∙ (ap (λ (x : Row). after_row x l c u x.reads) (plain.stays (cleared m) c e h)
        ∙ (ap (λ (b : Bool). makes (standing (record m { after_cr = b }) (p + len_utf8 c) (rested_at m p r) u) (begins (rested_at m p r) c ∷ [])) cr
        ∙ ap (λ (x : Lexing). makes x (begins (rested_at m p r) c ∷ [])) (same_rest (cleared m) (p + len_utf8 c) p r u))))

    pub text_leads : (m : Machine) (p r : ℕ) (cs u : List ℕ) → m.state ≡ s → list_all passes cs ≡ true
        → Leads next (standing (cleared m) p r (cs ++ u)) (run_of m p r cs) (standing (cleared m) (p + sum_by len_utf8 cs) r u)
    text_leads m p r [] u e h =
        let P : ℕ → Type 0 = λ q. Leads next (standing (cleared m) p r u) [] (standing (cleared m) q r u) in
        let end : p ≡ p + sum_by len_utf8 [] = omega arith in
        subst P end here
    text_leads m p r (c ∷ cs) u e h =
        let P : ℕ → Type 0 = λ q. Leads next (standing (cleared m) p r (c ∷ (cs ++ u))) (run_of m p r (c ∷ cs)) (standing (cleared m) q r u) in
        let end : (p + len_utf8 c) + sum_by len_utf8 cs ≡ p + sum_by len_utf8 (c ∷ cs) = omega (arith, sum_by-cons len_utf8 c cs) in
        subst P end (onward (text_move m p r c (cs ++ u) e (and_parts (passes c) _ h).0)
        (text_leads m (p + len_utf8 c) r cs u e (and_parts (passes c) _ h).1))

    -- each of these moves is made in the state s
    text_through : (may : State → Bool) → may s ≡ true → (m : Machine) (p r : ℕ) (cs u : List ℕ) → m.state ≡ s → list_all passes cs ≡ true
        → Through next may (standing (cleared m) p r (cs ++ u)) (run_of m p r cs) (standing (cleared m) (p + sum_by len_utf8 cs) r u)
    text_through may k m p r [] u e h =
        let P : ℕ → Type 0 = λ q. Through next may (standing (cleared m) p r u) [] (standing (cleared m) q r u) in
        let end : p ≡ p + sum_by len_utf8 [] = omega arith in
        subst P end done
    text_through may k m p r (c ∷ cs) u e h =
        let P : ℕ → Type 0 = λ q. Through next may (standing (cleared m) p r (c ∷ (cs ++ u))) (run_of m p r (c ∷ cs)) (standing (cleared m) q r u) in
        let end : (p + len_utf8 c) + sum_by len_utf8 cs ≡ p + sum_by len_utf8 (c ∷ cs) = omega (arith, sum_by-cons len_utf8 c cs) in
        subst P end (going (ap may e ∙ k) (text_move m p r c (cs ++ u) e (and_parts (passes c) _ h).0)
        (text_through may k m (p + len_utf8 c) r cs u e (and_parts (passes c) _ h).1))

    run_began : (m : Machine) (p r place : ℕ) (cs : List ℕ) → is_resting m.state ≡ false → r ≡ place → AllBegan (run_of m p r cs) place
    run_began m p r place [] h e = tt
    run_began m p r place (c ∷ cs) h e = ((rw h e), run_began m (p + len_utf8 c) r place cs h e)

    text_together : (m : Machine) (p r q : ℕ) (cs v u : List ℕ) (class : CharClass) (more : List Token) → more ≡ Characters class cs ∷ [] → (b : Bool) → is_resting m.state ≡ b
        → Together next (standing (cleared m) p r v) (run_of m p r cs) (standing (cleared m) q r u) more
    text_together m p r q cs v u class more one true h = as_run class cs one h h
    text_together m p r q cs v u class more one false h = in_state h (run_began m p r _ cs h (rw h refl))

    module _ (class : CharClass) (alike : (c : ℕ) → passes c ≡ true → class_of c ≡ class) where
      text_goes : (m : Machine) (p r q : ℕ) (cs u : List ℕ) (old_tokens new_tokens : List Token) → m.state ≡ s → list_all passes cs ≡ true
          → 0 < length cs → q ≡ p + sum_by len_utf8 cs → IsRunText cs → new_tokens ≡ old_tokens ++ Characters class cs ∷ []
          → Goes next (standing (cleared m) p r (cs ++ u)) old_tokens (standing (cleared m) q r u) new_tokens true
      text_goes m p r q [] u old_tokens new_tokens e h some end lone appended = absurd (omega (arith, some))
      text_goes m p r q (c ∷ cs) u old_tokens new_tokens e h some end lone appended = record {
        mid = standing (cleared m) (p + len_utf8 c) r (cs ++ u);
        first = begins (rested_at m p r) c ∷ [];
        rest = run_of m (p + len_utf8 c) r cs;
        made = text_move m p r c (cs ++ u) e (and_parts (passes c) _ h).0;
        leads =
            let P : ℕ → Type 0 = λ x. Leads next (standing (cleared m) (p + len_utf8 c) r (cs ++ u)) (run_of m (p + len_utf8 c) r cs) (standing (cleared m) x r u) in
            let at : (p + len_utf8 c) + sum_by len_utf8 cs ≡ q = omega (arith, sum_by-cons len_utf8 c cs, end) in
            subst P at (text_leads m (p + len_utf8 c) r cs u e (and_parts (passes c) _ h).1);
        appends = record {
          more = Characters class (c ∷ cs) ∷ [];
          appended = appended;
          spelled = append-nil (map (λ c. Characters class (c ∷ [])) (c ∷ cs)) ∙ run_singles passes class alike m p r (c ∷ cs) h;
          runs = (lone, tt);
        };
        began = refl;
        says = refl;
        smaller = omega (arith, rank-below m.state (symbol_of u), length-append cs u);
        through = λ may k.
            let P : ℕ → Type 0 = λ x. Through next may (standing (cleared m) p r (c ∷ (cs ++ u))) (run_of m p r (c ∷ cs)) (standing (cleared m) x r u) in
            subst P (sym end) (text_through may (ap may (sym e) ∙ k) m p r (c ∷ cs) u e h);
        together = text_together m p r q (c ∷ cs) (c ∷ (cs ++ u)) u class _ refl (is_resting m.state) refl;
      }

      pub text_ran : (l : LexState) (old new : Unread) (taken : Token) (tokens : List Token) → l.machine.state ≡ s → l.machine.after_cr ≡ false
          → l.ahead ≡ [] → TextTaken passes class old taken new → (rested : ℕ)
          → Goes next (lexing l old rested) tokens (lexing l new rested) (tokens ++ taken ∷ []) true
      text_ran l old new taken tokens e cr ahead t rested =
          let P : Lexing → Type 0 = λ x. Goes next x tokens (lexing l new rested) (tokens ++ taken ∷ []) true in
          let Q : Lexing → Type 0 = λ x. Goes next (standing (cleared l.machine) old.place rested old.text) tokens x (tokens ++ taken ∷ []) true in
          let R : List ℕ → Type 0 = λ u. Goes next (standing (cleared l.machine) old.place rested u) tokens (standing (cleared l.machine) new.place rested new.text) (tokens ++ taken ∷ []) true in
          subst P (sym (lexing_clear l old rested cr ahead)) (subst Q (sym (lexing_clear l new rested cr ahead))
          (subst R (sym t.reads.text) (text_goes l.machine old.place rested new.place t.run new.text tokens (tokens ++ taken ∷ []) e t.reads.passes t.some t.reads.place t.lone
          (ap (λ (x : Token). tokens ++ x ∷ []) t.is))))

  module _ (part : Part) (plain : PutsPlain row passes part s) where
    put_move : (m : Machine) (p r c : ℕ) (u : List ℕ) → m.state ≡ s → passes c ≡ true
        → next (standing (cleared m) p r (c ∷ u)) ≡ makes (standing (cleared (putting part c m)) (p + len_utf8 c) r u) []
    put_move m p r c u e h =
        let l : Lexing = standing (cleared m) p r (c ∷ u) in
        let cr : (c == 13) ≡ false = unlike passes 13 c no_cr h in
        rows.by_row l c u refl refl (has_at m e)
        ∙ (ap (λ (x : ℕ). after_row (row (cleared m) (Some x)) l c u (row (cleared m) (Some x)).reads) (read_same c cr)
        ∙ (ap (λ (x : Row). after_row x l c u x.reads) (plain.stays (cleared m) c e h)
        ∙ (ap (λ (b : Bool). makes (standing (record (putting part c m) { after_cr = b }) (p + len_utf8 c) (rested_at m p r) u) []) cr
        ∙ ap (λ (x : Lexing). makes x []) (same_rest (cleared (putting part c m)) (p + len_utf8 c) p r u))))

    put_leads : (m : Machine) (p r c : ℕ) (cs u : List ℕ) → m.state ≡ s → list_all passes (c ∷ cs) ≡ true
        → Leads next (standing (cleared m) p r (c ∷ (cs ++ u))) [] (standing (cleared (putting_text part (c ∷ cs) m)) (p + sum_by len_utf8 (c ∷ cs)) r u)
    put_leads m p r c [] u e h =
        let P : ℕ → Type 0 = λ q. Leads next (standing (cleared m) p r (c ∷ u)) [] (standing (cleared (putting part c m)) q r u) in
        let end : p + len_utf8 c ≡ p + sum_by len_utf8 (c ∷ []) = omega (arith, sum_by-cons len_utf8 c []) in
        subst P end (onward (put_move m p r c u e (and_parts (passes c) _ h).0) here)
    put_leads m p r c (d ∷ ds) u e h =
        let P : ℕ → Type 0 = λ q. Leads next (standing (cleared m) p r (c ∷ (d ∷ (ds ++ u)))) [] (standing (cleared (putting_text part (c ∷ (d ∷ ds)) m)) q r u) in
        let Q : Machine → Type 0 = λ x. Leads next (standing (cleared m) p r (c ∷ (d ∷ (ds ++ u)))) [] (standing (cleared x) ((p + len_utf8 c) + sum_by len_utf8 (d ∷ ds)) r u) in
        let end : (p + len_utf8 c) + sum_by len_utf8 (d ∷ ds) ≡ p + sum_by len_utf8 (c ∷ (d ∷ ds)) = omega (arith, sum_by-cons len_utf8 c (d ∷ ds)) in
        subst P end (subst Q (sym (putting_twice part c (d ∷ ds) m)) (onward (put_move m p r c (d ∷ (ds ++ u)) e (and_parts (passes c) _ h).0)
        (put_leads (putting part c m) (p + len_utf8 c) r d ds u e (and_parts (passes c) _ h).1)))

    put_through : (may : State → Bool) → may s ≡ true → (m : Machine) (p r c : ℕ) (cs u : List ℕ) → m.state ≡ s → list_all passes (c ∷ cs) ≡ true
        → Through next may (standing (cleared m) p r (c ∷ (cs ++ u))) [] (standing (cleared (putting_text part (c ∷ cs) m)) (p + sum_by len_utf8 (c ∷ cs)) r u)
    put_through may k m p r c [] u e h =
        let P : ℕ → Type 0 = λ q. Through next may (standing (cleared m) p r (c ∷ u)) [] (standing (cleared (putting part c m)) q r u) in
        let end : p + len_utf8 c ≡ p + sum_by len_utf8 (c ∷ []) = omega (arith, sum_by-cons len_utf8 c []) in
        subst P end (going (ap may e ∙ k) (put_move m p r c u e (and_parts (passes c) _ h).0) done)
    put_through may k m p r c (d ∷ ds) u e h =
        let P : ℕ → Type 0 = λ q. Through next may (standing (cleared m) p r (c ∷ (d ∷ (ds ++ u)))) [] (standing (cleared (putting_text part (c ∷ (d ∷ ds)) m)) q r u) in
        let Q : Machine → Type 0 = λ x. Through next may (standing (cleared m) p r (c ∷ (d ∷ (ds ++ u)))) [] (standing (cleared x) ((p + len_utf8 c) + sum_by len_utf8 (d ∷ ds)) r u) in
        let end : (p + len_utf8 c) + sum_by len_utf8 (d ∷ ds) ≡ p + sum_by len_utf8 (c ∷ (d ∷ ds)) = omega (arith, sum_by-cons len_utf8 c (d ∷ ds)) in
        subst P end (subst Q (sym (putting_twice part c (d ∷ ds) m)) (going (ap may e ∙ k) (put_move m p r c (d ∷ (ds ++ u)) e (and_parts (passes c) _ h).0)
        (put_through may k (putting part c m) (p + len_utf8 c) r d ds u e (and_parts (passes c) _ h).1)))

    put_goes : (m : Machine) (p r q : ℕ) (cs u : List ℕ) (tokens : List Token) → m.state ≡ s → list_all passes cs ≡ true
        → 0 < length cs → q ≡ p + sum_by len_utf8 cs
        → Goes next (standing (cleared m) p r (cs ++ u)) tokens (standing (cleared (putting_text part cs m)) q r u) tokens false
    put_goes m p r q [] u tokens e h some end = absurd (omega (arith, some))
    put_goes m p r q (c ∷ []) u tokens e h some end =
        let P : ℕ → Type 0 = λ x. Goes next (standing (cleared m) p r (c ∷ u)) tokens (standing (cleared (putting part c m)) x r u) tokens false in
        let at : p + len_utf8 c ≡ q = omega (arith, sum_by-cons len_utf8 c [], end) in
        subst P at record {
          mid = standing (cleared (putting part c m)) (p + len_utf8 c) r u;
          first = [];
          rest = [];
          made = put_move m p r c u e (and_parts (passes c) _ h).0;
          leads = here;
          appends = Appends-none tokens;
          began = tt;
          says = refl;
          smaller = omega (arith, rank-below m.state (symbol_of u));
          through = λ may k. going k (put_move m p r c u e (and_parts (passes c) _ h).0) done;
          together = no_token refl;
        }
    put_goes m p r q (c ∷ (d ∷ ds)) u tokens e h some end =
        let P : ℕ → Type 0 = λ x. Goes next (standing (cleared m) p r (c ∷ (d ∷ (ds ++ u)))) tokens (standing (cleared (putting_text part (c ∷ (d ∷ ds)) m)) x r u) tokens false in
        let at : (p + len_utf8 c) + sum_by len_utf8 (d ∷ ds) ≡ q = omega (arith, sum_by-cons len_utf8 c (d ∷ ds), end) in
        let Q : Machine → Type 0 = λ x. Leads next (standing (cleared (putting part c m)) (p + len_utf8 c) r (d ∷ (ds ++ u))) [] (standing (cleared x) ((p + len_utf8 c) + sum_by len_utf8 (d ∷ ds)) r u) in
        subst P at record {
          mid = standing (cleared (putting part c m)) (p + len_utf8 c) r (d ∷ (ds ++ u));
          first = [];
          rest = [];
          made = put_move m p r c (d ∷ (ds ++ u)) e (and_parts (passes c) _ h).0;
          leads = subst Q (sym (putting_twice part c (d ∷ ds) m)) (put_leads (putting part c m) (p + len_utf8 c) r d ds u e (and_parts (passes c) _ h).1);
          appends = Appends-none tokens;
          began = tt;
          says = refl;
          smaller = omega (arith, rank-below m.state (symbol_of u), length-append ds u);
          through = λ may k.
              let T : ℕ → Type 0 = λ x. Through next may (standing (cleared m) p r (c ∷ (d ∷ (ds ++ u)))) [] (standing (cleared (putting_text part (c ∷ (d ∷ ds)) m)) x r u) in
              let there : p + sum_by len_utf8 (c ∷ (d ∷ ds)) ≡ (p + len_utf8 c) + sum_by len_utf8 (d ∷ ds) = omega (arith, sum_by-cons len_utf8 c (d ∷ ds)) in
              subst T there (put_through may (ap may (sym e) ∙ k) m p r c (d ∷ ds) u e h);
          together = no_token refl;
        }

    pub put_ran : (l new_l : LexState) (old new : Unread) (run : List ℕ) → l.machine.state ≡ s → l.machine.after_cr ≡ false
        → l.ahead ≡ [] → ReadsRun passes old run new → 0 < length run → new_l ≡ record l { machine = putting_text part run l.machine }
        → (tokens : List Token) (rested : ℕ)
        → Goes next (lexing l old rested) tokens (lexing new_l new rested) tokens false
    put_ran l new_l old new run e cr ahead reads some put tokens rested =
        let R : List ℕ → Type 0 = λ u. Goes next (standing (cleared l.machine) old.place rested u) tokens (standing (cleared (putting_text part run l.machine)) new.place rested new.text) tokens false in
        let S : LexState → Type 0 = λ x. Goes next (lexing l old rested) tokens (lexing x new rested) tokens false in
        let at : lexing (record l { machine = putting_text part run l.machine }) new rested ≡ standing (cleared (putting_text part run l.machine)) new.place rested new.text =
        lexing_clear (record l { machine = putting_text part run l.machine }) new rested cr ahead in
        let T : Lexing → Type 0 = λ x. Goes next (lexing l old rested) tokens x tokens false in
        let U : Lexing → Type 0 = λ x. Goes next x tokens (standing (cleared (putting_text part run l.machine)) new.place rested new.text) tokens false in
        subst S (sym put) (subst T (sym at) (subst U (sym (lexing_clear l old rested cr ahead))
        (subst R (sym reads.text) (put_goes l.machine old.place rested new.place run new.text tokens e reads.passes some reads.place))))

blank_white : (c : ℕ) → is_blank c ≡ true → class_of c ≡ White
blank_white c h = grind arith

-- a line feed alone
pub line_feed_taken : (old new : Unread) (next : Option ℕ) (taken : Token) → first old.text ≡ Some 10
    → MatchOption next ((old.text ≡ []) × (new ≡ old)) (λ c. Reads old c new) → taken ≡ Characters White (10 ∷ []) → TextTaken is_blank White old taken new
line_feed_taken old new None taken f m is = let e : None ≡ Some 10 = sym (ap first m.0) ∙ f in cc
line_feed_taken old new (Some c) taken f r is =
    let e : Some c ≡ Some 10 = sym (ap first r.text) ∙ f in
    let same : c ≡ 10 = cc in
    record {
      run = 10 ∷ [];
      reads = record {
        text = r.text ∙ ap (λ (x : ℕ). x ∷ new.text) same;
        place = r.place ∙ (ap (λ (x : ℕ). old.place + len_utf8 x) same ∙ omega (arith, sum_by-cons len_utf8 10 []));
        passes = refl;
      };
      some = omega arith;
      lone = λ h. refl;
      is = is;
    }

-- a run that does not begin with a line feed
lone_run : (passes : ℕ → Bool) (old new : Unread) (run : List ℕ) {c : ℕ} → first old.text ≡ Some c → (c ≡ 10 → ⊥)
    → ReadsRun passes old run new → 0 < length run → IsRunText run
lone_run passes old new [] {c} at other reads some = absurd (omega (arith, some))
lone_run passes old new (x ∷ xs) {c} at other reads some = λ is.
    let e : Some c ≡ Some x = sym at ∙ ap first reads.text in
    let same : c ≡ x = cc in
    absurd (other (same ∙ is))

no_run : (passes : ℕ → Bool) (old new : Unread) (run : List ℕ) → ReadsRun passes old run new → run ≡ [] → new ≡ old
no_run passes old new run reads empty =
    let text : old.text ≡ new.text = reads.text ∙ ap (λ (xs : List ℕ). xs ++ new.text) empty in
    let place : new.place ≡ old.place = reads.place ∙ (ap (λ (xs : List ℕ). old.place + sum_by len_utf8 xs) empty ∙ omega arith) in
    ap (λ (p : ℕ). record { place = p; text = new.text }) place ∙ ap (λ (t : List ℕ). record { place = old.place; text = t }) (sym text)

-- a run of white space, and one of text
pub blanks_taken : (passes : ℕ → Bool) (old new : Unread) (run : List ℕ) (answer : Option Token) {c : ℕ} → first old.text ≡ Some c → (c ≡ 10 → ⊥)
    → ReadsRun is_blank old run new → IsOneToken White run answer → MayTake passes old answer new
blanks_taken passes old new run (Some taken) at other reads one = inl (record {
  run = run;
  reads = reads;
  some = one.0;
  lone = lone_run is_blank old new run at other reads one.0;
  is = one.1;
})
blanks_taken passes old new run None at other reads one = no_run is_blank old new run reads one

others_lone : (passes : ℕ → Bool) (other : (c : ℕ) → passes c ≡ true → class_of c ≡ Other) (run : List ℕ) → list_all passes run ≡ true
    → 0 < length run → IsRunText run
others_lone passes other [] all some = absurd (omega (arith, some))
others_lone passes other (x ∷ xs) all some = λ is.
    let P : ℕ → Type 0 = λ c. class_of c ≡ Other in
    let e : White ≡ Other = subst P is (other x (and_parts (passes x) _ all).0) in cc

pub others_taken : (passes : ℕ → Bool) (other : (c : ℕ) → passes c ≡ true → class_of c ≡ Other) (old new : Unread) (run : List ℕ) (answer : Option Token)
    → ReadsRun passes old run new → IsOneToken Other run answer → MayTake passes old answer new
others_taken passes other old new run (Some taken) reads one = inr (record {
  run = run;
  reads = reads;
  some = one.0;
  lone = others_lone passes other run reads.passes one.0;
  is = one.1;
})
others_taken passes other old new run None reads one = no_run passes old new run reads one

-- a run of text that was taken is moves
pub text_answer : (has : State → Bool) (row : Machine → Option ℕ → Row) (passes : ℕ → Bool)
    (no_cr : passes 13 ≡ false) (other : (c : ℕ) → passes c ≡ true → class_of c ≡ Other) (l : LexState) (old new : Unread)
    (answer : Option Token) → IsTrue (has l.machine.state) → EmitsPlain row is_blank l.machine.state → EmitsPlain row passes l.machine.state
    → l.machine.after_cr ≡ false → l.ahead ≡ [] → MayTake passes old answer new → TextRan has row l old answer new
text_answer has row passes no_cr other l old new None is blanks others cr ahead t = t
text_answer has row passes no_cr other l old new (Some taken) is blanks others cr ahead t = λ next rows tokens rested settled. elim t [
  | inl white ↦ text_ran has row next rows l.machine.state is is_blank refl blanks White blank_white l old new taken tokens refl cr ahead white rested
  | inr rest ↦ text_ran has row next rows l.machine.state is passes no_cr others Other other l old new taken tokens refl cr ahead rest rested
]

-- an empty run
pub none_taken : (passes : ℕ → Bool) (old new : Unread) (bs : List ℕ) → true ≡ (length bs == 0) → ReadsRun passes old (chars bs) new → new ≡ old
none_taken passes old new bs h run = no_run passes old new (chars bs) run (ap (λ (xs : List ℕ). chars xs) (has_none bs h) ∙ chars-nil)
