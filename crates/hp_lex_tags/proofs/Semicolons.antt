-- A name with its semicolon is decided, whatever follows it.
use Rattle.std.proofs.Common.{◌≡◌, ℕ, ◌≤◌, ◌-◌, List, [], ◌∷◌, Bool, true, false, ◌&&◌, nat_eq, nat_lt, length, get_or, suc, refl, arith, sym, ap, ◌∙◌, subst, Option, Some}
use Rattle.std.proofs.lemmas.Bool.Decides.{nat_tests}
use Rattle.std.proofs.lemmas.Bool.{and_parts}
use Rattle.std.specs.List.{list_all}
use Rattle.hp_names.specs.Order.{begins}
use Rattle.hp_names.specs.References.{Reference, semicolon, ends_with_semicolon, is_letter, is_letter_or_digit, is_name, is_rest_of_name, is_table}
use Rattle.hp_names.specs.Longest.{longest, may_be_more, is_open, IsLongest}
use Rattle.hp_names.specs.declared.names.Found.{Found}
use Rattle.hp_names.proofs.LawLemmas.{longest-IsLongest}
use Rattle.hp_names.proofs.OpenLemmas.{begins-length}

begins-trans : (xs ys zs : List ℕ) → begins xs ys ≡ true → begins ys zs ≡ true → begins xs zs ≡ true
begins-trans xs ys [] h k = refl
begins-trans xs [] (z ∷ zs) h k = cc
begins-trans [] (y ∷ ys) (z ∷ zs) h k = cc
begins-trans (x ∷ xs) (y ∷ ys) (z ∷ zs) h k =
    let later : begins xs ys ≡ true → begins ys zs ≡ true → begins xs zs ≡ true = begins-trans xs ys zs in
    grind (arith, nat_tests)

ends_later : (c d : ℕ) (ds : List ℕ) → ends_with_semicolon (c ∷ (d ∷ ds)) ≡ ends_with_semicolon (d ∷ ds)
ends_later c d ds =
    let e : length (c ∷ (d ∷ ds)) - 1 ≡ suc (length (d ∷ ds) - 1) = omega arith in
    let some : nat_lt 0 (length (c ∷ (d ∷ ds))) ≡ nat_lt 0 (length (d ∷ ds)) = grind (arith, nat_tests) in
    ap (λ (b : Bool). b && nat_eq (get_or (c ∷ (d ∷ ds)) (length (c ∷ (d ∷ ds)) - 1) 0) semicolon) some
    ∙ ap (λ (i : ℕ). nat_lt 0 (length (d ∷ ds)) && nat_eq (get_or (c ∷ (d ∷ ds)) i 0) semicolon) e

no_semicolon : (c : ℕ) → is_letter_or_digit c ≡ true → nat_eq c 59 ≡ false
no_semicolon c h = grind arith

-- what begins with a name and its semicolon, and may be the rest of a name, is that name
ended-rest : (word front : List ℕ) → is_rest_of_name word ≡ true → begins word front ≡ true → ends_with_semicolon front ≡ true → word ≡ front
ended-rest word [] h b e = cc
ended-rest [] (c ∷ cs) h b e = cc
ended-rest (w ∷ []) (c ∷ []) h b e = grind (arith, nat_tests)
ended-rest (w ∷ []) (c ∷ (d ∷ ds)) h b e = let rest = and_parts (nat_eq c w) _ b in cc
ended-rest (w ∷ (x ∷ xs)) (c ∷ []) h b e =
    let letter = no_semicolon w (and_parts (is_letter_or_digit w) _ h).0 in
    absurd (grind (arith, nat_tests))
ended-rest (w ∷ (x ∷ xs)) (c ∷ (d ∷ ds)) h b e =
    let later : x ∷ xs ≡ d ∷ ds =
    ended-rest (x ∷ xs) (d ∷ ds) (and_parts (is_letter_or_digit w) _ h).1 (and_parts (nat_eq c w) _ b).1 (sym (ends_later c d ds) ∙ e) in
    let first = (and_parts (nat_eq c w) _ b).0 in
    grind (arith, nat_tests)

is-rest : (word : List ℕ) → is_name word ≡ true → is_rest_of_name word ≡ true
is-rest [] h = cc
is-rest (c ∷ []) h = let letter = (and_parts (is_letter c) _ h).0 in rw letter refl
is-rest (c ∷ (d ∷ ds)) h = let parts = and_parts (is_letter c) _ h in rw (parts.0, parts.1) refl

-- no name goes on after a text that begins with a name and its semicolon
not-more : (text r : List ℕ) (q : Reference) → is_name q.name ≡ true → begins text r ≡ true → ends_with_semicolon r ≡ true → may_be_more text q ≡ false
not-more text r q name b e = go (begins q.name text) refl
  where
    go : (x : Bool) → begins q.name text ≡ x → may_be_more text q ≡ false
    go false h = rw h refl
    go true h =
        let same : q.name ≡ r = ended-rest q.name r (is-rest q.name name) (begins-trans q.name text r h b) e in
        let long : length r ≤ length text = begins-length text r b in
        let size : length q.name ≡ length r = ap length same in
        let short : nat_lt (length text) (length q.name) ≡ false = grind (arith, nat_tests) in
        let ends : ends_with_semicolon q.name ≡ true = ap ends_with_semicolon same ∙ e in
        rw (h, short, ends) refl

none-more : (table : List Reference) (text r : List ℕ) → list_all (λ q. is_name q.name) table ≡ true → begins text r ≡ true → ends_with_semicolon r ≡ true
    → is_open table text ≡ false
none-more [] text r h b e = refl
none-more (q ∷ qs) text r h b e =
    let parts = and_parts (is_name q.name) _ h in
    rw (not-more text r q parts.0 b e) (none-more qs text r parts.1 b e)

pub semicolon-closed : (table : List Reference) (text : List ℕ) (f : Found) → is_table table ≡ true → longest table text ≡ Some f → f.ends_with_semicolon ≡ true
    → is_open table text ≡ false
semicolon-closed table text f lawful found ends =
    let P : Option Found → Type 0 = λ o. IsLongest table text o in
    by_law (subst P found (longest-IsLongest table text))
  where
    by_law : IsLongest table text (Some f) → is_open table text ≡ false
    by_law (r, among, fits, is, bound) =
        none-more table text r.name (and_parts (list_all (λ q. is_name q.name) table) _ lawful).0 fits
        (sym (ap (λ (x : Found). x.ends_with_semicolon) is) ∙ ends)
