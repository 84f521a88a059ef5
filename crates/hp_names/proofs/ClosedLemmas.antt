-- A name of a lawful table that ends with a semicolon is the longest one wherever a text begins with it.
use Rattle.std.proofs.Common.{◌≡◌, ℕ, ◌+◌, ◌-◌, ◌<◌, suc, zero, List, [], ◌∷◌, get_or, Bool, true, false, not, nat_lt, length, refl, arith, ◌∙◌, sym, ap, None, Some, eqb-true}
use Rattle.std.specs.List.{list_all}
use Rattle.std.proofs.lemmas.List.{get_or_default}
use Rattle.std.proofs.lemmas.Bool.Decides.{nat_tests}
use Rattle.hp_names.specs.Order.{begins, is_upto}
use Rattle.hp_names.specs.References.{Reference, is_name, is_rest_of_name, is_letter, is_letter_or_digit, is_table, rises, semicolon, ends_with_semicolon}
use Rattle.hp_names.specs.Longest.{longest, found_of}
use Rattle.hp_names.specs.Table.{name_at, references, reference_of}
use Rattle.hp_names.specs.declared.table.Row.{Row}
use Rattle.hp_names.proofs.OrderLemmas.{front-longer}
use Rattle.hp_names.proofs.TableLemmas.{and_first, and_second, rises-pair, longest-found}
use Rattle.hp_names.proofs.RowLemmas.{length-references, references-at}

false_from : (b : Bool) → (b ≡ true → ⊥) → b ≡ false
false_from true h = absurd (h refl)
false_from false h = refl

pub true_from_not : (b : Bool) → not b ≡ false → b ≡ true
true_from_not true h = refl
true_from_not false h = sym h

no_letter : (c : ℕ) → is_letter_or_digit c ≡ true → c ≡ semicolon → ⊥
no_letter c h e = grind (arith, nat_tests)

no_first_letter : (c : ℕ) → is_letter c ≡ true → c ≡ semicolon → ⊥
no_first_letter c h e = grind (arith, nat_tests)

rest-inside : (ys : List ℕ) (i : ℕ) → is_rest_of_name ys ≡ true → i + 1 < length ys → get_or ys i 0 ≡ semicolon → ⊥
rest-inside [] i h l e = omega arith
rest-inside (c ∷ []) i h l e = omega arith
rest-inside (c ∷ d ∷ cs) zero h l e = no_letter c (and_first _ _ h) e
rest-inside (c ∷ d ∷ cs) (suc i) h l e = rest-inside (d ∷ cs) i (and_second _ _ h) (omega arith) e

-- within a name there is no semicolon
name-inside : (ys : List ℕ) (i : ℕ) → is_name ys ≡ true → i + 1 < length ys → get_or ys i 0 ≡ semicolon → ⊥
name-inside [] i h l e = omega arith
name-inside (c ∷ cs) zero h l e = no_first_letter c (and_first _ _ h) e
name-inside (c ∷ cs) (suc i) h l e = rest-inside cs i (and_second _ _ h) (omega arith) e

begins-at : (text xs : List ℕ) (i : ℕ) → begins text xs ≡ true → i < length xs → get_or xs i 0 ≡ get_or text i 0
begins-at text [] i h l = absurd (omega arith)
begins-at [] (x ∷ xs) i h l = cc
begins-at (c ∷ cs) (x ∷ xs) zero h l = eqb-true x c (and_first _ _ h)
begins-at (c ∷ cs) (x ∷ xs) (suc i) h l = begins-at cs xs i (and_second _ _ h) (omega arith)

-- of two names that a text begins with the longer one doesn't go on after a semicolon
ended : (text xs ys : List ℕ) → ends_with_semicolon xs ≡ true → begins text xs ≡ true → begins text ys ≡ true → is_name ys ≡ true → length xs < length ys → ⊥
ended text xs ys s h k n l =
    let long : nat_lt 0 (length xs) ≡ true = and_first _ _ s in
    let some : 0 < length xs = grind (arith, nat_tests) in
    let last : get_or xs (length xs - 1) 0 ≡ semicolon = eqb-true (get_or xs (length xs - 1) 0) semicolon (and_second (nat_lt 0 (length xs)) _ s) in
    let mine : get_or xs (length xs - 1) 0 ≡ get_or text (length xs - 1) 0 = begins-at text xs (length xs - 1) h (omega arith) in
    let other : get_or ys (length xs - 1) 0 ≡ get_or text (length xs - 1) 0 = begins-at text ys (length xs - 1) k (omega arith) in
    name-inside ys (length xs - 1) n (omega arith) (other ∙ sym mine ∙ last)

named-at : (rs : List Reference) (k : ℕ) (d : Reference) → list_all (λ r. is_name r.name) rs ≡ true → k < length rs → is_name (get_or rs k d).name ≡ true
named-at [] k d h l = absurd (omega arith)
named-at (r ∷ rs) zero d h l = and_first _ _ h
named-at (r ∷ rs) (suc k) d h l = named-at rs k d (and_second _ _ h) (omega arith)

rises-pair-over : (rs : List Reference) (i j : ℕ) (d e : Reference) → rises rs ≡ true → i < j → j < length rs → is_upto (get_or rs j e).name (get_or rs i d).name ≡ false
rises-pair-over rs i j d e r l m =
    rw (get_or_default rs j e d m) (rises-pair rs i j d r l m)

closed-longest : (rs : List Reference) (text : List ℕ) (at : ℕ) (d : Reference) → is_table rs ≡ true → at < length rs
    → begins text (get_or rs at d).name ≡ true → ends_with_semicolon (get_or rs at d).name ≡ true → longest rs text ≡ Some (found_of (get_or rs at d))
closed-longest rs text at d t l b s =
    let named : list_all (λ r. is_name r.name) rs ≡ true = and_first _ _ t in
    let ordered : rises rs ≡ true = and_second _ _ t in
    longest-found rs at d text None l b tt
    (λ k m e. front-longer text (get_or rs k d).name (get_or rs at d).name e b (rises-pair rs k at d ordered m l))
    (λ k e m n. false_from _ (λ f.
    ended text (get_or rs at d).name (get_or rs k e).name s b f (named-at rs k e named n)
    (front-longer text (get_or rs at d).name (get_or rs k e).name b f (rises-pair-over rs at k d e ordered m n))))

-- the name at a row that ends with a semicolon is the longest one of a text that begins with it
pub rows-closed : (bytes : List ℕ) (rows : List Row) (text : List ℕ) (at : ℕ) (e : Row) → is_table (references bytes rows) ≡ true → at < length rows
    → begins text (name_at bytes (get_or rows at e)) ≡ true → ends_with_semicolon (name_at bytes (get_or rows at e)) ≡ true
    → longest (references bytes rows) text ≡ Some (found_of (reference_of bytes (get_or rows at e)))
rows-closed bytes rows text at e t l b s =
    let d : Reference = reference_of bytes e in
    let n : length (references bytes rows) ≡ length rows = length-references bytes rows in
    let here : get_or (references bytes rows) at d ≡ reference_of bytes (get_or rows at e) = references-at bytes rows at d e l in
    let found : longest (references bytes rows) text ≡ Some (found_of (get_or (references bytes rows) at d)) =
    closed-longest (references bytes rows) text at d t (omega arith) (rw here b) (rw here s) in
    found ∙ ap (λ (x : Reference). Some (found_of x)) here
