-- Where a name of the table may go on, what is read of it consists of letters and digits.
use Rattle.std.proofs.Common.{◌≡◌, ℕ, suc, ◌-◌, List, [], ◌∷◌, length, Bool, true, false, ◌&&◌, ◌||◌, not, refl, ap, ◌∙◌, sym, arith, ◌⊎◌, inl, inr, nat_lt}
use Rattle.std.specs.Prelude.{◌==◌, slice_index}
use Rattle.std.specs.Char.{is_ascii_alphanumeric}
use Rattle.std.specs.List.{list_all}
use Rattle.std.proofs.lemmas.Bool.Decides.{nat_tests}
use Rattle.hp_names.specs.BuiltIn.{built_in}
use Rattle.hp_names.specs.Longest.{is_open, may_be_more}
use Rattle.hp_names.specs.Order.{begins}
use Rattle.hp_names.specs.References.{Reference, ends_with_semicolon, is_letter, is_letter_or_digit, is_name, is_rest_of_name, semicolon}

and_left : (a b : Bool) → (a && b) ≡ true → a ≡ true
and_left true b h = refl
and_left false b h = h

and_right : (a b : Bool) → (a && b) ≡ true → b ≡ true
and_right true b h = h
and_right false b h = cc

both : (a b : Bool) → a ≡ true → b ≡ true → (a && b) ≡ true
both true b h k = k
both false b h k = h

or_left : (a b : Bool) → a ≡ true → (a || b) ≡ true
or_left true b h = refl
or_left false b h = cc

either : (a b : Bool) → (a || b) ≡ true → (a ≡ true) ⊎ (b ≡ true)
either true b h = inl refl
either false b h = inr h

letter : (t c : ℕ) → (t == c) ≡ true → is_letter_or_digit c ≡ true → is_ascii_alphanumeric t ≡ true
letter t c e h = grind (arith, nat_tests)

unclosed : (t c : ℕ) → (t == c) ≡ true → (is_letter_or_digit c || c == semicolon) ≡ true → not (c == semicolon) ≡ true → is_ascii_alphanumeric t ≡ true
unclosed t c e h n = grind (arith, nat_tests)

lower-both : (a b : ℕ) → nat_lt (suc a) (suc b) ≡ nat_lt a b
lower-both a b = grind (arith, nat_tests)

last-same : (c d : ℕ) (cs : List ℕ) → ends_with_semicolon (c ∷ d ∷ cs) ≡ ends_with_semicolon (d ∷ cs)
last-same c d cs =
    let e : length (c ∷ d ∷ cs) - 1 ≡ suc (length (d ∷ cs) - 1) = omega arith in
    ap (λ k. nat_lt 0 (length (c ∷ d ∷ cs)) && slice_index (c ∷ d ∷ cs) k == semicolon) e
    ∙ ap (λ b. b && slice_index (d ∷ cs) (length (d ∷ cs) - 1) == semicolon) (some cs)
  where
    some : (xs : List ℕ) → nat_lt 0 (length (c ∷ d ∷ xs)) ≡ nat_lt 0 (length (d ∷ xs))
    some xs = grind (arith, nat_tests)

abbrev may_be : List ℕ → List ℕ → Bool
may_be name text = nat_lt (length text) (length name) || not (ends_with_semicolon name)

shorter : (c d t : ℕ) (cs ts : List ℕ) → may_be (c ∷ d ∷ cs) (t ∷ ts) ≡ may_be (d ∷ cs) ts
shorter c d t cs ts =
    ap (λ b. b || not (ends_with_semicolon (c ∷ d ∷ cs))) (lower-both (length ts) (length (d ∷ cs)))
    ∙ ap (λ b. nat_lt (length ts) (length (d ∷ cs)) || not b) (last-same c d cs)

-- what is read of the rest of a name
letters : (name text : List ℕ) → is_rest_of_name name ≡ true → begins name text ≡ true → may_be name text ≡ true → list_all is_ascii_alphanumeric text ≡ true
letters name [] r b o = refl
letters [] (t ∷ ts) r b o = cc
letters (c ∷ []) (t ∷ []) r b o = both (is_ascii_alphanumeric t) true (unclosed t c (and_left (t == c) true b) r o) refl
letters (c ∷ []) (t ∷ u ∷ ts) r b o = let z : false ≡ true = and_right (t == c) false b in absurd (cc)
letters (c ∷ d ∷ cs) (t ∷ ts) r b o =
    both (is_ascii_alphanumeric t) (list_all is_ascii_alphanumeric ts)
    (letter t c (and_left (t == c) (begins (d ∷ cs) ts) b) (and_left (is_letter_or_digit c) (is_rest_of_name (d ∷ cs)) r))
    (letters (d ∷ cs) ts (and_right (is_letter_or_digit c) (is_rest_of_name (d ∷ cs)) r) (and_right (t == c) (begins (d ∷ cs) ts) b) (sym (shorter c d t cs ts) ∙ o))

name_rest : (name : List ℕ) → is_name name ≡ true → is_rest_of_name name ≡ true
name_rest [] h = cc
name_rest (c ∷ []) h = or_left (is_letter_or_digit c) (c == semicolon) (or_left (is_letter c) _ (and_left (is_letter c) true h))
name_rest (c ∷ d ∷ cs) h =
    both (is_letter_or_digit c) (is_rest_of_name (d ∷ cs)) (or_left (is_letter c) _ (and_left (is_letter c) (is_rest_of_name (d ∷ cs)) h)) (and_right (is_letter c) (is_rest_of_name (d ∷ cs)) h)

open-letters : (rs : List Reference) (text : List ℕ) → list_all (λ r. is_name r.name) rs ≡ true → is_open rs text ≡ true → list_all is_ascii_alphanumeric text ≡ true
open-letters [] text n h = cc
open-letters (r ∷ rs) text n h =
    elim (either (may_be_more text r) (is_open rs text) h) as (λ x. list_all is_ascii_alphanumeric text ≡ true) [
      | inl p ↦ letters r.name text (name_rest r.name (and_left (is_name r.name) (list_all (λ q. is_name q.name) rs) n)) (and_left (begins r.name text) (may_be r.name text) p) (and_right (begins r.name text) (may_be r.name text) p)
      | inr p ↦ open-letters rs text (and_right (is_name r.name) (list_all (λ q. is_name q.name) rs) n) p
    ]

lawful : list_all (λ r. is_name r.name) built_in ≡ true
unfolding built_in
lawful = refl

pub open-built_in : (text : List ℕ) → is_open built_in text ≡ true → list_all is_ascii_alphanumeric text ≡ true
open-built_in text h = open-letters built_in text lawful h
