-- What was read ahead has no `>`.
use Rattle.std.proofs.Common.{◌≡◌, ℕ, List, [], ◌∷◌, map, Bool, true, false, ◌||◌, ◌⊎◌, inl, inr, refl, ap, ◌∙◌, sym}
use Rattle.std.specs.Prelude.{◌==◌, ◌&&◌, not, codes}
use Rattle.std.specs.Char.{is_ascii_alphanumeric, to_ascii_lowercase}
use Rattle.std.specs.List.{list_all}
use Rattle.std.specs.Str.{bytes_eq}
use Rattle.std.proofs.lemmas.Bool.{and_parts, both_ways, eq-eqb, eqb-true, not-true, or_cases}
use Rattle.hp_tokens.specs.declared.state.State.{State}
use Rattle.hp_tokens.specs.declared.state.State.TheVariants.{MarkupDeclarationOpen, AfterDoctypeName, NamedCharacterReference}
use Rattle.hp_tokens.specs.Valid.{is_front, is_front_without_case}
use Rattle.hp_control.specs.States.{may_be_ahead}

abbrev pub has_none : List ℕ → Bool
has_none xs = list_all (λ c. not (c == 62)) xs

none-on : (x : ℕ) (xs : List ℕ) (b : Bool) → (x == 62) ≡ b → (x ≡ 62 → ⊥) → has_none xs ≡ true → has_none (x ∷ xs) ≡ true
none-on x xs true e h n = absurd (h (eqb-true x 62 e))
none-on x xs false e h n = ap (λ b. not b && has_none xs) e ∙ n

front-none : (f : ℕ → ℕ) → f 62 ≡ 62 → (xs ks : List ℕ) → is_front (map f xs) ks ≡ true → has_none ks ≡ true → has_none xs ≡ true
front-none f e [] ks h n = refl
front-none f e (x ∷ xs) [] h n = let no : false ≡ true = h in cc
front-none f e (x ∷ xs) (k ∷ ks) h n =
    let same : (f x == k) ≡ true = (and_parts (f x == k) (is_front (map f xs) ks) h).0 in
    let other : not (k == 62) ≡ true = (and_parts (not (k == 62)) (has_none ks) n).0 in
    none-on x xs (x == 62) refl (λ is. absurd (both_ways (k == 62) (not-true (k == 62) other) (eq-eqb k 62 (sym (eqb-true (f x) k same) ∙ (ap f is ∙ e)))))
    (front-none f e xs ks (and_parts (f x == k) (is_front (map f xs) ks) h).1 (and_parts (not (k == 62)) (has_none ks) n).1)

as_is : (xs : List ℕ) → map (λ c. c) xs ≡ xs
as_is [] = refl
as_is (x ∷ xs) = ap (λ (ys : List ℕ). x ∷ ys) (as_is xs)

plain-none : (xs ks : List ℕ) → is_front xs ks ≡ true → has_none ks ≡ true → has_none xs ≡ true
plain-none xs ks h n = front-none (λ c. c) refl xs ks (ap (λ (zs : List ℕ). is_front zs ks) (as_is xs) ∙ h) n

letters-none : (xs : List ℕ) → list_all is_ascii_alphanumeric xs ≡ true → has_none xs ≡ true
letters-none [] h = refl
letters-none (x ∷ xs) h =
    let both = and_parts (is_ascii_alphanumeric x) (list_all is_ascii_alphanumeric xs) h in
    none-on x xs (x == 62) refl (λ is. absurd (both_ways (is_ascii_alphanumeric x) (ap is_ascii_alphanumeric is) both.0)) (letters-none xs both.1)

empty-none : (xs : List ℕ) → bytes_eq xs [] ≡ true → has_none xs ≡ true
empty-none [] h = refl
empty-none (x ∷ xs) h = let no : false ≡ true = h in cc

open-none : (xs : List ℕ) → (is_front xs (codes "--") ≡ true) ⊎ ((is_front_without_case xs (codes "doctype") || is_front xs (codes "[CDATA[")) ≡ true) → has_none xs ≡ true
open-none xs (inl h) = plain-none xs (codes "--") h refl
open-none xs (inr h) = word (or_cases (is_front_without_case xs (codes "doctype")) (is_front xs (codes "[CDATA[")) h)
  where
    word : (is_front_without_case xs (codes "doctype") ≡ true) ⊎ (is_front xs (codes "[CDATA[") ≡ true) → has_none xs ≡ true
    word (inl p) = front-none to_ascii_lowercase refl xs (codes "doctype") p refl
    word (inr p) = plain-none xs (codes "[CDATA[") p refl

keyword-none : (xs : List ℕ) → (is_front_without_case xs (codes "public") ≡ true) ⊎ (is_front_without_case xs (codes "system") ≡ true) → has_none xs ≡ true
keyword-none xs (inl p) = front-none to_ascii_lowercase refl xs (codes "public") p refl
keyword-none xs (inr p) = front-none to_ascii_lowercase refl xs (codes "system") p refl

pub ahead-none : (s : State) (xs : List ℕ) → may_be_ahead s xs ≡ true → has_none xs ≡ true
ahead-none MarkupDeclarationOpen xs h =
    open-none xs (or_cases (is_front xs (codes "--")) (is_front_without_case xs (codes "doctype") || is_front xs (codes "[CDATA[")) h)
ahead-none AfterDoctypeName xs h = keyword-none xs (or_cases (is_front_without_case xs (codes "public")) (is_front_without_case xs (codes "system")) h)
ahead-none NamedCharacterReference xs h = letters-none xs h
ahead-none _ xs h = empty-none xs h
