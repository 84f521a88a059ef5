-- What holds of the code points that pass in a run.
use Rattle.std.specs.Prelude.{◌≡◌, ℕ, ◌≤◌, ◌==◌, not, nat_lt, Bool, true, false, List, [], ◌∷◌, refl}
use Rattle.std.proofs.Common.{ap, ◌∙◌, sym, subst, arith, eqb-true}
use borrow.Author.Tests.{ltb-true}
use Rattle.std.specs.List.{list_all}
use Rattle.std.specs.Char.{is_ascii_uppercase}
use Rattle.std.proofs.lemmas.Bool.{and_parts, and_from, not-true}
use Rattle.hp_elements.specs.Tokens.{class_of}
use Rattle.hp_elements.specs.declared.token.CharClass.TheVariants.{Other}
use Rattle.hp_tokens.specs.Rows.{is_blank, replaced, lowered}
use Rattle.hp_tokens.specs.Plain.{none_of, Apart, in_name}

apart_values : true ≡ false → ⊥
apart_values h = cc

-- what passes is nothing that does not
pub unlike : (passes : ℕ → Bool) (x c : ℕ) → passes x ≡ false → passes c ≡ true → (c == x) ≡ false
unlike passes x c stop h = by_cases (c == x) refl
  where
    by_cases : (b : Bool) → (c == x) ≡ b → (c == x) ≡ false
    by_cases true e = let P : ℕ → Type 0 = λ y. passes y ≡ true in let k : passes x ≡ true = subst P (eqb-true c x e) h in absurd (apart_values (sym k ∙ stop))
    by_cases false e = e

-- a code point that is none of these, test by test
pub apart : (stops : List ℕ) (c : ℕ) → none_of stops c ≡ true → Apart stops c
apart [] c h = tt
apart (x ∷ xs) c h = (not-true (c == x) (and_parts (not (c == x)) _ h).0, apart xs c (and_parts (not (c == x)) _ h).1)

differs_high : (x c : ℕ) → nat_lt x 128 ≡ true → 128 ≤ c → not (c == x) ≡ true
differs_high x c low high = by_cases (c == x) refl
  where
    by_cases : (b : Bool) → (c == x) ≡ b → not (c == x) ≡ true
    by_cases true e = absurd (omega (arith, eqb-true c x e, ltb-true x 128 low))
    by_cases false e = ap not e

-- where only ASCII ends a run, all else passes
pub none-high : (stops : List ℕ) → list_all (λ x. nat_lt x 128) stops ≡ true → (c : ℕ) → 128 ≤ c → none_of stops c ≡ true
none-high [] low c h = refl
none-high (x ∷ xs) low c h = and_from (not (c == x)) _ (differs_high x c (and_parts (nat_lt x 128) _ low).0 h) (none-high xs (and_parts (nat_lt x 128) _ low).1 c h)

upper-high : (c : ℕ) → 128 ≤ c → not (is_ascii_uppercase c) ≡ true
upper-high c h = grind arith

pub name-high : (stops : List ℕ) → list_all (λ x. nat_lt x 128) stops ≡ true → (c : ℕ) → 128 ≤ c → in_name stops c ≡ true
name-high stops low c h = and_from (not (is_ascii_uppercase c)) _ (upper-high c h) (none-high stops low c h)

-- neither white space nor U+0000
pub text-other : (more : List ℕ) (c : ℕ) → none_of (0 ∷ 9 ∷ 10 ∷ 12 ∷ 13 ∷ 32 ∷ more) c ≡ true → class_of c ≡ Other
text-other more c h = let a = apart (0 ∷ 9 ∷ 10 ∷ 12 ∷ 13 ∷ 32 ∷ more) c h in rw (a.1.0, a.1.1.0, a.1.1.1.0, a.1.1.1.1.0, a.1.1.1.1.1.0, a.0) refl

-- what is not U+0000 is not replaced, and what is not upper case is not lowered
pub not-replaced : (stops : List ℕ) (c : ℕ) → none_of (0 ∷ stops) c ≡ true → replaced c ≡ c
not-replaced stops c h = rw ((apart (0 ∷ stops) c h).0) refl

not-lowered : (c : ℕ) → not (is_ascii_uppercase c) ≡ true → lowered c ≡ c
not-lowered c h = grind arith

pub name-stays : (stops : List ℕ) (c : ℕ) → in_name (0 ∷ stops) c ≡ true → replaced (lowered c) ≡ c
name-stays stops c h =
    let low : lowered c ≡ c = not-lowered c (and_parts (not (is_ascii_uppercase c)) _ h).0 in
    ap (λ (x : ℕ). replaced x) low ∙ not-replaced stops c (and_parts (not (is_ascii_uppercase c)) _ h).1

pub name-apart : (stops : List ℕ) (c : ℕ) → in_name stops c ≡ true → Apart stops c
name-apart stops c h = apart stops c (and_parts (not (is_ascii_uppercase c)) _ h).1

-- white space is none of these, where they are no white space
pub blank-apart : (stops : List ℕ) → list_all (λ x. not (is_blank x)) stops ≡ true → (c : ℕ) → is_blank c ≡ true → Apart stops c
blank-apart [] h c blank = tt
blank-apart (x ∷ xs) h c blank =
    (unlike is_blank x c (not-true (is_blank x) (and_parts (not (is_blank x)) _ h).0) blank, blank-apart xs (and_parts (not (is_blank x)) _ h).1 c blank)
