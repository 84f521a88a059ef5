-- Numbers in words: what `parse` tells, and the ranges that are kept.
use Rattle.std.proofs.Common.{◌≡◌, ◌∙◌, subst, zero, suc, slice_index_or, ap, sym, refl, ℕ, ◌<◌, ◌≤◌, ◌^◌, ◌&&◌, Bool, true, false, cond, List, [], ◌∷◌, ◌++◌, map, length, Option, None, Some, Result, Err, rules, arith}
use Rattle.std.specs.Char.{is_ascii_digit}
use Rattle.std.specs.Int.{is_in_range}
use Rattle.std.specs.List.{All, list_all}
use Rattle.std.specs.Option.{IfSome, option_map}
use Rattle.std.specs.Str.Parse.{ParsesUnsigned, digits_value}
use Rattle.std.proofs.lemmas.Str.Parse.{IsNumeralModel, numerals_by_value, parse_digits}
use Rattle.std.proofs.lemmas.Bool.Decides.{nat_tests}
use Rattle.std.proofs.lemmas.List.Elements.{All-cons, All-nil}
use Rattle.hp_words.specs.Numbers.{all_present, from, is_numeral, number}
use Rattle.hp_words.specs.Within.{IsBetween}

abbrev AreDigits : List ℕ → Type 0
AreDigits text = list_all is_ascii_digit text ≡ true

decimal : IsNumeralModel AreDigits (digits_value 10)
decimal = numerals_by_value _ (search rules)

both_true : (a b : Bool) → (a && b) ≡ true → (a ≡ true) × (b ≡ true)
both_true true b e = (refl, e)
both_true false b e = absurd (cc e)

in_range : (low high n : ℕ) → is_in_range low high n ≡ true → (low ≤ n) × (n ≤ high)
in_range low high n e = (grind (arith, nat_tests), grind (arith, nat_tests))

none_unless : {A : Type 0} (b : Bool) (x : A) → (b ≡ true → ⊥) → None ≡ cond b (Some x) None
none_unless true x never = absurd (never refl)
none_unless false x never = refl

-- digits that no `u64` holds are no number in a range of one
pub none_where_err : {E : Type 0} (low high : ℕ) (text : List ℕ) (r : Result ℕ E) (e : E) → high < 2 ^ 64 → ParsesUnsigned 64 10 text r → AreDigits text → r ≡ Err e → None ≡ number low high text
none_where_err low high text r e fits parsed digits is = none_unless (is_numeral text && is_in_range low high (digits_value 10 text)) (digits_value 10 text) (λ both.
    let parts = both_true (is_numeral text) _ both in
    let size = in_range 1 20 (length text) (both_true _ _ parts.0).0 in
    let range = in_range low high _ parts.1 in
    let refused : ParsesUnsigned 64 10 text (Err e) = subst (ParsesUnsigned 64 10 text) is parsed in
    parse_digits decimal 64 text (Err e) refused digits (omega arith, omega arith))

in_range_if : (b : Bool) (low high n : ℕ) → IfSome (cond (b && is_in_range low high n) (Some n) None) (IsBetween low high)
in_range_if false low high n = tt
in_range_if true low high n = go (is_in_range low high n) (in_range low high n)
  where
    go : (t : Bool) → (t ≡ true → (low ≤ n) × (n ≤ high)) → IfSome (cond t (Some n) None) (IsBetween low high)
    go true known = record { least = (known refl).0; most = (known refl).1 }
    go false known = tt

-- a number lies within its bounds
pub number_within : (low high : ℕ) (text : List ℕ) → IfSome (number low high text) (IsBetween low high)
number_within low high text = in_range_if (is_numeral text) low high (digits_value 10 text)

-- ---- lists where each item is there

module _ {A B : Type 0} (f : A → Option B) where
  pushed_behind : (first : Option B) (rest pushed : Option (List B)) (ys : List B) (y : B)
      → ((zs : List B) → rest ≡ Some zs → pushed ≡ Some (zs ++ y ∷ []))
      → from first (λ a. option_map (λ zs. a ∷ zs) rest) ≡ Some ys → from first (λ a. option_map (λ zs. a ∷ zs) pushed) ≡ Some (ys ++ y ∷ [])
  pushed_behind None rest pushed ys y more is = absurd (cc is)
  pushed_behind (Some a) None pushed ys y more is = absurd (cc is)
  pushed_behind (Some a) (Some zs) pushed ys y more is =
      ap (option_map (λ (zs : List B). a ∷ zs)) (more zs refl) ∙ ap (option_map (λ (zs : List B). zs ++ y ∷ [])) is

  -- one more item that is there
  pub all_present-push : (xs : List A) (x : A) (ys : List B) (y : B) → all_present (map f xs) ≡ Some ys → Some y ≡ f x → all_present (map f (xs ++ x ∷ [])) ≡ Some (ys ++ y ∷ [])
  all_present-push [] x ys y is one =
      ap (λ (item : Option B). from item (λ a. Some (a ∷ []))) (sym one) ∙ ap (option_map (λ (zs : List B). zs ++ y ∷ [])) is
  all_present-push (w ∷ ws) x ys y is one =
      pushed_behind (f w) (all_present (map f ws)) (all_present (map f (ws ++ x ∷ []))) ys y (λ zs so_far. all_present-push ws x zs y so_far one) is

  none_behind : (first : Option B) (rest : Option (List B)) → rest ≡ None → from first (λ a. option_map (λ zs. a ∷ zs) rest) ≡ None
  none_behind None rest none = refl
  none_behind (Some a) rest none = ap (option_map (λ (zs : List B). a ∷ zs)) none

  -- an item that isn't there
  pub all_present-none : (xs : List A) (i : ℕ) (x : A) → i < length xs → x ≡ slice_index_or xs i x → f x ≡ None → all_present (map f xs) ≡ None
  all_present-none [] i x within is none = absurd (omega arith)
  all_present-none (w ∷ ws) zero x within is none = ap (λ (item : Option B). from item (λ a. option_map (λ zs. a ∷ zs) (all_present (map f ws)))) (ap f (sym is) ∙ none)
  all_present-none (w ∷ ws) (suc i) x within is none = none_behind (f w) _ (all_present-none ws i x (omega arith) is none)

  all_behind : (P : B → Type 0) (first : Option B) (rest : Option (List B)) → IfSome first P → IfSome rest (All P) → IfSome (from first (λ a. option_map (λ zs. a ∷ zs) rest)) (All P)
  all_behind P None rest here below = tt
  all_behind P (Some a) None here below = tt
  all_behind P (Some a) (Some zs) here below = All-cons P a zs here below

  -- what holds of each item that is there
  pub all_present-all : (P : B → Type 0) → ((x : A) → IfSome (f x) P) → (xs : List A) → IfSome (all_present (map f xs)) (All P)
  all_present-all P each [] = All-nil P
  all_present-all P each (x ∷ xs) = all_behind P (f x) (all_present (map f xs)) (each x) (all_present-all P each xs)
