-- How many elements of a list pass a test.
use Rattle.std.proofs.Common.{◌≡◌, ℕ, zero, suc, ◌+◌, ◌≤◌, ◌<◌, List, [], ◌∷◌, ◌++◌, map, take, drop, length, Bool, true, false, ◌||◌, refl, sym, ap, ◌∙◌, arith, cond}
use Rattle.std.specs.List.{count_by, list_any}
use Rattle.std.proofs.lemmas.List.Recursion.{is_count_by}

abbrev pub one : Bool → ℕ
one true = 1
one false = 0

unfoldable pub tally : {X : Type 0} → (X → Bool) → List X → ℕ
tally p [] = 0
tally p (x ∷ xs) = one (p x) + tally p xs

pub tally-nil : {X : Type 0} (p : X → Bool) → tally p [] ≡ 0
unfolding tally
tally-nil p = refl

pub tally-cons : {X : Type 0} (p : X → Bool) (x : X) (xs : List X) → tally p (x ∷ xs) ≡ one (p x) + tally p xs
unfolding tally
tally-cons p x xs = refl

pub tally-yes : {X : Type 0} (p : X → Bool) (x : X) (xs : List X) → p x ≡ true → tally p (x ∷ xs) ≡ tally p xs + 1
tally-yes p x xs h =
    let e : one (p x) ≡ 1 = ap one h in
    let f : tally p (x ∷ xs) ≡ one (p x) + tally p xs = tally-cons p x xs in
    omega arith

pub tally-no : {X : Type 0} (p : X → Bool) (x : X) (xs : List X) → p x ≡ false → tally p (x ∷ xs) ≡ tally p xs
tally-no p x xs h =
    let e : one (p x) ≡ 0 = ap one h in
    let f : tally p (x ∷ xs) ≡ one (p x) + tally p xs = tally-cons p x xs in
    omega arith

one-most : (b : Bool) → one b ≤ 1
one-most true = omega arith
one-most false = omega arith

pub tally-most : {X : Type 0} (p : X → Bool) (x : X) (xs : List X) → tally p (x ∷ xs) ≤ tally p xs + 1
tally-most p x xs =
    let e : one (p x) ≤ 1 = one-most (p x) in
    let f : tally p (x ∷ xs) ≡ one (p x) + tally p xs = tally-cons p x xs in
    omega arith

pub tally-tail : {X : Type 0} (p : X → Bool) (x : X) (xs : List X) → tally p xs ≤ tally p (x ∷ xs)
tally-tail p x xs =
    let f : tally p (x ∷ xs) ≡ one (p x) + tally p xs = tally-cons p x xs in
    omega arith

pub tally-append : {X : Type 0} (p : X → Bool) (xs ys : List X) → tally p (xs ++ ys) ≡ tally p xs + tally p ys
tally-append p [] ys = let z : tally p [] ≡ 0 = tally-nil p in omega arith
tally-append p (x ∷ xs) ys =
    let e : tally p (x ∷ (xs ++ ys)) ≡ one (p x) + tally p (xs ++ ys) = tally-cons p x (xs ++ ys) in
    let f : tally p (x ∷ xs) ≡ one (p x) + tally p xs = tally-cons p x xs in
    let g : tally p (xs ++ ys) ≡ tally p xs + tally p ys = tally-append p xs ys in
    omega arith

pub tally-split : {X : Type 0} (p : X → Bool) (n : ℕ) (xs : List X) → tally p (take n xs) + tally p (drop n xs) ≡ tally p xs
tally-split p zero xs = let z : tally p [] ≡ 0 = tally-nil p in omega arith
tally-split p (suc n) [] = let z : tally p [] ≡ 0 = tally-nil p in omega arith
tally-split p (suc n) (x ∷ xs) =
    let e : tally p (x ∷ take n xs) ≡ one (p x) + tally p (take n xs) = tally-cons p x (take n xs) in
    let f : tally p (x ∷ xs) ≡ one (p x) + tally p xs = tally-cons p x xs in
    let g : tally p (take n xs) + tally p (drop n xs) ≡ tally p xs = tally-split p n xs in
    omega arith

pub tally-drop : {X : Type 0} (p : X → Bool) (n : ℕ) (xs : List X) → tally p (drop n xs) ≤ tally p xs
tally-drop p n xs = let e : tally p (take n xs) + tally p (drop n xs) ≡ tally p xs = tally-split p n xs in omega arith

pub tally-drop_more : {X : Type 0} (p : X → Bool) (n : ℕ) (xs : List X) → tally p (drop (suc n) xs) ≤ tally p (drop n xs)
tally-drop_more p zero [] = omega arith
tally-drop_more p zero (x ∷ xs) = tally-tail p x xs
tally-drop_more p (suc n) [] = omega arith
tally-drop_more p (suc n) (x ∷ xs) = tally-drop_more p n xs

pub tally-length : {X : Type 0} (p : X → Bool) (xs : List X) → tally p xs ≤ length xs
tally-length p [] = let z : tally p [] ≡ 0 = tally-nil p in omega arith
tally-length p (x ∷ xs) =
    let e : tally p (x ∷ xs) ≤ tally p xs + 1 = tally-most p x xs in
    let f : tally p xs ≤ length xs = tally-length p xs in
    omega arith

one-cond : (b : Bool) (n : ℕ) → one b + n ≡ cond b (1 + n) n
one-cond true n = refl
one-cond false n = omega arith

pub tally-count_by : {X : Type 0} (p : X → Bool) (xs : List X) → tally p xs ≡ count_by p xs
tally-count_by p xs = is_count_by (tally p) p (tally-nil p) (λ x ys. tally-cons p x ys ∙ one-cond (p x) (tally p ys)) xs

pub tally-map : {X Y : Type 0} (p : Y → Bool) (f : X → Y) (xs : List X) → tally p (map f xs) ≡ tally (λ x. p (f x)) xs
tally-map p f [] = tally-nil p ∙ sym (tally-nil (λ x. p (f x)))
tally-map p f (x ∷ xs) =
    tally-cons p (f x) (map f xs)
    ∙ (ap (λ n. one (p (f x)) + n) (tally-map p f xs) ∙ sym (tally-cons (λ y. p (f y)) x xs))

pub tally-any : {X : Type 0} (p : X → Bool) (xs : List X) → list_any p xs ≡ true → 0 < tally p xs
tally-any p [] h = absurd (cc)
tally-any p (x ∷ xs) h = go (p x) refl h (tally-any p xs)
  where
    go : (b : Bool) → p x ≡ b → (b || list_any p xs) ≡ true → (list_any p xs ≡ true → 0 < tally p xs) → 0 < tally p (x ∷ xs)
    go true e k rest = let f : tally p (x ∷ xs) ≡ tally p xs + 1 = tally-yes p x xs e in omega arith
    go false e k rest =
        let f : tally p (x ∷ xs) ≡ tally p xs = tally-no p x xs e in
        let g : 0 < tally p xs = rest k in
        omega arith
