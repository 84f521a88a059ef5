-- The order of texts, and how it stands to the fronts of a text.
use Rattle.std.proofs.Common.{◌≡◌, ℕ, ◌<◌, ◌≤◌, suc, zero, List, [], ◌∷◌, take, drop, Bool, true, false, ◌&&◌, nat_eq, nat_lt, length, refl, arith, ap}
use Rattle.std.specs.List.{starts_with}
use Rattle.std.proofs.lemmas.Bool.Decides.{nat_tests}
use Rattle.hp_names.specs.Order.{begins, is_upto, common}

pub upto_itself : (xs : List ℕ) → is_upto xs xs ≡ true
upto_itself [] = refl
upto_itself (x ∷ xs) = let h : is_upto xs xs ≡ true = upto_itself xs in grind (arith, nat_tests)

pub upto-total : (xs ys : List ℕ) → is_upto xs ys ≡ false → is_upto ys xs ≡ true
upto-total [] ys h = cc
upto-total (x ∷ xs) [] h = refl
upto-total (x ∷ xs) (y ∷ ys) h =
    let later : is_upto xs ys ≡ false → is_upto ys xs ≡ true = upto-total xs ys in
    grind (arith, nat_tests)

pub upto-trans : (xs ys zs : List ℕ) → is_upto xs ys ≡ true → is_upto ys zs ≡ true → is_upto xs zs ≡ true
upto-trans [] ys zs h k = refl
upto-trans (x ∷ xs) [] zs h k = cc
upto-trans (x ∷ xs) (y ∷ ys) [] h k = cc
upto-trans (x ∷ xs) (y ∷ ys) (z ∷ zs) h k =
    let later : is_upto xs ys ≡ true → is_upto ys zs ≡ true → is_upto xs zs ≡ true = upto-trans xs ys zs in
    grind (arith, nat_tests)

-- a text stands at or after its front
pub begins-upto : (text word : List ℕ) → begins text word ≡ true → is_upto word text ≡ true
begins-upto text [] h = refl
begins-upto [] (w ∷ ws) h = cc
begins-upto (c ∷ cs) (w ∷ ws) h =
    let later : begins cs ws ≡ true → is_upto ws cs ≡ true = begins-upto cs ws in
    grind (arith, nat_tests)

-- of two fronts of a text the later one is the longer one
pub front-longer : (text xs ys : List ℕ) → begins text xs ≡ true → begins text ys ≡ true → is_upto ys xs ≡ false → length xs < length ys
front-longer text xs [] h k u = cc
front-longer text [] (y ∷ ys) h k u = omega arith
front-longer [] (x ∷ xs) (y ∷ ys) h k u = cc
front-longer (c ∷ cs) (x ∷ xs) (y ∷ ys) h k u =
    let later : begins cs xs ≡ true → begins cs ys ≡ true → is_upto ys xs ≡ false → length xs < length ys = front-longer cs xs ys in
    grind (arith, nat_tests)

-- a front of the text that comes at or before a word, which itself comes at or before the text, is within what both have in common
pub front-shared : (text word xs : List ℕ) → begins text xs ≡ true → is_upto xs word ≡ true → is_upto word text ≡ true → length xs ≤ common word text
front-shared text word [] h u v = omega arith
front-shared text [] (x ∷ xs) h u v = cc
front-shared [] (w ∷ ws) (x ∷ xs) h u v = cc
front-shared (c ∷ cs) (w ∷ ws) (x ∷ xs) h u v =
    let later : begins cs xs ≡ true → is_upto xs ws ≡ true → is_upto ws cs ≡ true → length xs ≤ common ws cs = front-shared cs ws xs in
    grind (arith, nat_tests)

pub begins-within : (text xs : List ℕ) (n : ℕ) → begins text xs ≡ true → length xs ≤ n → begins (take n text) xs ≡ true
begins-within text [] n h l = refl
begins-within [] (x ∷ xs) n h l = cc
begins-within (c ∷ cs) (x ∷ xs) zero h l = absurd (omega arith)
begins-within (c ∷ cs) (x ∷ xs) (suc n) h l =
    let later : begins cs xs ≡ true → length xs ≤ n → begins (take n cs) xs ≡ true = begins-within cs xs n in
    grind (arith, nat_tests)

-- a front of a front
pub begins-take : (text xs : List ℕ) (n : ℕ) → begins (take n text) xs ≡ true → begins text xs ≡ true
begins-take text [] n h = refl
begins-take text (x ∷ xs) zero h = cc
begins-take [] (x ∷ xs) (suc n) h = cc
begins-take (c ∷ cs) (x ∷ xs) (suc n) h =
    let later : begins (take n cs) xs ≡ true → begins cs xs ≡ true = begins-take cs xs n in
    grind (arith, nat_tests)

-- a word that has all in common with the text is its front
pub common-whole : (text word : List ℕ) → common word text ≡ length word → begins text word ≡ true
common-whole text [] h = refl
common-whole [] (w ∷ ws) h = cc
common-whole (c ∷ cs) (w ∷ ws) h =
    let later : common ws cs ≡ length ws → begins cs ws ≡ true = common-whole cs ws in
    grind (arith, nat_tests)

-- a word at or before the text that has all of the text in common with it is the text
pub common-shorter : (text word : List ℕ) → is_upto word text ≡ true → common word text < length word → common word text < length text
common-shorter text [] u h = omega arith
common-shorter [] (w ∷ ws) u h = cc
common-shorter (c ∷ cs) (w ∷ ws) u h =
    let later : is_upto ws cs ≡ true → common ws cs < length ws → common ws cs < length cs = common-shorter cs ws in
    grind (arith, nat_tests)

-- a word that goes on after the text comes after it, and one that begins with the text and comes after it goes on
pub upto-ended : (text word : List ℕ) → is_upto word text ≡ true → (begins word text && nat_lt (length text) (length word)) ≡ false
upto-ended text [] u = grind (arith, nat_tests)
upto-ended [] (w ∷ ws) u = cc
upto-ended (c ∷ cs) (w ∷ ws) u =
    let later : is_upto ws cs ≡ true → (begins ws cs && nat_lt (length cs) (length ws)) ≡ false = upto-ended cs ws in
    grind (arith, nat_tests)

pub goes-on : (text word : List ℕ) → begins word text ≡ true → is_upto word text ≡ false → (begins word text && nat_lt (length text) (length word)) ≡ true
goes-on text [] b u = cc
goes-on [] (w ∷ ws) b u = grind (arith, nat_tests)
goes-on (c ∷ cs) (w ∷ ws) b u =
    let later : begins ws cs ≡ true → is_upto ws cs ≡ false → (begins ws cs && nat_lt (length cs) (length ws)) ≡ true = goes-on cs ws in
    grind (arith, nat_tests)

-- what stands between a text and a word that begins with it begins with it too
pub begins-between : (text mid word : List ℕ) → is_upto mid text ≡ false → is_upto mid word ≡ true → begins word text ≡ true → begins mid text ≡ true
begins-between [] mid word u v b = refl
begins-between (c ∷ cs) [] word u v b = cc
begins-between (c ∷ cs) (m ∷ ms) [] u v b = cc
begins-between (c ∷ cs) (m ∷ ms) (w ∷ ws) u v b =
    let later : is_upto ms cs ≡ false → is_upto ms ws ≡ true → begins ws cs ≡ true → begins ms cs ≡ true = begins-between cs ms ws in
    grind (arith, nat_tests)

pub starts_with-begins : (text word : List ℕ) → starts_with nat_eq text word ≡ begins text word
starts_with-begins text [] = refl
starts_with-begins [] (w ∷ ws) = refl
starts_with-begins (c ∷ cs) (w ∷ ws) = ap (λ (b : Bool). nat_eq w c && b) (starts_with-begins cs ws)

pub common-within : (xs ys : List ℕ) → common xs ys ≤ length xs
common-within [] ys = omega arith
common-within (x ∷ xs) [] = omega arith
common-within (x ∷ xs) (y ∷ ys) = let later : common xs ys ≤ length xs = common-within xs ys in grind (arith, nat_tests)

common-nil : (xs : List ℕ) → common xs [] ≡ 0
common-nil [] = refl
common-nil (x ∷ xs) = refl

drop-past : (ys : List ℕ) (i : ℕ) → length ys ≤ i → drop i ys ≡ []
drop-past [] zero h = refl
drop-past [] (suc i) h = refl
drop-past (y ∷ ys) zero h = absurd (omega arith)
drop-past (y ∷ ys) (suc i) h = drop-past ys i (omega arith)

-- nothing is in common with what is past the end of a text
pub common-past : (xs ys : List ℕ) (i : ℕ) → length ys ≤ i → common xs (drop i ys) ≡ 0
common-past xs ys i h = rw (drop-past ys i h) (common-nil xs)
