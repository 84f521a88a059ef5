-- The turns of a page: one at a time, enough of them, and what they make together.
use Rattle.std.proofs.Common.{◌≡◌, ℕ, ◌+◌, ◌-◌, ◌/◌, ◌^◌, ◌<◌, ◌≤◌, suc, zero, List, [], ◌∷◌, ◌++◌, take, get_or, Bool, true, false, ◌&&◌, nat_lt, nat_le, length, refl, arith, cond, sym, ap, ◌∙◌, append_assoc, length-append, le-leb, add-one, inl, inr}
use Rattle.std.proofs.lemmas.List.{length-replicate, take_all}
use Rattle.std.proofs.lemmas.Bool.{cases_lt}
use Rattle.std.proofs.lemmas.Bool.Decides.{nat_tests}
use Rattle.hp_make.specs.Pages.{doctype, pieces, next, piece, filling, body, filled, page_of, number_at, first_pieces, IsPage}

cond_true : {A : Type 0} (b : Bool) (x y : A) → b ≡ true → cond b x y ≡ x
cond_true true x y h = refl
cond_true false x y h = cc

cond_false : {A : Type 0} (b : Bool) (x y : A) → b ≡ false → cond b x y ≡ y
cond_false true x y h = cc
cond_false false x y h = refl

abbrev all_some : List (List ℕ) → Bool
all_some [] = true
all_some (x ∷ xs) = nat_lt 0 (length x) && all_some xs

and_first : (x y : Bool) → (x && y) ≡ true → x ≡ true
and_first true y h = refl
and_first false y h = h

and_second : (x y : Bool) → (x && y) ≡ true → y ≡ true
and_second true y h = h
and_second false y h = cc

some-at : (xs : List (List ℕ)) (i : ℕ) → all_some xs ≡ true → i < length xs → 0 < length (get_or xs i [])
some-at [] i h l = absurd (omega arith)
some-at (x ∷ xs) zero h l = let t : nat_lt 0 (length x) ≡ true = and_first _ _ h in grind (arith, nat_tests)
some-at (x ∷ xs) (suc i) h l = some-at xs i (and_second _ _ h) (omega arith)

top-below : (n : ℕ) → n < 2 ^ 64 → n / 2 ^ 60 < 16
top-below n h = omega arith

-- no piece is empty
pub piece-some : (number : ℕ) → 0 < length (piece (next number))
piece-some number = some-at pieces (next number / 2 ^ 60) refl (top-below (next number) (omega arith))

pub body-fits : (turns number left : ℕ) → length (piece (next number)) ≤ left
    → body (suc turns) number left ≡ piece (next number) ++ body turns (next number) (left - length (piece (next number)))
unfolding body
body-fits turns number left h = cond_true (nat_le (length (piece (next number))) left) _ _ (le-leb _ _ h)

pub body-stops : (turns number left : ℕ) → left < length (piece (next number)) → body (suc turns) number left ≡ filling left
unfolding body
body-stops turns number left h = cond_false (nat_le (length (piece (next number))) left) _ _ (grind (arith, nat_tests))

-- more turns than bytes are enough
pub body-enough : (n m number left : ℕ) → left < n → left < m → body n number left ≡ body m number left
body-enough zero m number left h k = absurd (omega arith)
body-enough (suc n) zero number left h k = absurd (omega arith)
body-enough (suc n) (suc m) number left h k = elim (cases_lt left (length (piece (next number)))) [
  | inl less ↦ body-stops n number left less ∙ sym (body-stops m number left less)
  | inr fits ↦
      let some : 0 < length (piece (next number)) = piece-some number in
      body-fits n number left fits
      ∙ ap (λ (xs : List ℕ). piece (next number) ++ xs) (body-enough n m (next number) (left - length (piece (next number))) (omega arith) (omega arith))
      ∙ sym (body-fits m number left fits)
]

pub filled-fits : (number left : ℕ) → length (piece (next number)) ≤ left
    → filled number left ≡ piece (next number) ++ filled (next number) (left - length (piece (next number)))
filled-fits number left h =
    let some : 0 < length (piece (next number)) = piece-some number in
    rw add-one (body-fits left number left h
    ∙ ap (λ (xs : List ℕ). piece (next number) ++ xs)
    (body-enough left (left - length (piece (next number)) + 1) (next number) (left - length (piece (next number))) (omega arith) (omega arith)))

pub filled-stops : (number left : ℕ) → left < length (piece (next number)) → filled number left ≡ filling left
filled-stops number left h = rw add-one (body-stops left number left h)

-- what the turns make: the first pieces and a filling that is shorter than the next, of the length that was left
abbrev IsBody : ℕ → ℕ → List ℕ → Type 0
IsBody number left text = (k : ℕ) × (count : ℕ) × (text ≡ first_pieces k number ++ filling count)
    × (count < length (piece (number_at (suc k) number))) × (length text ≡ left)

body-IsBody : (n number left : ℕ) → left < n → IsBody number left (body n number left)
body-IsBody zero number left h = absurd (omega arith)
body-IsBody (suc n) number left h = elim (cases_lt left (length (piece (next number)))) [
  | inl less ↦ (0, left, body-stops n number left less, less, ap length (body-stops n number left less) ∙ length-replicate left 120)
  | inr fits ↦
      let some : 0 < length (piece (next number)) = piece-some number in
      let rest = left - length (piece (next number)) in
      let (k, count, is, short, size) = body-IsBody n (next number) rest (omega arith) in
      let step : body (suc n) number left ≡ piece (next number) ++ body n (next number) rest = body-fits n number left fits in (
        suc k,
        count,
        step ∙ ap (λ (xs : List ℕ). piece (next number) ++ xs) is ∙ sym (append_assoc (piece (next number)) (first_pieces k (next number)) (filling count)),
        short,
        ap length step ∙ length-append (piece (next number)) (body n (next number) rest) ∙ omega arith,
      )
]

pub page_of-IsPage : (seed size : ℕ) → 15 ≤ size → IsPage seed size (page_of seed size)
page_of-IsPage seed size h =
    let left = size - 15 in
    let (k, count, is, short, long) = body-IsBody (left + 1) seed left (omega arith) in
    let step : page_of seed size ≡ doctype ++ filled seed left = cond_false (nat_lt size 15) _ _ (grind (arith, nat_tests)) in (
      k,
      count,
      step ∙ ap (λ (xs : List ℕ). doctype ++ xs) is ∙ sym (append_assoc doctype (first_pieces k seed) (filling count)),
      short,
      ap length step ∙ length-append doctype (filled seed left) ∙ omega arith,
    )

-- a piece that fits is a turn of the loop
pub turn : (items new p : List ℕ) (size n m number number' : ℕ) (page : List ℕ) → number' ≡ next number → p ≡ piece number' → length p ≤ size - n → n ≤ size
    → m ≡ n + length p → items ++ filled number (size - n) ≡ page → new ≡ items ++ p → new ++ filled number' (size - m) ≡ page
turn items new p size n m number number' page e f fits l long so_far is =
    let picked : piece (next number) ≡ p = ap piece (sym e) ∙ sym f in
    let size_of : length (piece (next number)) ≡ length p = ap length picked in
    let rest : (size - n) - length (piece (next number)) ≡ size - m = omega arith in
    let left : ℕ = (size - n) - length (piece (next number)) in
    let step : filled number (size - n) ≡ p ++ filled number' (size - m) =
    filled-fits number (size - n) (omega arith)
    ∙ ap (λ (xs : List ℕ). xs ++ filled (next number) left) picked
    ∙ ap (λ (x : ℕ). p ++ filled x left) (sym e)
    ∙ ap (λ (x : ℕ). p ++ filled number' x) rest in
    ap (λ (xs : List ℕ). xs ++ filled number' (size - m)) is
    ∙ append_assoc items p (filled number' (size - m))
    ∙ ap (λ (xs : List ℕ). items ++ xs) (sym step)
    ∙ so_far

-- one that doesn't gives way to the filling
pub finish : (items new p : List ℕ) (size n number number' : ℕ) (page : List ℕ) → number' ≡ next number → p ≡ piece number' → size - n < length p → length items ≤ size
    → items ++ filled number (size - n) ≡ page → new ≡ take size items ++ filling (size - n) → new ≡ page
finish items new p size n number number' page e f less l so_far is =
    let picked : piece (next number) ≡ p = ap piece (sym e) ∙ sym f in
    let size_of : length (piece (next number)) ≡ length p = ap length picked in
    is ∙ ap (λ (xs : List ℕ). xs ++ filling (size - n)) (take_all size items l)
    ∙ ap (λ (xs : List ℕ). items ++ xs) (sym (filled-stops number (size - n) (omega arith)))
    ∙ so_far
