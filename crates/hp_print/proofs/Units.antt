-- Weights order code points as their UTF-16 code units do.
use Rattle.std.proofs.Common.{◌≡◌, ℕ, ◌+◌, ◌-◌, ◌/◌, ◌%◌, ◌<◌, ◌≤◌, List, [], ◌∷◌, ◌++◌, true, false, map, arith, refl, sym, ap, ◌∙◌, inl, inr, Ordering, Less, Equal, Greater}
use Rattle.std.specs.Prelude.{nat_lt, nat_le}
use Rattle.std.specs.Char.Escape.{encode_utf16}
use Rattle.std.specs.Ordering.{nat_cmp, ordering_then}
use Rattle.std.specs.Cmp.{nat_cmp_is}
use Rattle.std.specs.Cmp.Lexicographic.{slice_cmp}
use Rattle.std.proofs.lemmas.Bool.{cases_lt, cond-true, cond-false}
use Rattle.std.proofs.lemmas.Bool.Decides.{nat_tests}
use Rattle.std.proofs.Math.Utf8.{scalar, scalars, scalar_cases}
use Rattle.std.proofs.lemmas.Bool.{and_parts}
use Rattle.hp_print.specs.Order.{weight, units}

-- no surrogate, and no more than 10FFFF
abbrev IsScalar : ℕ → Type 0
IsScalar c = (c < 0x110000) × (0xD800 ≤ c → 0xE000 ≤ c)

abbrev AreScalar : List ℕ → Type 0
AreScalar [] = Unit {0}
AreScalar (c ∷ cs) = IsScalar c × AreScalar cs

is_scalar : (c : ℕ) → scalar c ≡ true → IsScalar c
is_scalar c e = elim (scalar_cases c e) [ inl a ↦ (omega arith, λ b. omega arith) | inr b ↦ (b.1, λ a. b.0) ]

are_scalar : (cs : List ℕ) → scalars cs ≡ true → AreScalar cs
are_scalar [] h = tt
are_scalar (c ∷ cs) h = let parts = and_parts (scalar c) (scalars cs) h in (is_scalar c parts.0, are_scalar cs parts.1)

less : (x y : ℕ) → x < y → nat_cmp x y ≡ Less
less x y h = sym (nat_cmp_is x y Less h)

same : (x y : ℕ) → x ≡ y → nat_cmp x y ≡ Equal
same x y h = sym (nat_cmp_is x y Equal h)

more : (x y : ℕ) → y < x → nat_cmp x y ≡ Greater
more x y h = sym (nat_cmp_is x y Greater h)

first_less : (o p : Ordering) (r s : Ordering) → o ≡ Less → p ≡ Less → ordering_then o r ≡ ordering_then p s
first_less o p r s e f = rw (e, f) refl

first_more : (o p : Ordering) (r s : Ordering) → o ≡ Greater → p ≡ Greater → ordering_then o r ≡ ordering_then p s
first_more o p r s e f = rw (e, f) refl

first_same : (o p : Ordering) (r s : Ordering) → o ≡ Equal → p ≡ Equal → r ≡ s → ordering_then o r ≡ ordering_then p s
first_same o p r s e f g = rw (e, f, g) refl

pub small : (c : ℕ) → c < 0x10000 → encode_utf16 c ≡ c ∷ []
small c h = let e : nat_lt c 0x10000 ≡ true = grind (arith, nat_tests) in cond-true (nat_lt c 0x10000) _ _ e

abbrev high : ℕ → ℕ
high c = 0xD800 + (c - 0x10000) / 0x400

abbrev low : ℕ → ℕ
low c = 0xDC00 + (c - 0x10000) % 0x400

large : (c : ℕ) → 0x10000 ≤ c → encode_utf16 c ≡ high c ∷ low c ∷ []
large c h = let e : nat_lt c 0x10000 ≡ false = grind (arith, nat_tests) in cond-false (nat_lt c 0x10000) _ _ e

weight-low : (c : ℕ) → c < 0xE000 → weight c ≡ c
weight-low c h = let e : nat_le 0xE000 c ≡ false = grind (arith, nat_tests) in rw e refl

weight-late : (c : ℕ) → 0xE000 ≤ c → c < 0x10000 → weight c ≡ c + 0x110000
weight-late c h k =
    let e : nat_le 0xE000 c ≡ true = grind (arith, nat_tests) in
    let f : nat_lt c 0x10000 ≡ true = grind (arith, nat_tests) in rw (e, f) refl

weight-large : (c : ℕ) → 0x10000 ≤ c → weight c ≡ c
weight-large c h =
    let e : nat_le 0xE000 c ≡ true = grind (arith, nat_tests) in
    let f : nat_lt c 0x10000 ≡ false = grind (arith, nat_tests) in rw (e, f) refl

-- below 10000 weights rise as code points do
rises : (c d : ℕ) → c < d → d < 0x10000 → weight c < weight d
rises c d h k =
    elim (cases_lt c 0xE000) [
      | inl a ↦ elim (cases_lt d 0xE000) [
        | inl b ↦ omega (arith, weight-low c a, weight-low d b)
        | inr b ↦ omega (arith, weight-low c a, weight-late d b k)
      ]
      | inr a ↦ omega (arith, weight-late c a (omega arith), weight-late d (omega arith) k)
    ]

-- the first code points of two texts
both_small : (c d : ℕ) (r s : Ordering) → c < 0x10000 → d < 0x10000 → r ≡ s → ordering_then (nat_cmp c d) r ≡ ordering_then (nat_cmp (weight c) (weight d)) s
both_small c d r s hc hd e =
    elim (cases_lt c d) [
      | inl lt ↦ first_less _ _ r s (less c d lt) (less (weight c) (weight d) (rises c d lt hd))
      | inr ge ↦ elim (cases_lt d c) [
        | inl gt ↦ first_more _ _ r s (more c d gt) (more (weight c) (weight d) (rises d c gt hc))
        | inr le ↦ let equal : c ≡ d = omega arith in first_same _ _ r s (same c d equal) (same (weight c) (weight d) (ap weight equal)) e
      ]
    ]

-- the first unit of a large code point is a surrogate
high-in : (d : ℕ) → 0x10000 ≤ d → d < 0x110000 → (0xD800 ≤ high d) × (high d < 0xDC00)
high-in d h k = (omega arith, omega arith)

small_large : (c d : ℕ) (r s : Ordering) → c < 0x10000 → IsScalar c → 0x10000 ≤ d → d < 0x110000 → ordering_then (nat_cmp c (high d)) r ≡ ordering_then (nat_cmp (weight c) (weight d)) s
small_large c d r s hc scalar hd top =
    elim (cases_lt c 0xD800) [
      | inl a ↦ first_less _ _ r s (less c (high d) (omega (arith, (high-in d hd top).0))) (less (weight c) (weight d) (omega (arith, weight-low c (omega arith), weight-large d hd)))
      | inr a ↦
          let late : 0xE000 ≤ c = scalar.1 a in
          first_more _ _ r s (more c (high d) (omega (arith, (high-in d hd top).1))) (more (weight c) (weight d) (omega (arith, weight-late c late hc, weight-large d hd)))
    ]

large_small : (c d : ℕ) (r s : Ordering) → 0x10000 ≤ c → c < 0x110000 → d < 0x10000 → IsScalar d → ordering_then (nat_cmp (high c) d) r ≡ ordering_then (nat_cmp (weight c) (weight d)) s
large_small c d r s hc top hd scalar =
    elim (cases_lt d 0xD800) [
      | inl a ↦ first_more _ _ r s (more (high c) d (omega (arith, (high-in c hc top).0))) (more (weight c) (weight d) (omega (arith, weight-low d (omega arith), weight-large c hc)))
      | inr a ↦
          let late : 0xE000 ≤ d = scalar.1 a in
          first_less _ _ r s (less (high c) d (omega (arith, (high-in c hc top).1))) (less (weight c) (weight d) (omega (arith, weight-late d late hd, weight-large c hc)))
    ]

-- two large ones: the first units decide, and else the second
pair_less : (c d : ℕ) (r s : Ordering) → 0x10000 ≤ c → c < d → ordering_then (nat_cmp (high c) (high d)) (ordering_then (nat_cmp (low c) (low d)) r) ≡ ordering_then Less s
pair_less c d r s hc lt =
    elim (cases_lt (high c) (high d)) [
      | inl a ↦ rw (less (high c) (high d) a) refl
      | inr a ↦
          let equal : high c ≡ high d = omega arith in
          let next : low c < low d = omega arith in
          rw (same (high c) (high d) equal, less (low c) (low d) next) refl
    ]

pair_more : (c d : ℕ) (r s : Ordering) → 0x10000 ≤ d → d < c → ordering_then (nat_cmp (high c) (high d)) (ordering_then (nat_cmp (low c) (low d)) r) ≡ ordering_then Greater s
pair_more c d r s hd gt =
    elim (cases_lt (high d) (high c)) [
      | inl a ↦ rw (more (high c) (high d) a) refl
      | inr a ↦
          let equal : high c ≡ high d = omega arith in
          let next : low d < low c = omega arith in
          rw (same (high c) (high d) equal, more (low c) (low d) next) refl
    ]

both_large : (c d : ℕ) (r s : Ordering) → 0x10000 ≤ c → 0x10000 ≤ d → r ≡ s
    → ordering_then (nat_cmp (high c) (high d)) (ordering_then (nat_cmp (low c) (low d)) r) ≡ ordering_then (nat_cmp (weight c) (weight d)) s
both_large c d r s hc hd e =
    elim (cases_lt c d) [
      | inl lt ↦ pair_less c d r s hc lt ∙ ap (λ o. ordering_then o s) (sym (less (weight c) (weight d) (omega (arith, weight-large c hc, weight-large d hd))))
      | inr ge ↦ elim (cases_lt d c) [
        | inl gt ↦ pair_more c d r s hd gt ∙ ap (λ o. ordering_then o s) (sym (more (weight c) (weight d) (omega (arith, weight-large c hc, weight-large d hd))))
        | inr le ↦
            let equal : c ≡ d = omega arith in
            first_same _ _ _ s (same (high c) (high d) (ap high equal)) (same (weight c) (weight d) (ap weight equal)) (ap (λ o. ordering_then o r) (same (low c) (low d) (ap low equal)) ∙ e)
      ]
    ]

step : (c d : ℕ) (xs ys : List ℕ) (s : Ordering) → IsScalar c → IsScalar d → slice_cmp nat_cmp xs ys ≡ s → slice_cmp nat_cmp (encode_utf16 c ++ xs) (encode_utf16 d ++ ys) ≡ ordering_then (nat_cmp (weight c) (weight d)) s
step c d xs ys s hc hd e =
    elim (cases_lt c 0x10000) [
      | inl a ↦ elim (cases_lt d 0x10000) [
        | inl b ↦ ap (λ us. slice_cmp nat_cmp (us ++ xs) (encode_utf16 d ++ ys)) (small c a) ∙ ap (λ us. slice_cmp nat_cmp (c ∷ xs) (us ++ ys)) (small d b) ∙ both_small c d (slice_cmp nat_cmp xs ys) s a b e
        | inr b ↦ ap (λ us. slice_cmp nat_cmp (us ++ xs) (encode_utf16 d ++ ys)) (small c a) ∙ ap (λ us. slice_cmp nat_cmp (c ∷ xs) (us ++ ys)) (large d b) ∙ small_large c d (slice_cmp nat_cmp xs (low d ∷ ys)) s a hc b hd.0
      ]
      | inr a ↦ elim (cases_lt d 0x10000) [
        | inl b ↦ ap (λ us. slice_cmp nat_cmp (us ++ xs) (encode_utf16 d ++ ys)) (large c a) ∙ ap (λ us. slice_cmp nat_cmp (high c ∷ low c ∷ xs) (us ++ ys)) (small d b) ∙ large_small c d (slice_cmp nat_cmp (low c ∷ xs) ys) s a hc.0 b hd
        | inr b ↦ ap (λ us. slice_cmp nat_cmp (us ++ xs) (encode_utf16 d ++ ys)) (large c a) ∙ ap (λ us. slice_cmp nat_cmp (high c ∷ low c ∷ xs) (us ++ ys)) (large d b) ∙ both_large c d (slice_cmp nat_cmp xs ys) s a b e
      ]
    ]

none_less : (d : ℕ) (ys : List ℕ) → slice_cmp nat_cmp [] (encode_utf16 d ++ ys) ≡ Less
none_less d ys =
    elim (cases_lt d 0x10000) [
      | inl b ↦ ap (λ us. slice_cmp nat_cmp [] (us ++ ys)) (small d b)
      | inr b ↦ ap (λ us. slice_cmp nat_cmp [] (us ++ ys)) (large d b)
    ]

none_more : (c : ℕ) (xs : List ℕ) → slice_cmp nat_cmp (encode_utf16 c ++ xs) [] ≡ Greater
none_more c xs =
    elim (cases_lt c 0x10000) [
      | inl a ↦ ap (λ us. slice_cmp nat_cmp (us ++ xs) []) (small c a)
      | inr a ↦ ap (λ us. slice_cmp nat_cmp (us ++ xs) []) (large c a)
    ]

weights-order : (a b : List ℕ) → AreScalar a → AreScalar b → slice_cmp nat_cmp (map weight a) (map weight b) ≡ slice_cmp nat_cmp (units a) (units b)
weights-order [] [] sa sb = refl
weights-order [] (d ∷ b) sa sb = sym (none_less d (units b))
weights-order (c ∷ a) [] sa sb = sym (none_more c (units a))
weights-order (c ∷ a) (d ∷ b) sa sb = sym (step c d (units a) (units b) (slice_cmp nat_cmp (map weight a) (map weight b)) sa.0 sb.0 (sym (weights-order a b sa.1 sb.1)))

pub weights_order_like_units : (a b : List ℕ) → scalars a ≡ true → scalars b ≡ true → slice_cmp nat_cmp (map weight a) (map weight b) ≡ slice_cmp nat_cmp (units a) (units b)
weights_order_like_units a b sa sb = weights-order a b (are_scalar a sa) (are_scalar b sb)

pub scalars-append : (a b : List ℕ) → scalars a ≡ true → scalars b ≡ true → scalars (a ++ b) ≡ true
scalars-append [] b sa sb = sb
scalars-append (c ∷ a) b sa sb =
    let parts = and_parts (scalar c) (scalars a) sa in rw (parts.0) (scalars-append a b parts.1 sb)
