-- Ids, none of which stands twice: what is made of them by taking some away and adding new ones.
use Rattle.std.proofs.Common.{◌≡◌, ℕ, zero, suc, ◌+◌, ◌≤◌, ◌<◌, ◌==◌, List, [], ◌∷◌, Bool, true, false, refl, sym, ◌∙◌, subst, arith, nat_lt, nat_le}
use Rattle.std.proofs.lemmas.Bool.{eqb-true, eqb-false, ne_eqb, ltb-true, ltb-false, leb-true, leb-false}
use Rattle.hp_control.specs.States.{AreIds, IsNew}
use Rattle.hp_model.proofs.Tally.{tally, tally-nil, tally-yes, tally-no, tally-tail}

abbrev pub both : Bool → Bool → ℕ
both true true = 1
both true false = 0
both false b = 0

-- one where the number isn't below the first, and is below the second
abbrev pub between : ℕ → ℕ → ℕ → ℕ
between n m i = both (nat_le n i) (nat_lt i m)

pub between-below : (n m i : ℕ) → i < n → between n m i ≡ 0
between-below n m i h = go (nat_le n i) refl
  where
    go : (b : Bool) → nat_le n i ≡ b → both b (nat_lt i m) ≡ 0
    go true e = let f : n ≤ i = leb-true n i e in absurd (omega arith)
    go false e = refl

pub between-most : (n m i : ℕ) → between n m i ≤ 1
between-most n m i = go (nat_le n i) (nat_lt i m)
  where
    go : (a b : Bool) → both a b ≤ 1
    go true true = omega arith
    go true false = omega arith
    go false b = omega arith

pub between-above : (n m i : ℕ) → m ≤ i → between n m i ≡ 0
between-above n m i h = go (nat_le n i) (nat_lt i m) refl
  where
    go : (a b : Bool) → nat_lt i m ≡ b → both a b ≡ 0
    go a true e = let f : i < m = ltb-true i m e in absurd (omega arith)
    go true false e = refl
    go false false e = refl

pub between-inside : (n m i : ℕ) → n ≤ i → i < m → between n m i ≡ 1
between-inside n m i h k = go (nat_le n i) (nat_lt i m) refl refl
  where
    go : (a b : Bool) → nat_le n i ≡ a → nat_lt i m ≡ b → both a b ≡ 1
    go true true e f = refl
    go true false e f = let g : m ≤ i = ltb-false i m f in absurd (omega arith)
    go false b e f = let g : i < n = leb-false n i e in absurd (omega arith)

pub between-none : (n i : ℕ) → between n n i ≡ 0
between-none n i = go (nat_lt i n) refl
  where
    go : (b : Bool) → nat_lt i n ≡ b → between n n i ≡ 0
    go true e = between-below n n i (ltb-true i n e)
    go false e = between-above n n i (ltb-false i n e)

pub data Place (n m i : ℕ) : Type 0 where
  below : i < n → Place n m i
  inside : n ≤ i → i < m → Place n m i
  above : m ≤ i → Place n m i

pub place : (n m i : ℕ) → Place n m i
place n m i = go (nat_lt i n) (nat_lt i m) refl refl
  where
    go : (a b : Bool) → nat_lt i n ≡ a → nat_lt i m ≡ b → Place n m i
    go true b e f = below (ltb-true i n e)
    go false true e f = inside (ltb-false i n e) (ltb-true i m f)
    go false false e f = above (ltb-false i m f)

pub between-then : (n m l i : ℕ) → n ≤ m → m ≤ l → between n m i + between m l i ≤ between n l i
between-then n m l i h k = go (place n m i) (place m l i)
  where
    go : Place n m i → Place m l i → between n m i + between m l i ≤ between n l i
    go (below a) q = let e : between n m i ≡ 0 = between-below n m i a in let f : between m l i ≡ 0 = between-below m l i (omega arith) in omega arith
    go (inside a b) q =
        let e : between n m i ≡ 1 = between-inside n m i a b in
        let f : between m l i ≡ 0 = between-below m l i b in
        let g : between n l i ≡ 1 = between-inside n l i a (omega arith) in
        omega arith
    go (above a) (below b) = absurd (omega arith)
    go (above a) (inside b d) =
        let e : between n m i ≡ 0 = between-above n m i a in
        let f : between m l i ≡ 1 = between-inside m l i b d in
        let g : between n l i ≡ 1 = between-inside n l i (omega arith) d in
        omega arith
    go (above a) (above b) =
        let e : between n m i ≡ 0 = between-above n m i a in
        let f : between m l i ≡ 0 = between-above m l i b in
        omega arith

abbrev pub is_id : ℕ → ℕ → Bool
is_id i x = x == i

pub new-none : (x : ℕ) (xs : List ℕ) → IsNew x xs → tally (is_id x) xs ≡ 0
new-none x [] h = tally-nil (is_id x)
new-none x (y ∷ ys) h =
    tally-no (is_id x) y ys (ne_eqb y x (λ e. h.0 (sym e))) ∙ new-none x ys h.1

pub eqb-same : (n : ℕ) → (n == n) ≡ true
eqb-same n = go (n == n) refl
  where
    go : (b : Bool) → (n == n) ≡ b → b ≡ true
    go true e = refl
    go false e = absurd (eqb-false n n e refl)

pub none-new : (x : ℕ) (xs : List ℕ) → tally (is_id x) xs ≡ 0 → IsNew x xs
none-new x [] h = tt
none-new x (y ∷ ys) h = go (y == x) refl (none-new x ys)
  where
    go : (b : Bool) → (y == x) ≡ b → (tally (is_id x) ys ≡ 0 → IsNew x ys) → IsNew x (y ∷ ys)
    go true e rest = let f : tally (is_id x) (y ∷ ys) ≡ tally (is_id x) ys + 1 = tally-yes (is_id x) y ys e in absurd (omega arith)
    go false e rest =
        let f : tally (is_id x) (y ∷ ys) ≡ tally (is_id x) ys = tally-no (is_id x) y ys e in
        ((λ s. eqb-false y x e (sym s)), rest (omega arith))

pub once : (low next : ℕ) (xs : List ℕ) (i : ℕ) → AreIds low next xs → tally (is_id i) xs ≤ 1
once low next [] i h = let z : tally (is_id i) [] ≡ 0 = tally-nil (is_id i) in omega arith
once low next (x ∷ xs) i h = go (x == i) refl (once low next xs i h.3)
  where
    go : (b : Bool) → (x == i) ≡ b → tally (is_id i) xs ≤ 1 → tally (is_id i) (x ∷ xs) ≤ 1
    go true e rest =
        let f : tally (is_id i) (x ∷ xs) ≡ tally (is_id i) xs + 1 = tally-yes (is_id i) x xs e in
        let g : tally (is_id i) xs ≡ 0 = subst (λ z. tally (is_id z) xs ≡ 0) (eqb-true x i e) (new-none x xs h.2) in
        omega arith
    go false e rest =
        let f : tally (is_id i) (x ∷ xs) ≡ tally (is_id i) xs = tally-no (is_id i) x xs e in
        omega arith

pub within : (low next : ℕ) (xs : List ℕ) (i : ℕ) → AreIds low next xs → 0 < tally (is_id i) xs → (low < i) × (i < next)
within low next [] i h k = let z : tally (is_id i) [] ≡ 0 = tally-nil (is_id i) in absurd (omega arith)
within low next (x ∷ xs) i h k = go (x == i) refl (within low next xs i h.3)
  where
    go : (b : Bool) → (x == i) ≡ b → (0 < tally (is_id i) xs → (low < i) × (i < next)) → (low < i) × (i < next)
    go true e rest = let s : x ≡ i = eqb-true x i e in let a : low < x = h.0 in let b : x < next = h.1 in (omega arith, omega arith)
    go false e rest = let f : tally (is_id i) (x ∷ xs) ≡ tally (is_id i) xs = tally-no (is_id i) x xs e in rest (omega arith)

-- numbers none of which stands twice, each in bounds, are ids
pub are_ids : (low next : ℕ) (xs : List ℕ) → ((i : ℕ) → tally (is_id i) xs ≤ 1) → ((i : ℕ) → 0 < tally (is_id i) xs → (low < i) × (i < next)) → AreIds low next xs
are_ids low next [] a b = tt
are_ids low next (x ∷ xs) a b =
    let here : tally (is_id x) (x ∷ xs) ≡ tally (is_id x) xs + 1 = tally-yes (is_id x) x xs (eqb-same x) in
    let most : tally (is_id x) (x ∷ xs) ≤ 1 = a x in
    let bounds = b x (omega arith) in (
      bounds.0,
      bounds.1,
      none-new x xs (omega arith),
      are_ids low next xs (λ i. let t : tally (is_id i) xs ≤ tally (is_id i) (x ∷ xs) = tally-tail (is_id i) x xs in let u : tally (is_id i) (x ∷ xs) ≤ 1 = a i in omega arith)
          (λ i k. let t : tally (is_id i) xs ≤ tally (is_id i) (x ∷ xs) = tally-tail (is_id i) x xs in b i (omega arith)),
    )

-- of ids below a number some may go, and those from there on may come
module _ (low n m : ℕ) (old new : List ℕ) (l : low < n) (k : n ≤ m) (h : (i : ℕ) → tally (is_id i) new ≤ tally (is_id i) old + between n m i) (a : AreIds low n old) where
  none-old : (i t : ℕ) → n ≤ i → tally (is_id i) old ≡ t → t ≤ 0
  none-old i zero e f = omega arith
  none-old i (suc t) e f = let w = within low n old i a (omega arith) in let v : i < n = w.1 in absurd (omega arith)

  fresh-once : (i : ℕ) → n ≤ i → tally (is_id i) new ≤ 1
  fresh-once i e =
      let g : tally (is_id i) new ≤ tally (is_id i) old + between n m i = h i in
      let b : between n m i ≤ 1 = between-most n m i in
      let o : tally (is_id i) old ≤ 0 = none-old i (tally (is_id i) old) e refl in
      omega arith

  once-at : (i : ℕ) → Place n m i → tally (is_id i) new ≤ 1
  once-at i (below e) =
      let f : between n m i ≡ 0 = between-below n m i e in
      let g : tally (is_id i) new ≤ tally (is_id i) old + between n m i = h i in
      let o : tally (is_id i) old ≤ 1 = once low n old i a in
      omega arith
  once-at i (inside e f) = fresh-once i e
  once-at i (above e) = fresh-once i (omega arith)

  bounds-at : (i : ℕ) → 0 < tally (is_id i) new → Place n m i → (low < i) × (i < m)
  bounds-at i p (below e) =
      let f : between n m i ≡ 0 = between-below n m i e in
      let g : tally (is_id i) new ≤ tally (is_id i) old + between n m i = h i in
      let w = within low n old i a (omega arith) in
      (w.0, omega arith)
  bounds-at i p (inside e f) = (omega arith, f)
  bounds-at i p (above e) =
      let f : between n m i ≡ 0 = between-above n m i e in
      let g : tally (is_id i) new ≤ tally (is_id i) old + between n m i = h i in
      let o : tally (is_id i) old ≤ 0 = none-old i (tally (is_id i) old) (omega arith) refl in
      absurd (omega arith)

  pub grown : AreIds low m new
  grown = are_ids low m new (λ i. once-at i (place n m i)) (λ i p. bounds-at i p (place n m i))
