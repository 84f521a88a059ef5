-- How chains of hashes grow.
use Rattle.std.proofs.Common.{◌≡◌, ◌≢◌, ◌⊎◌, inl, inr, ℕ, ◌+◌, ◌-◌, ◌<◌, ◌≤◌, List, [], ◌∷◌, ◌++◌, length, true, false, refl, sym, ap, ◌∙◌, subst, arith, slice_index, slice_set}
use Rattle.std.proofs.lemmas.List.{get_or_append_left, get_or-append-add, get_or-set_same, get_or-set_other, length-append, length-set}
use Rattle.std.proofs.lemmas.Bool.Decides.{eqb_tells}
use Rattle.std.proofs.Math.Dec.{eqb}
use Rattle.hp_control.specs.Places.{AreChained, Chained, IsLastOf, chain_of}

-- the last of a list with one more
at_end : (xs : List ℕ) (x i : ℕ) → i ≡ length xs → slice_index (xs ++ x ∷ []) i ≡ x
at_end xs x i e =
    let here : i ≡ length xs + 0 = omega (arith, e) in
    ap (slice_index (xs ++ x ∷ [])) here ∙ get_or-append-add xs (x ∷ []) 0 0

-- below the end, or at it
below_or_at : (i n : ℕ) → i < n + 1 → (i < n) ⊎ (i ≡ n)
below_or_at i n h = go (eqb_tells i n)
  where
    go : ((eqb i n ≡ true) × (i ≡ n)) ⊎ ((eqb i n ≡ false) × (i ≢ n)) → (i < n) ⊎ (i ≡ n)
    go (inl t) = inr t.1
    go (inr t) = inl (omega (arith, t.1, h))

module _ (chains : ℕ) (hashes : List ℕ) (hash : ℕ) where
  abbrev pub so_far : Chained
  so_far = record { chains = chains; hashes = hashes }

  abbrev pub with_more : Chained
  with_more = record { chains = chains; hashes = hashes ++ hash ∷ [] }

  -- a hash behind them changes nothing before an end
  pub last_stays : (chain end place : ℕ) → end ≤ length hashes → IsLastOf so_far chain end place → IsLastOf with_more chain end place
  last_stays chain end place within h = (
    h.0,
    λ i from to same. h.1 i from to (ap (chain_of chains) (sym (get_or_append_left hashes (hash ∷ []) 0 i (omega (arith, to, within)))) ∙ same),
    λ some. ap (chain_of chains) (get_or_append_left hashes (hash ∷ []) 0 (place - 1) (omega (arith, some, within, h.0))) ∙ h.2 some,
  )

  -- one of another chain leaves a chain's last
  pub last_other : (chain place : ℕ) → chain_of chains hash ≢ chain → IsLastOf so_far chain (length hashes) place → IsLastOf with_more chain (length hashes + 1) place
  last_other chain place other h = (omega (arith, h.0), λ i from to. go i from (below_or_at i (length hashes) to), (last_stays chain (length hashes) place (omega arith) h).2)
    where
      go : (i : ℕ) → place ≤ i → (i < length hashes) ⊎ (i ≡ length hashes) → chain_of chains (slice_index (hashes ++ hash ∷ []) i) ≢ chain
      go i from (inl to) = (last_stays chain (length hashes) place (omega arith) h).1 i from to
      go i from (inr e) = λ same. other (ap (chain_of chains) (sym (at_end hashes hash i e)) ∙ same)

  -- one of that chain is its last
  pub last_here : IsLastOf with_more (chain_of chains hash) (length hashes + 1) (length hashes + 1)
  last_here = (omega arith, λ i from to. absurd (omega (arith, from, to)), λ some. ap (chain_of chains) (at_end hashes hash (length hashes + 1 - 1) (omega arith)))

-- one hash more, before which its chain's last one stands, and which is the last one so_far
pub chained_more : (hashes before last : List ℕ) (hash chain place count : ℕ) → AreChained hashes before last → chain ≡ chain_of (length last) hash → chain < length last → place ≡ slice_index last chain → count ≡ length hashes + 1 → AreChained (hashes ++ hash ∷ []) (before ++ place ∷ []) (slice_set last chain count)
chained_more hashes before last hash chain place count h of within was is = (
  omega (arith, h.0, many),
  omega (arith, h.1, length-append hashes (hash ∷ []), length-append before (place ∷ [])),
  λ other below. subst (λ chains. IsLastOf (record { chains = chains; hashes = hashes ++ hash ∷ [] }) other (length (hashes ++ hash ∷ [])) (slice_index (slice_set last chain count) other)) (sym many)
      (subst (λ end. IsLastOf (with_more (length last) hashes hash) other end (slice_index (slice_set last chain count) other)) (sym longer) (at other (omega (arith, below, many)) (eqb_tells other chain))),
  λ i below. subst (λ chains. IsLastOf (record { chains = chains; hashes = hashes ++ hash ∷ [] }) (chain_of chains (slice_index (hashes ++ hash ∷ []) i)) i (slice_index (before ++ place ∷ []) i)) (sym many)
      (each i (below_or_at i (length hashes) (omega (arith, below, longer)))),
)
  where
    many : length (slice_set last chain count) ≡ length last
    many = length-set last chain count

    longer : length (hashes ++ hash ∷ []) ≡ length hashes + 1
    longer = length-append hashes (hash ∷ [])

    at : (other : ℕ) → other < length last → ((eqb other chain ≡ true) × (other ≡ chain)) ⊎ ((eqb other chain ≡ false) × (other ≢ chain)) → IsLastOf (with_more (length last) hashes hash) other (length hashes + 1) (slice_index (slice_set last chain count) other)
    at other below (inl t) =
        let told : slice_index (slice_set last chain count) other ≡ length hashes + 1 = ap (slice_index (slice_set last chain count)) t.1 ∙ (get_or-set_same last chain count 0 within ∙ is) in
        let P : ℕ → ℕ → Type 0 = λ c p. IsLastOf (with_more (length last) hashes hash) c (length hashes + 1) p in
        subst (λ p. P other p) (sym told) (subst (λ c. P c (length hashes + 1)) (sym (t.1 ∙ of)) (last_here (length last) hashes hash))
    at other below (inr t) =
        let P : ℕ → Type 0 = λ p. IsLastOf (with_more (length last) hashes hash) other (length hashes + 1) p in
        subst P (sym (get_or-set_other last chain other count 0 t.1)) (last_other (length last) hashes hash other (slice_index last other) (λ e. t.1 (sym e ∙ sym of)) (h.2 other below))

    each : (i : ℕ) → (i < length hashes) ⊎ (i ≡ length hashes) → IsLastOf (with_more (length last) hashes hash) (chain_of (length last) (slice_index (hashes ++ hash ∷ []) i)) i (slice_index (before ++ place ∷ []) i)
    each i (inl to) =
        let P : ℕ → ℕ → Type 0 = λ x p. IsLastOf (with_more (length last) hashes hash) (chain_of (length last) x) i p in
        let e = get_or_append_left hashes (hash ∷ []) 0 i to in
        let d = get_or_append_left before (place ∷ []) 0 i (omega (arith, to, h.1)) in
        subst (λ p. P (slice_index (hashes ++ hash ∷ []) i) p) (sym d) (subst (λ x. P x (slice_index before i)) (sym e)
        (last_stays (length last) hashes hash (chain_of (length last) (slice_index hashes i)) i (slice_index before i) (omega (arith, to)) (h.3 i to)))
    each i (inr e) =
        let P : ℕ → ℕ → ℕ → Type 0 = λ x end p. IsLastOf (with_more (length last) hashes hash) (chain_of (length last) x) end p in
        let there = last_stays (length last) hashes hash chain (length hashes) place (omega arith) (subst (λ p. IsLastOf (so_far (length last) hashes hash) chain (length hashes) p) (sym was) (h.2 chain within)) in
        subst (λ x. P x i (slice_index (before ++ place ∷ []) i)) (sym (at_end hashes hash i e))
        (subst (λ p. P hash i p) (sym (at_end before place i (e ∙ sym h.1)))
        (subst (λ end. P hash end place) (sym e) (subst (λ c. IsLastOf (with_more (length last) hashes hash) c (length hashes) place) of there)))

-- no hash at all, and no chain has any
pub chained_none : (last : List ℕ) → 0 < length last → ((i : ℕ) → slice_index last i ≡ 0) → AreChained [] [] last
chained_none last some none = (some, refl, λ chain below. subst (λ p. IsLastOf (record { chains = length last; hashes = [] }) chain 0 p) (sym (none chain)) (omega arith, λ i from to. absurd (omega (arith, to)), λ more. absurd (omega (arith, more))), λ i to. absurd (omega (arith, to)))

pub chained_put : (hashes before last : List ℕ) (hash chain place count : ℕ) (more longer : List ℕ) → AreChained hashes before last → more ≡ hashes ++ hash ∷ [] → longer ≡ before ++ place ∷ [] → chain ≡ chain_of (length last) hash → chain < length last → place ≡ slice_index last chain → count ≡ length more → AreChained more longer (slice_set last chain count)
chained_put hashes before last hash chain place count more longer h grown stood of within was is =
    let P : List ℕ → List ℕ → Type 0 = λ m l. AreChained m l (slice_set last chain count) in
    let counted : count ≡ length hashes + 1 = is ∙ (ap length grown ∙ length-append hashes (hash ∷ [])) in
    subst (λ m. P m longer) (sym grown) (subst (P (hashes ++ hash ∷ [])) (sym stood) (chained_more hashes before last hash chain place count h of within was counted))
