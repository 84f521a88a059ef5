-- How far an element of a forest stands below the document.
use Rattle.std.proofs.Common.{◌≡◌, ℕ, zero, suc, ◌-◌, ◌<◌, ◌≤◌, List, [], ◌∷◌, length, get_or, arith, refl, sym, ap, subst, eqb, true, false, inl, inr}
use Rattle.std.specs.List.{list_any}
use Rattle.std.proofs.lemmas.Bool.{ne_eqb, eqb-true, or_cases, true≢false}
use Rattle.std.proofs.lemmas.List.{get_or_default}
use Rattle.std.proofs.lemmas.Map.Steps.{length-le_from_distinct_below}
use Rattle.std.proofs.lemmas.Map.Keys.{IsDistinct-from_apart}
use Rattle.hp_control.specs.Tree.{Tree, IsForest}
use Rattle.hp_select.specs.Walk.{IsDeep}

-- an element that is somewhere below the document is there
pub deep-there : (t : Tree) → IsForest t → (level id : ℕ) → IsDeep t level id → id < length t
deep-there t f zero id d = subst (λ z. z < length t) (sym d) f.document
deep-there t f (suc level) id d = f.there d.0 d.1 id d.2.0

-- an element has one depth
one_depth : (t : Tree) → IsForest t → (i j id : ℕ) → IsDeep t i id → IsDeep t j id → i ≡ j
one_depth t f zero zero id a b = refl
one_depth t f zero (suc j) id a b = absurd (let above : 0 < id = f.below b.0 b.1 id b.2.0 in omega arith)
one_depth t f (suc i) zero id a b = absurd (let above : 0 < id = f.below a.0 a.1 id a.2.0 in omega arith)
one_depth t f (suc i) (suc j) id a b =
    let same : a.0 ≡ b.0 = f.one_parent a.0 b.0 a.1 b.1 id a.2.0 b.2.0 in
    ap suc (one_depth t f i j a.0 a.2.1 (subst (λ p. IsDeep t j p) (sym same) b.2.1))

-- the element and those that it stands in
chain : (t : Tree) (level id : ℕ) → IsDeep t level id → List ℕ
chain t zero id d = id ∷ []
chain t (suc level) id d = id ∷ chain t level d.0 d.2.1

length-chain : (t : Tree) (level id : ℕ) (d : IsDeep t level id) → length (chain t level id d) ≡ suc level
unfolding chain
length-chain t zero id d = refl
length-chain t (suc level) id d = ap suc (length-chain t level d.0 d.2.1)

deep-chain : (t : Tree) (level id : ℕ) (d : IsDeep t level id) (k : ℕ) → k ≤ level → IsDeep t (level - k) (get_or (chain t level id d) k 0)
unfolding chain
deep-chain t zero id d zero h = d
deep-chain t (suc level) id d zero h = let e : suc level ≡ suc level - 0 = omega arith in subst (λ k. IsDeep t k id) e d
deep-chain t zero id d (suc k) h = absurd (omega arith)
deep-chain t (suc level) id d (suc k) h =
    subst (λ e. IsDeep t e (get_or (chain t level d.0 d.2.1) k 0)) (omega arith) (deep-chain t level d.0 d.2.1 k (omega arith))

chain-there : (t : Tree) → IsForest t → (level id : ℕ) (d : IsDeep t level id) (q : ℕ) → list_any (eqb q) (chain t level id d) ≡ true → q < length t
unfolding chain
chain-there t f zero id d q e =
    elim (or_cases (eqb q id) false e) [ inl same ↦ subst (λ z. z < length t) (sym (eqb-true q id same)) (deep-there t f zero id d) | inr none ↦ absurd (true≢false (sym none)) ]
chain-there t f (suc level) id d q e =
    elim (or_cases (eqb q id) (list_any (eqb q) (chain t level d.0 d.2.1)) e) [
      | inl same ↦ subst (λ z. z < length t) (sym (eqb-true q id same)) (deep-there t f (suc level) id d)
      | inr more ↦ chain-there t f level d.0 d.2.1 q more
    ]

-- no element is as far below the document as there are elements
pub deep-room : (t : Tree) → IsForest t → (level id : ℕ) → IsDeep t level id → level < length t
deep-room t f level id d =
    let xs = chain t level id d in
    let count : length xs ≡ suc level = length-chain t level id d in
    let few : length xs ≤ length t =
    length-le_from_distinct_below xs (length t)
    (IsDistinct-from_apart eqb xs (λ i j e lt hj.
    ne_eqb (get_or xs i e) (get_or xs j e) (λ same.
    let hi : i < length xs = omega arith in
    let equal : get_or xs i 0 ≡ get_or xs j 0 = rw (get_or_default xs i 0 e hi, get_or_default xs j 0 e hj) same in
    let one : level - i ≡ level - j = one_depth t f (level - i) (level - j) (get_or xs j 0) (subst (λ z. IsDeep t (level - i) z) equal (deep-chain t level id d i (omega arith))) (deep-chain t level id d j (omega arith)) in
    omega arith)))
    (chain-there t f level id d) in
    omega arith
