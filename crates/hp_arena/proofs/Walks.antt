-- A path to an end is what a walk finds.
use Rattle.std.proofs.Common.{◌≡◌, ℕ, zero, suc, ◌<◌, ◌≤◌, List, [], ◌∷◌, length, eqb, ◌==◌, Bool, true, false, arith, sym, refl, ap, ◌∙◌, subst, inl, inr}
use Rattle.std.specs.List.{IsDistinct, AllByRecursion, list_any}
use Rattle.std.proofs.lemmas.Bool.{cond_both, eqb-true, true≢false, cases_Bool, cases_lt, or_parts, or_cases, false_from_ne_true, cond-true, cond-false}
use Rattle.std.proofs.lemmas.Map.Steps.{length-le_from_distinct_below}
use Rattle.std.proofs.lemmas.List.{get_or_past}
use Rattle.hp_arena.specs.Ring.{Links, Path}
use Rattle.hp_arena.specs.Nodes.{links_of, is_end, stops, walk, inside}
use Rattle.hp_store.specs.Lists.{blank}
use Rattle.hp_store.specs.declared.node.Node.{Node}

-- none of these is an end
abbrev pub Inner : (ℕ → Bool) → List ℕ → Type 0
Inner stop [] = Unit {0}
Inner stop (x ∷ xs) = (stop x ≡ false) × Inner stop xs

-- from a node one comes to an end by one path
pub Path-same : (l : Links) (stop : ℕ → Bool) (from : ℕ) (xs ys : List ℕ) (a b : ℕ) → Path l from xs a → Path l from ys b → Inner stop xs → Inner stop ys → stop a ≡ true → stop b ≡ true → xs ≡ ys
Path-same l stop from [] [] a b p q ix iy ea eb = refl
Path-same l stop from [] (y ∷ ys) a b p q ix iy ea eb = absurd (true≢false (sym ea ∙ ap stop (sym p.ahead ∙ q.0.ahead) ∙ iy.0))
Path-same l stop from (x ∷ xs) [] a b p q ix iy ea eb = absurd (true≢false (sym eb ∙ ap stop (sym q.ahead ∙ p.0.ahead) ∙ ix.0))
Path-same l stop from (x ∷ xs) (y ∷ ys) a b p q ix iy ea eb =
    let same : x ≡ y = sym p.0.ahead ∙ q.0.ahead in
    let q' : Path l x ys b = subst (λ z. Path l z ys b) (sym same) q.1 in
    let rest : xs ≡ ys = Path-same l stop x xs ys a b p.1 q' ix.1 iy.1 ea eb in cc

-- the part of a path from one of its nodes on
pub record Later (l : Links) (stop : ℕ → Bool) (from : ℕ) (n to : ℕ) : Type 0 where
  pub nodes : List ℕ
  pub path : Path l from nodes to
  pub inner : Inner stop nodes
  pub shorter : length nodes < n

pub Path-later : (l : Links) (stop : ℕ → Bool) (from : ℕ) (xs : List ℕ) (to x : ℕ) → Path l from xs to → Inner stop xs → list_any (λ y. x == y) xs ≡ true → Later l stop x (length xs) to
Path-later l stop from [] to x p i h = absurd (true≢false (sym h))
Path-later l stop from (y ∷ ys) to x p i h =
    elim (cases_Bool (x == y)) [
      | inl e ↦ record { nodes = ys; path = subst (λ z. Path l z ys to) (sym (eqb-true x y e)) p.1; inner = i.1; shorter = omega arith }
      | inr e ↦
          let h' : list_any (λ z. x == z) ys ≡ true = rw e at h in
          let later : Later l stop x (length ys) to = Path-later l stop y ys to x p.1 i.1 h' in
          record { nodes = later.nodes; path = later.path; inner = later.inner; shorter = omega (arith, later.shorter) }
    ]

none-equal : (x : ℕ) (xs : List ℕ) → list_any (λ y. x == y) xs ≡ false → AllByRecursion (λ y. eqb x y ≡ false) xs
none-equal x [] h = tt
none-equal x (y ∷ ys) h = let parts = or_parts (x == y) (list_any (λ z. x == z) ys) h in (parts.0, none-equal x ys parts.1)

-- no node comes twice on a path to an end
pub Path-distinct : (l : Links) (stop : ℕ → Bool) (from : ℕ) (xs : List ℕ) (to : ℕ) → Path l from xs to → Inner stop xs → stop to ≡ true → IsDistinct eqb xs
unfolding IsDistinct
Path-distinct l stop from [] to p i e = tt
Path-distinct l stop from (x ∷ xs) to p i e = (
  none-equal x xs (false_from_ne_true (list_any (λ y. x == y) xs) (λ again.
      let later : Later l stop x (length xs) to = Path-later l stop x xs to x p.1 i.1 again in
      let same : xs ≡ later.nodes = Path-same l stop x xs later.nodes to to p.1 later.path i.1 later.inner e e in
      let less : length later.nodes < length xs = later.shorter in
      let equal : length xs ≡ length later.nodes = ap length same in omega arith)),
  Path-distinct l stop x xs to p.1 i.1 e,
)

pub inner-below : (nodes : List Node) (s : ℕ) → stops nodes s ≡ false → s < length nodes
inner-below nodes s h =
    elim (cases_lt s (length nodes)) [
      | inl below ↦ below
      | inr past ↦ absurd (true≢false (sym (ap (λ n. is_end n.kind) (get_or_past nodes s blank past)) ∙ h))
    ]

Inner-below : (nodes : List Node) (xs : List ℕ) → Inner (stops nodes) xs → (q : ℕ) → list_any (eqb q) xs ≡ true → q < length nodes
Inner-below nodes [] i q h = absurd (true≢false (sym h))
Inner-below nodes (x ∷ xs) i q h =
    elim (or_cases (eqb q x) (list_any (eqb q) xs) h) [
      | inl e ↦ subst (λ z. z < length nodes) (sym (eqb-true q x e)) (inner-below nodes x i.0)
      | inr more ↦ Inner-below nodes xs i.1 q more
    ]

-- a list of children has at most as many nodes as there are
pub Path-length : (nodes : List Node) (from : ℕ) (xs : List ℕ) (to : ℕ) → Path (links_of nodes) from xs to → Inner (stops nodes) xs → stops nodes to ≡ true → length xs ≤ length nodes
Path-length nodes from xs to p i e =
    length-le_from_distinct_below xs (length nodes) (Path-distinct (links_of nodes) (stops nodes) from xs to p i e) (Inner-below nodes xs i)

walk-path : (nodes : List Node) (from : ℕ) (xs : List ℕ) (to left : ℕ) → Path (links_of nodes) from xs to → Inner (stops nodes) xs → stops nodes to ≡ true → length xs ≤ left → walk nodes left ((links_of nodes).next from) ≡ xs
unfolding walk
walk-path nodes from [] to zero p i e h = refl
walk-path nodes from [] to (suc left) p i e h = cond-true _ _ _ (ap (stops nodes) p.ahead ∙ e)
walk-path nodes from (x ∷ xs) to zero p i e h = absurd (omega arith)
walk-path nodes from (x ∷ xs) to (suc left) p i e h =
    let rest : walk nodes left ((links_of nodes).next x) ≡ xs = walk-path nodes x xs to left p.1 i.1 e (omega arith) in
    cond-false _ _ _ (ap (stops nodes) p.0.ahead ∙ i.0) ∙ ap (λ y. y ∷ walk nodes left ((links_of nodes).next y)) p.0.ahead ∙ ap (λ ys. x ∷ ys) rest

-- what a ring has is what stands in the list of children
pub inside-path : (nodes : List Node) (end : ℕ) (xs : List ℕ) → Path (links_of nodes) end xs end → Inner (stops nodes) xs → stops nodes end ≡ true → inside nodes end ≡ xs
unfolding inside
inside-path nodes end xs p i e = walk-path nodes end xs end (length nodes) p i e (Path-length nodes end xs end p i e)

walk-inner : (nodes : List Node) (left s : ℕ) → Inner (stops nodes) (walk nodes left s)
unfolding walk
walk-inner nodes zero s = tt
walk-inner nodes (suc left) s =
    cond_both (stops nodes s) [] (s ∷ walk nodes left ((links_of nodes).next s)) (λ ys. Inner (stops nodes) ys) (λ e. tt) (λ e. (e, walk-inner nodes left ((links_of nodes).next s)))

-- no end stands in a list of children
pub inside-inner : (nodes : List Node) (end : ℕ) → Inner (stops nodes) (inside nodes end)
unfolding inside
inside-inner nodes end = walk-inner nodes (length nodes) ((links_of nodes).next end)
