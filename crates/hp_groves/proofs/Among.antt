-- Which ids an edit names and touches.
use Rattle.std.proofs.Common.{◌≡◌, ℕ, zero, suc, ◌+◌, Bool, true, false, ◌==◌, List, [], ◌∷◌, ◌++◌, sym, ap, ◌∙◌, subst, inl, inr, arith}
use Rattle.std.specs.Prelude.{if◌then◌else◌}
use Rattle.std.specs.List.{flat_map, list_any, list_all}
use Rattle.std.proofs.lemmas.Bool.{and_parts, cond-true, eq-eqb, eqb-true, or_cases, or_left, or_parts, or_right, false≢true}
use Rattle.std.proofs.lemmas.List.Folds.{list_any-append}
use Rattle.hp_control.specs.declared.edit.Edit.{Edit}
use Rattle.hp_control.specs.declared.edit.Edit.TheVariants.{NewElement, Put, Detach, MoveChildren, AddMissing}
use Rattle.hp_control.specs.Tree.{Tree, is_element, stands_in}
use Rattle.hp_groves.specs.Split.{child_ids, ids, is_among, moved, parent_id, parents_from, parents_named, parents_touched, table_ids}

-- no id passes a test that none of the list passes, and each passes one that all pass
pub among-none : (test : ℕ → Bool) (xs : List ℕ) → list_any test xs ≡ false → (x : ℕ) → is_among xs x ≡ true → test x ≡ false
among-none test [] h x m = absurd (false≢true m)
among-none test (y ∷ ys) h x m =
    let parts = or_parts (test y) (list_any test ys) h in
    elim (or_cases (y == x) (is_among ys x) m) [
      | inl same ↦ ap test (sym (eqb-true y x same)) ∙ parts.0
      | inr later ↦ among-none test ys parts.1 x later
    ]

pub among-all : (test : ℕ → Bool) (xs : List ℕ) → list_all test xs ≡ true → (x : ℕ) → is_among xs x ≡ true → test x ≡ true
among-all test [] h x m = absurd (false≢true m)
among-all test (y ∷ ys) h x m =
    let parts = and_parts (test y) (list_all test ys) h in
    elim (or_cases (y == x) (is_among ys x) m) [
      | inl same ↦ ap test (sym (eqb-true y x same)) ∙ parts.0
      | inr later ↦ among-all test ys parts.1 x later
    ]

pub among-left : (xs ys : List ℕ) (x : ℕ) → is_among xs x ≡ true → is_among (xs ++ ys) x ≡ true
among-left xs ys x m = list_any-append (λ y. y == x) xs ys ∙ or_left (is_among xs x) (is_among ys x) m

pub among-right : (xs ys : List ℕ) (x : ℕ) → is_among ys x ≡ true → is_among (xs ++ ys) x ≡ true
among-right xs ys x m = list_any-append (λ y. y == x) xs ys ∙ or_right (is_among xs x) (is_among ys x) m

-- what is touched by name is named
pub moved-named : (e : Edit) (x : ℕ) → is_among (moved e) x ≡ true → is_among (ids e) x ≡ true
moved-named (NewElement tag) x m = m
moved-named (Put c place) x m = among-left (child_ids c ++ table_ids place) (parent_id place ∷ []) x m
moved-named (Detach node) x m = m
moved-named (MoveChildren from to) x m = absurd (false≢true m)
moved-named (AddMissing node more) x m = absurd (false≢true m)

pub parents-named : (e : Edit) (x : ℕ) → is_among (parents_named e) x ≡ true → is_among (ids e) x ≡ true
parents-named (NewElement tag) x m = m
parents-named (Put c place) x m = among-right (child_ids c ++ table_ids place) (parent_id place ∷ []) x m
parents-named (Detach node) x m = absurd (false≢true m)
parents-named (MoveChildren from to) x m = m
parents-named (AddMissing node more) x m = absurd (false≢true m)

-- an element is among the parents of what stands among its children
parent-from : (first : ℕ) (t : Tree) (id i : ℕ) → stands_in t i id ≡ true → is_among (parents_from first t id) (first + i) ≡ true
parent-from first [] id i h = absurd (false≢true h)
parent-from first (b ∷ bs) id zero h =
    let same : first ≡ first + 0 = omega arith in
    among-left (if list_any (is_element id) b.inside then first ∷ [] else []) (parents_from (first + 1) bs id) (first + 0)
    (ap (λ xs. is_among xs (first + 0)) (cond-true (list_any (is_element id) b.inside) (first ∷ []) [] h) ∙ or_left (first == first + 0) false (eq-eqb first (first + 0) same))
parent-from first (b ∷ bs) id (suc i) h =
    let same : first + 1 + i ≡ first + suc i = omega arith in
    among-right (if list_any (is_element id) b.inside then first ∷ [] else []) (parents_from (first + 1) bs id) (first + suc i)
    (subst (λ k. is_among (parents_from (first + 1) bs id) k ≡ true) same (parent-from (first + 1) bs id i h))

among-flat : (f : ℕ → List ℕ) (xs : List ℕ) (x y : ℕ) → is_among xs x ≡ true → is_among (f x) y ≡ true → is_among (flat_map f xs) y ≡ true
among-flat f [] x y m k = absurd (false≢true m)
among-flat f (z ∷ zs) x y m k =
    elim (or_cases (z == x) (is_among zs x) m) [
      | inl same ↦ among-left (f z) (flat_map f zs) y (ap (λ w. is_among (f w) y) (eqb-true z x same) ∙ k)
      | inr later ↦ among-right (f z) (flat_map f zs) y (among-flat f zs x y later k)
    ]

pub touched-named : (t : Tree) (e : Edit) (q : ℕ) → is_among (parents_named e) q ≡ true → is_among (parents_touched t e) q ≡ true
touched-named t e q m = among-left (parents_named e) (flat_map (parents_from 0 t) (moved e)) q m

pub touched-parent : (t : Tree) (e : Edit) (c q : ℕ) → is_among (moved e) c ≡ true → stands_in t q c ≡ true → is_among (parents_touched t e) q ≡ true
touched-parent t e c q m h =
    let same : 0 + q ≡ q = omega arith in
    among-right (parents_named e) (flat_map (parents_from 0 t) (moved e)) q
    (among-flat (parents_from 0 t) (moved e) c q m (subst (λ k. is_among (parents_from 0 t c) k ≡ true) same (parent-from 0 t c q h)))
