-- No element stands in two lists of children.
use Rattle.std.proofs.Common.{◌≡◌, ℕ, ◌+◌, ◌<◌, List, [], ◌∷◌, Bool, true, ◌==◌, length, sym, ap, ◌∙◌, subst, inl, inr}
use Rattle.std.specs.List.{list_any}
use Rattle.std.proofs.lemmas.Bool.{true≢false, cases_eq}
use Rattle.hp_arena.specs.Ring.{Links, Path}
use Rattle.hp_arena.specs.Nodes.{links_of, stops, inside}
use Rattle.hp_arena.specs.Shape.{IsTree}
use Rattle.hp_store.specs.Lists.{node_of}
use Rattle.hp_store.specs.declared.node.Node.{Node}
use Rattle.hp_store.specs.Store.{Element as ElementOf}
use Rattle.hp_arena.proofs.Walks.{Inner, Later, Path-later, inside-inner}
use Rattle.hp_arena.proofs.Shapes.{stops-end}
use Rattle.hp_arena.proofs.Intos.{ends-apart}

-- from a node one comes to one end
pub Path-same_end : (l : Links) (stop : ℕ → Bool) (from : ℕ) (xs ys : List ℕ) (a b : ℕ) → Path l from xs a → Path l from ys b → Inner stop xs → Inner stop ys → stop a ≡ true → stop b ≡ true → a ≡ b
Path-same_end l stop from [] [] a b p q ix iy ea eb = sym p.ahead ∙ q.ahead
Path-same_end l stop from [] (y ∷ ys) a b p q ix iy ea eb = absurd (true≢false (sym ea ∙ ap stop (sym p.ahead ∙ q.0.ahead) ∙ iy.0))
Path-same_end l stop from (x ∷ xs) [] a b p q ix iy ea eb = absurd (true≢false (sym eb ∙ ap stop (sym q.ahead ∙ p.0.ahead) ∙ ix.0))
Path-same_end l stop from (x ∷ xs) (y ∷ ys) a b p q ix iy ea eb =
    let same : x ≡ y = sym p.0.ahead ∙ q.0.ahead in
    Path-same_end l stop x xs ys a b p.1 (subst (λ z. Path l z ys b) (sym same) q.1) ix.1 iy.1 ea eb

-- a node stands in one list of children at most
pub one_list : (nodes : List Node) (elements : List ElementOf) (leaves : ℕ) → IsTree nodes elements leaves → (p q s : ℕ) → p < length elements → q < length elements
    → list_any (λ y. s == y) (inside nodes (node_of elements p + 1)) ≡ true → list_any (λ y. s == y) (inside nodes (node_of elements q + 1)) ≡ true → p ≡ q
one_list nodes elements leaves t p q s hp hq a b =
    let first : Later (links_of nodes) (stops nodes) s (length (inside nodes (node_of elements p + 1))) (node_of elements p + 1) =
    Path-later (links_of nodes) (stops nodes) (node_of elements p + 1) (inside nodes (node_of elements p + 1)) (node_of elements p + 1) s (t.ring p hp) (inside-inner nodes (node_of elements p + 1)) a in
    let second : Later (links_of nodes) (stops nodes) s (length (inside nodes (node_of elements q + 1))) (node_of elements q + 1) =
    Path-later (links_of nodes) (stops nodes) (node_of elements q + 1) (inside nodes (node_of elements q + 1)) (node_of elements q + 1) s (t.ring q hq) (inside-inner nodes (node_of elements q + 1)) b in
    let ends : node_of elements p + 1 ≡ node_of elements q + 1 =
    Path-same_end (links_of nodes) (stops nodes) s first.nodes second.nodes (node_of elements p + 1) (node_of elements q + 1) first.path second.path first.inner second.inner (stops-end nodes elements leaves t p hp) (stops-end nodes elements leaves t q hq) in
    elim (cases_eq p q) [ inl same ↦ same | inr other ↦ absurd (ends-apart nodes elements leaves t p q hp hq other ends) ]
