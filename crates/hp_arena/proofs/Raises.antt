-- The numbers of a grove fit their types when they are raised.
use Rattle.std.proofs.Common.{◌≡◌, ℕ, suc, ◌+◌, ◌<◌, ◌≤◌, ◌^◌, List, [], ◌∷◌, length, map, drop, refl, sym, ap, ◌∙◌, subst, arith, inl, inr}
use Rattle.std.proofs.lemmas.Bool.{cases_eq}
use Rattle.std.proofs.lemmas.List.{get_or-set_same, get_or-set_other, length-set}
use Rattle.hp_store.specs.Grafting.{retired}
use Rattle.hp_store.specs.Grafting as wrapped
use Rattle.hp_store.specs.Lists.{node_at, node_of, blank}
use Rattle.hp_store.specs.Numbers.{counted}
use Rattle.hp_store.specs.Store.{Element as ElementOf}
use Rattle.hp_store.specs.declared.node.Counts.{Counts}
use Rattle.hp_store.specs.declared.node.Kind.{Kind}
use Rattle.hp_store.specs.declared.node.Kind.TheVariants.{End, Element, Leaf}
use Rattle.hp_store.specs.declared.node.Node.{Node}
use Rattle.hp_arena.specs.Nodes.{kind_of}
use Rattle.hp_arena.specs.Shape.{IsTree, IsAtHome}
use Rattle.hp_arena.proofs.Grafting.{raised_kind, raised_node, raised_element, KindFits, NodeFits}

kind-fits : (elements : List ElementOf) (leaves s : ℕ) (rise : Counts) (k : Kind) → length elements + rise.elements ≤ 2 ^ 32 → leaves + rise.leaves ≤ 2 ^ 32 → IsAtHome elements leaves s k → KindFits rise k
kind-fits elements leaves s rise (End id) he hl h = omega arith
kind-fits elements leaves s rise (Element id) he hl h = omega (arith, h.0)
kind-fits elements leaves s rise (Leaf number) he hl h = omega arith

nodes-fit : (nodes : List Node) (elements : List ElementOf) (leaves : ℕ) (rise : Counts) → IsTree nodes elements leaves → length nodes + rise.nodes ≤ 2 ^ 32 → length elements + rise.elements ≤ 2 ^ 32 → leaves + rise.leaves ≤ 2 ^ 32
    → (s : ℕ) → s < length nodes → NodeFits rise (node_at nodes s)
nodes-fit nodes elements leaves rise t hn he hl s h = record {
  prev = omega (arith, t.closed.prev s h);
  next = omega (arith, t.closed.next s h);
  kind = kind-fits elements leaves s rise (kind_of nodes s) he hl (t.home s h);
}

-- also where one is an end of no list
retired-fit : (nodes : List Node) (rise : Counts) (node : ℕ) → node < length nodes → rise.elements < 2 ^ 32 → ((s : ℕ) → s < length nodes → NodeFits rise (node_at nodes s)) → (s : ℕ) → s < length nodes → NodeFits rise (node_at (retired nodes node) s)
retired-fit nodes rise node there few all s h =
    let left : Node = record { prev = (node_at nodes node).prev; next = (node_at nodes node).next; kind = End 0 } in
    elim (cases_eq s node) [
      | inl same ↦
          subst (λ n. NodeFits rise (node_at (retired nodes node) n)) (sym same)
          (subst (NodeFits rise) (sym (get_or-set_same nodes node left blank there)) (record { prev = (all node there).prev; next = (all node there).next; kind = omega arith }))
      | inr other ↦ subst (NodeFits rise) (sym (get_or-set_other nodes node s left blank other)) (all s h)
    ]

-- numbers that fit don't wrap
counted-is : (from on : ℕ) → on + from < 2 ^ 32 → counted from on ≡ on + from
counted-is from on h = omega arith

kind-raised : (rise : Counts) (k : Kind) → KindFits rise k → wrapped.raised_kind rise k ≡ raised_kind rise k
kind-raised rise (End id) h = ap End (counted-is rise.elements id h)
kind-raised rise (Element id) h = ap Element (counted-is rise.elements id h)
kind-raised rise (Leaf number) h = ap Leaf (counted-is rise.leaves number h)

make_node : ℕ → ℕ → Kind → Node
make_node prev next kind = record { prev = prev; next = next; kind = kind }

node-raised : (rise : Counts) (n : Node) → NodeFits rise n → wrapped.raised_node rise n ≡ raised_node rise n
unfolding make_node
node-raised rise n h =
    ap (λ p. make_node p (counted rise.nodes n.next) (wrapped.raised_kind rise n.kind)) (counted-is rise.nodes n.prev h.prev)
    ∙ ap (λ p. make_node (n.prev + rise.nodes) p (wrapped.raised_kind rise n.kind)) (counted-is rise.nodes n.next h.next)
    ∙ ap (λ k. make_node (n.prev + rise.nodes) (n.next + rise.nodes) k) (kind-raised rise n.kind h.kind)

all-raised : (nodes : List Node) (rise : Counts) → ((s : ℕ) → s < length nodes → NodeFits rise (node_at nodes s)) → map (wrapped.raised_node rise) nodes ≡ map (raised_node rise) nodes
all-raised [] rise h = refl
all-raised (n ∷ nodes) rise h =
    let first : wrapped.raised_node rise n ≡ raised_node rise n = node-raised rise n (h 0 (omega arith)) in
    let rest : map (wrapped.raised_node rise) nodes ≡ map (raised_node rise) nodes = all-raised nodes rise (λ s below. h (suc s) (omega arith)) in
    ap (λ x. x ∷ map (wrapped.raised_node rise) nodes) first ∙ ap (λ xs. raised_node rise n ∷ xs) rest

-- the nodes of a tree of which one is left as an end of no list
pub nodes-raised : (nodes : List Node) (elements : List ElementOf) (leaves : ℕ) (rise : Counts) (node : ℕ) → IsTree nodes elements leaves → node < length nodes → rise.elements < 2 ^ 32
    → length nodes + rise.nodes ≤ 2 ^ 32 → length elements + rise.elements ≤ 2 ^ 32 → leaves + rise.leaves ≤ 2 ^ 32
    → map (wrapped.raised_node rise) (retired nodes node) ≡ map (raised_node rise) (retired nodes node)
nodes-raised nodes elements leaves rise node t there few hn he hl =
    let left : Node = record { prev = (node_at nodes node).prev; next = (node_at nodes node).next; kind = End 0 } in
    all-raised (retired nodes node) rise
    (λ s h. retired-fit nodes rise node there few (nodes-fit nodes elements leaves rise t hn he hl) s (subst (λ n. s < n) (length-set nodes node left) h))

elements-raised : (elements : List ElementOf) (by : ℕ) → ((id : ℕ) → id < length elements → node_of elements id + by < 2 ^ 32) → map (wrapped.raised_element by) elements ≡ map (raised_element by) elements
elements-raised [] by h = refl
elements-raised (e ∷ elements) by h =
    let first : wrapped.raised_element by e ≡ raised_element by e = ap (λ (n : ℕ). record { tag = e.tag; node = n }) (counted-is by e.node (h 0 (omega arith))) in
    let rest : map (wrapped.raised_element by) elements ≡ map (raised_element by) elements = elements-raised elements by (λ id below. h (suc id) (omega arith)) in
    ap (λ x. x ∷ map (wrapped.raised_element by) elements) first ∙ ap (λ xs. raised_element by e ∷ xs) rest

-- the elements of a tree but its document
pub others-raised : (elements : List ElementOf) (by : ℕ) → ((id : ℕ) → id < length elements → node_of elements id + by < 2 ^ 32) → map (wrapped.raised_element by) (drop 1 elements) ≡ drop 1 (map (raised_element by) elements)
others-raised [] by h = refl
others-raised (e ∷ elements) by h = elements-raised elements by (λ id below. h (suc id) (omega arith))
