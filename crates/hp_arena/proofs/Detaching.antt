-- An element is taken out of its list of children.
use Rattle.std.proofs.Common.{◌≡◌, ◌≢◌, ℕ, ◌+◌, ◌<◌, List, length, map, filter, not, arith, sym, ap, ◌∙◌, subst, Bool, false, [], ◌∷◌, refl, ◌==◌}
use Rattle.std.proofs.lemmas.Bool.{cond_both, cond-true, eq-eqb}
use Rattle.hp_control.specs.Tree.{Item, is_element, detached}
use Rattle.hp_arena.specs.Ring.{Path, unlinked}
use Rattle.hp_arena.specs.Nodes.{links_of, kind_of, stops, inside, IsRinged, SameKinds, IsRelinked}
use Rattle.hp_arena.specs.Shape.{IsTree, IsListed, item_of, kind_item, branches_of}
use Rattle.hp_store.specs.Lists.{node_of}
use Rattle.hp_store.specs.declared.node.Node.{Node}
use Rattle.hp_store.specs.declared.node.Kind.TheVariants.{End, Element}
use Rattle.hp_store.specs.Store.{Element as ElementOf}
use Rattle.hp_arena.proofs.Paths.{without_node, Path-unlinked, in-without_node}
use Rattle.hp_arena.proofs.Rings.{Turns, Turns-unlinked, alone-unlinked}
use Rattle.hp_arena.proofs.Walks.{Inner, inside-inner}
use Rattle.hp_arena.proofs.Shapes.{Rewired, Inner-same, inside-rewired, IsTree-rewired, branches-each, map-without_node, AreLeaves, IsAmong}

-- a list of children ends at no element
pub end-not_node : (nodes : List Node) (elements : List ElementOf) (leaves : ℕ) → IsTree nodes elements leaves → (j id : ℕ) → j < length elements → id < length elements → node_of elements j + 1 ≢ node_of elements id
end-not_node nodes elements leaves t j id hj hid same =
    let k : End j ≡ Element id = sym (t.end j hj) ∙ ap (kind_of nodes) same ∙ t.element id hid in cc k

pub node-below : (nodes : List Node) (elements : List ElementOf) (leaves : ℕ) → IsTree nodes elements leaves → (id : ℕ) → id < length elements → node_of elements id < length nodes
node-below nodes elements leaves t id h = omega (arith, t.end_in id h)

pub Inner-without_node : (stop : ℕ → Bool) (node : ℕ) (xs : List ℕ) → Inner stop xs → Inner stop (without_node node xs)
Inner-without_node stop node [] i = tt
Inner-without_node stop node (x ∷ xs) i =
    let rest : Inner stop (without_node node xs) = Inner-without_node stop node xs i.1 in
    cond_both (x == node) (without_node node xs) (x ∷ without_node node xs) (λ ys. Inner stop ys) (λ e. rest) (λ e. (i.0, rest))

-- the node of a changed list of nodes means what it meant
pub map-same_items : (old new : List Node) (leaves : List Item) → SameKinds old new → (xs : List ℕ) → map (item_of new leaves) xs ≡ map (item_of old leaves) xs
map-same_items old new leaves same [] = refl
map-same_items old new leaves same (x ∷ xs) =
    let first : item_of new leaves x ≡ item_of old leaves x = ap (kind_item leaves) (same.kind x) in
    let rest : map (item_of new leaves) xs ≡ map (item_of old leaves) xs = map-same_items old new leaves same xs in cc

pub turns : (nodes : List Node) → IsRinged nodes → (s : ℕ) → s < length nodes → Turns (links_of nodes) s
turns nodes r s h = record { after = r.after s h; before = r.before s h }

pub IsRinged-from : (nodes : List Node) → ((s : ℕ) → s < length nodes → Turns (links_of nodes) s) → IsRinged nodes
IsRinged-from nodes all = record { after = λ s h. (all s h).after; before = λ s h. (all s h).before }

module _ (old new : List Node) (elements : List ElementOf) (leaves : List Item) (t : IsTree old elements (length leaves)) (id : ℕ) (h : id < length elements)
    (relinked : IsRelinked old new (unlinked (links_of old) (node_of elements id))) where
  node_in : node_of elements id < length old
  node_in = node-below old elements (length leaves) t id h

  ringed : IsRinged new
  ringed = IsRinged-from new (λ s hs. subst (λ l. Turns l s) (sym relinked.links_are)
      (Turns-unlinked (links_of old) (node_of elements id) s (turns old t.ringed (node_of elements id) node_in) (turns old t.ringed s (subst (λ n. s < n) relinked.same.count hs))))

  pub without : ℕ → List ℕ
  without j = without_node (node_of elements id) (inside old (node_of elements j + 1))

  rewired : Rewired new elements without
  unfolding without
  rewired = record {
    path = λ j hj.
        let apart : node_of elements j + 1 ≢ node_of elements id = end-not_node old elements (length leaves) t j id hj h in
        subst (λ l. Path l (node_of elements j + 1) (without_node (node_of elements id) (inside old (node_of elements j + 1))) (node_of elements j + 1)) (sym relinked.links_are)
        (Path-unlinked (links_of old) (node_of elements j + 1) (inside old (node_of elements j + 1)) (node_of elements j + 1) (node_of elements id)
        (t.ring j hj) (t.ringed.before (node_of elements id) node_in) (t.ringed.after (node_of elements id) node_in) apart apart);
    inner = λ j hj. Inner-same old new relinked.same (without_node (node_of elements id) (inside old (node_of elements j + 1)))
        (Inner-without_node (stops old) (node_of elements id) (inside old (node_of elements j + 1)) (inside-inner old (node_of elements j + 1)));
  }

  turns_node : Turns (links_of old) (node_of elements id)
  turns_node = turns old t.ringed (node_of elements id) node_in

  alone-still : (s : ℕ) → (links_of old).next s ≡ s → (links_of new).next s ≡ s
  alone-still s e = subst (λ l. l.next s ≡ s) (sym relinked.links_are) (alone-unlinked (links_of old) (node_of elements id) s turns_node e)

  pub lone : (links_of new).next (node_of elements id) ≡ node_of elements id
  lone = ap (λ l. l.next (node_of elements id)) relinked.links_are ∙ cond-true _ _ _ (eq-eqb (node_of elements id) (node_of elements id) refl)

  listed : (s : ℕ) → stops old s ≡ false → (links_of new).next s ≢ s → IsAmong elements without s
  unfolding without
  listed s i apart =
      let there : IsListed old elements s = t.listed s i (λ e. apart (alone-still s e)) in
      let other : s ≢ node_of elements id = λ same. apart (ap (links_of new).next same ∙ lone ∙ sym same) in
      (there.0, (there.1.0, in-without_node s (node_of elements id) (inside old (node_of elements there.0 + 1)) other there.1.1))

  pub IsTree-detached : IsTree new elements (length leaves)
  IsTree-detached = IsTree-rewired old new elements (length leaves) without t relinked.same relinked.closed ringed rewired listed (λ some. alone-still (node_of elements 0) (t.root some))

  pub branches-detached : AreLeaves leaves → branches_of new elements leaves ≡ detached (branches_of old elements leaves) id
  unfolding without
  branches-detached plain = branches-each old new elements leaves leaves (filter (λ item. not (is_element id item))) (λ j hj.
      ap (map (item_of new leaves)) (inside-rewired old new elements (length leaves) without t relinked.same rewired j hj)
      ∙ map-same_items old new leaves relinked.same (without_node (node_of elements id) (inside old (node_of elements j + 1)))
      ∙ map-without_node old elements leaves plain t id h (inside old (node_of elements j + 1)) (inside-inner old (node_of elements j + 1)))
