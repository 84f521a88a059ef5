-- A node that is alone is put before the node that a place leads to.
use Rattle.std.proofs.Common.{◌≡◌, ◌≢◌, ℕ, ◌+◌, ◌<◌, List, false, ◌==◌, length, map, refl, sym, ap, ◌∙◌, subst, arith, inl, inr}
use Rattle.std.proofs.lemmas.Bool.{cases_eq, cond-true, cond-false, eq-eqb, ne_eqb}
use Rattle.hp_control.specs.Tree.{Item, put, put_into, put_before, in_each, has_parent, id_of, leads_into_document}
use Rattle.hp_control.specs.declared.edit.Place.{Place}
use Rattle.hp_control.specs.declared.edit.Ref.{Ref}
use Rattle.hp_control.specs.declared.edit.Place.TheVariants.{Into, Foster}
use Rattle.hp_arena.specs.Ring.{inserted}
use Rattle.hp_arena.specs.Nodes.{links_of, stops, inside, IsRelinked, end_from}
use Rattle.hp_arena.specs.Shape.{IsTree, item_of, branches_of, at_of, IsPlaceIn}
use Rattle.hp_store.specs.Lists.{node_of}
use Rattle.hp_store.specs.declared.node.Node.{Node}
use Rattle.hp_store.specs.Store.{Element as ElementOf}
use Rattle.hp_arena.proofs.Detaching.{node-below, end-not_node, map-same_items}
use Rattle.hp_arena.proofs.Fosters.{put_before-path, has_parent-none, has_parent-some, tests-own, distinct, inner-own, stands_in-document}
use Rattle.hp_arena.proofs.Growing.{IsGrown, next-grown}
use Rattle.hp_arena.proofs.Inserting.{IsTree-inserted, inside-inserted}
use Rattle.hp_arena.proofs.Intos.{StaysApart, IsTree-put_into, branches-put_into}
use Rattle.hp_arena.proofs.Shapes.{AreLeaves, branches-each}
use Rattle.hp_arena.proofs.Walks.{inside-inner}

-- a fostered child goes into the other element, or before the table
pub at-alone : (nodes : List Node) (elements : List ElementOf) (table above : Ref) → (links_of nodes).next (node_of elements (id_of table)) ≡ node_of elements (id_of table) → at_of nodes elements (Foster table above) ≡ node_of elements (id_of above) + 1
at-alone nodes elements table above lone = cond-true ((links_of nodes).next (node_of elements (id_of table)) == node_of elements (id_of table)) _ _ (eq-eqb _ _ lone)

pub at-table : (nodes : List Node) (elements : List ElementOf) (table above : Ref) → (links_of nodes).next (node_of elements (id_of table)) ≢ node_of elements (id_of table) → at_of nodes elements (Foster table above) ≡ node_of elements (id_of table)
at-table nodes elements table above away = cond-false ((links_of nodes).next (node_of elements (id_of table)) == node_of elements (id_of table)) _ _ (ne_eqb _ _ away)

pub at-among : (nodes : List Node) (elements : List ElementOf) (n : ℕ) → ((id : ℕ) → id < length elements → node_of elements id + 1 < n) → (place : Place) → IsPlaceIn (length elements) place → at_of nodes elements place < n
at-among nodes elements n below (Into parent) h = below (id_of parent) h
at-among nodes elements n below (Foster table above) h =
    elim (cases_eq ((links_of nodes).next (node_of elements (id_of table))) (node_of elements (id_of table))) [
      | inl lone ↦ subst (λ at. at < n) (sym (at-alone nodes elements table above lone)) (below (id_of above) h.1)
      | inr away ↦ subst (λ at. at < n) (sym (at-table nodes elements table above away)) (omega (arith, below (id_of table) h.0))
    ]

pub at-in : (nodes : List Node) (elements : List ElementOf) (leaves : ℕ) → IsTree nodes elements leaves → (place : Place) → IsPlaceIn (length elements) place → at_of nodes elements place < length nodes
at-in nodes elements leaves t place h = at-among nodes elements (length nodes) t.end_in place h

-- where nodes are added, a place leads where it led
pub at-grown : (old new : List Node) (elements : List ElementOf) (leaves : ℕ) → IsGrown old new → IsTree old elements leaves → (place : Place) → IsPlaceIn (length elements) place → at_of new elements place ≡ at_of old elements place
at-grown old new elements leaves g t (Into parent) h = refl
at-grown old new elements leaves g t (Foster table above) h =
    let same : (links_of new).next (node_of elements (id_of table)) ≡ (links_of old).next (node_of elements (id_of table)) = next-grown old new g (node_of elements (id_of table)) (node-below old elements leaves t (id_of table) h.0) in
    elim (cases_eq ((links_of old).next (node_of elements (id_of table))) (node_of elements (id_of table))) [
      | inl lone ↦ at-alone new elements table above (same ∙ lone) ∙ sym (at-alone old elements table above lone)
      | inr away ↦ at-table new elements table above (λ e. away (sym same ∙ e)) ∙ sym (at-table old elements table above away)
    ]

-- where the table has a parent, the model puts the item before it, and else into the other element
pub put-alone : (nodes : List Node) (elements : List ElementOf) (leaves : List Item) → AreLeaves leaves → IsTree nodes elements (length leaves) → (table above : Ref) → id_of table < length elements → (x : Item)
    → (links_of nodes).next (node_of elements (id_of table)) ≡ node_of elements (id_of table) → put (branches_of nodes elements leaves) x (Foster table above) ≡ put_into (branches_of nodes elements leaves) x (id_of above)
put-alone nodes elements leaves plain t table above h x lone = cond-false (has_parent (branches_of nodes elements leaves) (id_of table)) _ _ (has_parent-none nodes elements leaves plain t (id_of table) h lone)

pub put-table : (nodes : List Node) (elements : List ElementOf) (leaves : List Item) → AreLeaves leaves → IsTree nodes elements (length leaves) → (table above : Ref) → id_of table < length elements → (x : Item)
    → (links_of nodes).next (node_of elements (id_of table)) ≢ node_of elements (id_of table) → put (branches_of nodes elements leaves) x (Foster table above) ≡ in_each (λ items. put_before (id_of table) items x) (branches_of nodes elements leaves)
put-table nodes elements leaves plain t table above h x away = cond-true (has_parent (branches_of nodes elements leaves) (id_of table)) _ _ (has_parent-some nodes elements leaves plain t (id_of table) h away)

-- the document is the parent at a place, as the code finds it
pub leads-alone : (nodes : List Node) (elements : List ElementOf) (leaves : List Item) → AreLeaves leaves → IsTree nodes elements (length leaves) → (table above : Ref) → id_of table < length elements
    → (links_of nodes).next (node_of elements (id_of table)) ≡ node_of elements (id_of table) → leads_into_document (branches_of nodes elements leaves) (Foster table above) ≡ (id_of above == 0)
leads-alone nodes elements leaves plain t table above h lone = cond-false (has_parent (branches_of nodes elements leaves) (id_of table)) _ _ (has_parent-none nodes elements leaves plain t (id_of table) h lone)

pub leads-table : (nodes : List Node) (elements : List ElementOf) (leaves : List Item) → AreLeaves leaves → IsTree nodes elements (length leaves) → (table above : Ref) → id_of table < length elements → 0 < length elements
    → (links_of nodes).next (node_of elements (id_of table)) ≢ node_of elements (id_of table)
    → leads_into_document (branches_of nodes elements leaves) (Foster table above) ≡ (end_from nodes (length nodes) (node_of elements (id_of table)) == node_of elements 0 + 1)
leads-table nodes elements leaves plain t table above h some away =
    cond-true (has_parent (branches_of nodes elements leaves) (id_of table)) _ _ (has_parent-some nodes elements leaves plain t (id_of table) h away)
    ∙ stands_in-document nodes elements leaves plain t (id_of table) h some away

module _ (old new : List Node) (elements : List ElementOf) (leaves : List Item) (plain : AreLeaves leaves) (t : IsTree old elements (length leaves)) (node : ℕ)
    (inner : stops old node ≡ false) (alone : (links_of old).next node ≡ node) (other : 0 < length elements → node_of elements 0 ≢ node) where
  -- before an element that has a parent
  module _ (id : ℕ) (h : id < length elements) (away : (links_of old).next (node_of elements id) ≢ node_of elements id) (relinked : IsRelinked old new (inserted (links_of old) (node_of elements id) node)) where
    apart : node_of elements id ≢ node
    apart same = away (ap (links_of old).next same ∙ alone ∙ sym same)

    at_in : node_of elements id < length old
    at_in = node-below old elements (length leaves) t id h

    pub IsTree-before : IsTree new elements (length leaves)
    IsTree-before = IsTree-inserted old new elements (length leaves) t (node_of elements id) node at_in inner alone apart (inr (inner-own old elements leaves plain t id h, away)) other relinked

    pub branches-before : StaysApart (item_of old leaves ((links_of old).prev (node_of elements id))) (item_of old leaves node)
        → branches_of new elements leaves ≡ in_each (λ items. put_before id items (item_of old leaves node)) (branches_of old elements leaves)
    branches-before stays = branches-each old new elements leaves leaves (λ items. put_before id items (item_of old leaves node)) (λ j hj.
        ap (map (item_of new leaves)) (inside-inserted old new elements (length leaves) t (node_of elements id) node at_in inner alone apart (inr (inner-own old elements leaves plain t id h, away)) other relinked j hj)
        ∙ map-same_items old new leaves relinked.same _
        ∙ put_before-path (links_of old) (stops old) (item_of old leaves) id (node_of elements id) (tests-own old elements leaves plain t id h) node stays
        (node_of elements j + 1) (inside old (node_of elements j + 1)) (node_of elements j + 1) (t.ring j hj) (inside-inner old (node_of elements j + 1)) (distinct old elements leaves plain t id h j hj)
        (end-not_node old elements (length leaves) t j id hj h))

  pub IsTree-put : (place : Place) → IsPlaceIn (length elements) place → IsRelinked old new (inserted (links_of old) (at_of old elements place) node) → IsTree new elements (length leaves)
  IsTree-put (Into parent) h relinked = IsTree-put_into old new elements leaves t (id_of parent) node h inner alone other relinked
  IsTree-put (Foster table above) h relinked =
      elim (cases_eq ((links_of old).next (node_of elements (id_of table))) (node_of elements (id_of table))) [
        | inl lone ↦ IsTree-put_into old new elements leaves t (id_of above) node h.1 inner alone other (subst (λ at. IsRelinked old new (inserted (links_of old) at node)) (at-alone old elements table above lone) relinked)
        | inr away ↦ IsTree-before (id_of table) h.0 away (subst (λ at. IsRelinked old new (inserted (links_of old) at node)) (at-table old elements table above away) relinked)
      ]

  pub branches-put : (place : Place) → IsPlaceIn (length elements) place → IsRelinked old new (inserted (links_of old) (at_of old elements place) node)
      → StaysApart (item_of old leaves ((links_of old).prev (at_of old elements place))) (item_of old leaves node)
      → branches_of new elements leaves ≡ put (branches_of old elements leaves) (item_of old leaves node) place
  branches-put (Into parent) h relinked stays = branches-put_into old new elements leaves t (id_of parent) node h inner alone other relinked stays
  branches-put (Foster table above) h relinked stays =
      elim (cases_eq ((links_of old).next (node_of elements (id_of table))) (node_of elements (id_of table))) [
        | inl lone ↦
            let at : at_of old elements (Foster table above) ≡ node_of elements (id_of above) + 1 = at-alone old elements table above lone in
            branches-put_into old new elements leaves t (id_of above) node h.1 inner alone other (subst (λ at. IsRelinked old new (inserted (links_of old) at node)) at relinked)
            (subst (λ at. StaysApart (item_of old leaves ((links_of old).prev at)) (item_of old leaves node)) at stays)
            ∙ sym (put-alone old elements leaves plain t table above h.0 (item_of old leaves node) lone)
        | inr away ↦
            let at : at_of old elements (Foster table above) ≡ node_of elements (id_of table) = at-table old elements table above away in
            branches-before (id_of table) h.0 away (subst (λ at. IsRelinked old new (inserted (links_of old) at node)) at relinked)
            (subst (λ at. StaysApart (item_of old leaves ((links_of old).prev at)) (item_of old leaves node)) at stays)
            ∙ sym (put-table old elements leaves plain t table above h.0 (item_of old leaves node) away)
      ]
