-- An element is taken out of its list, and put at a place.
use Rattle.std.proofs.Common.{◌≡◌, ◌≢◌, ℕ, ◌<◌, List, length, sym, ap, ◌∙◌, false, refl, subst}
use Rattle.std.proofs.lemmas.Bool.{cond-true, eq-eqb}
use Rattle.hp_control.specs.Tree.{detached, put, Element, Item}
use Rattle.hp_control.specs.declared.edit.Place.{Place}
use Rattle.hp_arena.specs.Nodes.{links_of, IsRelinked, kind_of, stops, is_end}
use Rattle.hp_arena.specs.Ring.{unlinked, inserted}
use Rattle.hp_arena.specs.Shape.{IsTree, branches_of, item_of, kind_item, at_of, IsPlaceIn}
use Rattle.hp_store.specs.Lists.{node_of}
use Rattle.hp_store.specs.declared.node.Node.{Node}
use Rattle.hp_store.specs.declared.node.Kind.TheVariants as kind
use Rattle.hp_store.specs.Store.{Element as ElementOf}
use Rattle.hp_arena.proofs.Shapes.{AreLeaves}
use Rattle.hp_arena.proofs.Detaching.{IsTree-detached, branches-detached}
use Rattle.hp_arena.proofs.Intos.{element-apart, StaysApart}
use Rattle.hp_arena.proofs.Places.{IsTree-put, branches-put}

module _ (old mid new : List Node) (elements : List ElementOf) (leaves : List Item) (t : IsTree old elements (length leaves)) (id : ℕ) (place : Place) (hid : id < length elements) (apart : id ≢ 0) (plain : AreLeaves leaves) (hp : IsPlaceIn (length elements) place)
    (out : IsRelinked old mid (unlinked (links_of old) (node_of elements id)))
    (into : IsRelinked mid new (inserted (links_of mid) (at_of mid elements place) (node_of elements id))) where
  tree : IsTree mid elements (length leaves)
  tree = IsTree-detached old mid elements leaves t id hid out

  -- the element is alone in between
  pub unlinked-alone : (links_of mid).next (node_of elements id) ≡ node_of elements id
  unlinked-alone = ap (λ l. l.next (node_of elements id)) out.links_are ∙ cond-true _ _ _ (eq-eqb (node_of elements id) (node_of elements id) refl)

  inner : stops mid (node_of elements id) ≡ false
  inner = ap is_end (tree.element id hid)

  other : 0 < length elements → node_of elements 0 ≢ node_of elements id
  other some same =
      let k : kind.Element 0 ≡ kind.Element id = sym (t.element 0 some) ∙ ap (kind_of old) same ∙ t.element id hid in
      let one : 0 ≡ id = cc k in apart (sym one)

  is : item_of mid leaves (node_of elements id) ≡ Element id
  is = ap (kind_item leaves) (tree.element id hid)

  pub IsTree-moved : IsTree new elements (length leaves)
  IsTree-moved = IsTree-put mid new elements leaves plain tree (node_of elements id) inner unlinked-alone other place hp into

  pub branches-moved : branches_of new elements leaves ≡ put (detached (branches_of old elements leaves) id) (Element id) place
  branches-moved =
      branches-put mid new elements leaves plain tree (node_of elements id) inner unlinked-alone other place hp into
      (subst (λ x. StaysApart (item_of mid leaves ((links_of mid).prev (at_of mid elements place))) x) (sym is) (element-apart (item_of mid leaves ((links_of mid).prev (at_of mid elements place))) id))
      ∙ ap (λ x. put (branches_of mid elements leaves) x place) is
      ∙ ap (λ t'. put t' (Element id) place) (branches-detached old mid elements leaves t id hid out plain)
