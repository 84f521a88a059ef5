-- A node that is alone is put last among the children of an element.
use Rattle.std.proofs.Common.{◌≡◌, ◌≢◌, ℕ, ◌+◌, ◌<◌, List, [], ◌∷◌, ◌++◌, false, ◌==◌, if◌then◌else◌, length, map, refl, sym, ap, ◌∙◌, subst, inl}
use Rattle.std.proofs.lemmas.Bool.{true≢false, cond-true, cond-false, eq-eqb, ne_eqb}
use Rattle.std.proofs.lemmas.List.{map-append, append-nil}
use Rattle.hp_control.specs.Tree.{Item, Element, Text, Comment, Doctype, beside, put_last, in_one}
use Rattle.hp_arena.specs.Ring.{Links, Path, inserted}
use Rattle.hp_arena.specs.Nodes.{links_of, kind_of, stops, inside, IsRelinked}
use Rattle.hp_arena.specs.Shape.{IsTree, item_of, branches_of}
use Rattle.hp_store.specs.Lists.{node_of}
use Rattle.hp_store.specs.declared.node.Node.{Node}
use Rattle.hp_store.specs.declared.node.Kind.TheVariants as kind
use Rattle.hp_store.specs.Store.{Element as ElementOf}
use Rattle.hp_arena.proofs.Walks.{inside-inner}
use Rattle.hp_arena.proofs.Shapes.{stops-end}
use Rattle.hp_arena.proofs.Detaching.{map-same_items}
use Rattle.hp_arena.proofs.Inserting.{put_in-end, IsTree-inserted, inside-inserted}
use Rattle.hp_arena.proofs.Branches.{items_of, branches-one}

-- no text is joined here
abbrev pub StaysApart : Item → Item → Type 0
StaysApart x item = beside x item ≡ x ∷ item ∷ []

pub element-apart : (x : Item) (id : ℕ) → StaysApart x (Element id)
element-apart (Element other) id = refl
element-apart (Text text) id = refl
element-apart (Comment text) id = refl
element-apart (Doctype name public system) id = refl

-- the item that comes last is that of the node before the end
pub put_last-path : (l : Links) (f : ℕ → Item) (from : ℕ) (xs : List ℕ) (to : ℕ) (item : Item) → Path l from xs to → StaysApart (f (l.prev to)) item → put_last (map f xs) item ≡ map f xs ++ item ∷ []
put_last-path l f from [] to item p h = refl
put_last-path l f from (x ∷ []) to item p h = let P : ℕ → Type 0 = λ y. StaysApart (f y) item in subst P p.1.back h
put_last-path l f from (x ∷ y ∷ rest) to item p h = ap (λ ys. f x ∷ ys) (put_last-path l f x (y ∷ rest) to item p.1 h)

-- two lists of children have two ends
pub ends-apart : (nodes : List Node) (elements : List ElementOf) (leaves : ℕ) → IsTree nodes elements leaves → (j id : ℕ) → j < length elements → id < length elements → j ≢ id → node_of elements j + 1 ≢ node_of elements id + 1
ends-apart nodes elements leaves t j id hj hid other same =
    let k : kind.End j ≡ kind.End id = sym (t.end j hj) ∙ ap (kind_of nodes) same ∙ t.end id hid in
    let one : j ≡ id = cc k in other one

module _ (old new : List Node) (elements : List ElementOf) (leaves : List Item) (t : IsTree old elements (length leaves)) (p node : ℕ) (h : p < length elements)
    (inner : stops old node ≡ false) (alone : (links_of old).next node ≡ node) (other : 0 < length elements → node_of elements 0 ≢ node)
    (relinked : IsRelinked old new (inserted (links_of old) (node_of elements p + 1) node)) where
  apart : node_of elements p + 1 ≢ node
  apart same = true≢false (sym (stops-end old elements (length leaves) t p h) ∙ ap (stops old) same ∙ inner)

  pub IsTree-put_into : IsTree new elements (length leaves)
  IsTree-put_into = IsTree-inserted old new elements (length leaves) t (node_of elements p + 1) node (t.end_in p h) inner alone apart (inl (p, (h, refl))) other relinked

  inside-put : (j : ℕ) → j < length elements → inside new (node_of elements j + 1) ≡ inside old (node_of elements j + 1) ++ (if node_of elements j + 1 == node_of elements p + 1 then node ∷ [] else [])
  inside-put j hj =
      inside-inserted old new elements (length leaves) t (node_of elements p + 1) node (t.end_in p h) inner alone apart (inl (p, (h, refl))) other relinked j hj
      ∙ put_in-end (stops old) (node_of elements p + 1) node (inside old (node_of elements j + 1)) (node_of elements j + 1) (stops-end old elements (length leaves) t p h) (inside-inner old (node_of elements j + 1))

  there : (j : ℕ) → j < length elements → j ≢ p → items_of new elements leaves j ≡ items_of old elements leaves j
  there j hj other =
      let none : (if node_of elements j + 1 == node_of elements p + 1 then node ∷ [] else []) ≡ [] = cond-false _ _ _ (ne_eqb (node_of elements j + 1) (node_of elements p + 1) (ends-apart old elements (length leaves) t j p hj h other)) in
      ap (map (item_of new leaves)) (inside-put j hj ∙ ap (λ ys. inside old (node_of elements j + 1) ++ ys) none ∙ append-nil (inside old (node_of elements j + 1)))
      ∙ map-same_items old new leaves relinked.same (inside old (node_of elements j + 1))

  appended : items_of new elements leaves p ≡ items_of old elements leaves p ++ item_of old leaves node ∷ []
  appended =
      let own : (if node_of elements p + 1 == node_of elements p + 1 then node ∷ [] else []) ≡ node ∷ [] = cond-true _ _ _ (eq-eqb (node_of elements p + 1) (node_of elements p + 1) refl) in
      ap (map (item_of new leaves)) (inside-put p h ∙ ap (λ ys. inside old (node_of elements p + 1) ++ ys) own)
      ∙ map-same_items old new leaves relinked.same (inside old (node_of elements p + 1) ++ node ∷ [])
      ∙ map-append (item_of old leaves) (inside old (node_of elements p + 1)) (node ∷ [])

  here : StaysApart (item_of old leaves ((links_of old).prev (node_of elements p + 1))) (item_of old leaves node) → items_of new elements leaves p ≡ put_last (items_of old elements leaves p) (item_of old leaves node)
  here stays =
      appended
      ∙ sym (put_last-path (links_of old) (item_of old leaves) (node_of elements p + 1) (inside old (node_of elements p + 1)) (node_of elements p + 1) (item_of old leaves node) (t.ring p h) stays)

  pub branches-put_into : StaysApart (item_of old leaves ((links_of old).prev (node_of elements p + 1))) (item_of old leaves node)
      → branches_of new elements leaves ≡ in_one (λ items. put_last items (item_of old leaves node)) (branches_of old elements leaves) p
  branches-put_into stays = branches-one old new elements leaves leaves (λ items. put_last items (item_of old leaves node)) p h (here stays) there
