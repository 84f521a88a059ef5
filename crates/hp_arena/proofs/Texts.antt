-- Leaves: a new one is put at a place, or a text gets more.
use Rattle.std.proofs.Common.{◌≡◌, ◌≢◌, ℕ, ◌+◌, ◌<◌, List, [], ◌∷◌, ◌++◌, Bool, true, false, length, map, refl, sym, ap, ◌∙◌, subst, arith, get_or, inl, inr, Option}
use Rattle.std.proofs.lemmas.Bool.{true≢false, cases_eq}
use Rattle.std.proofs.lemmas.List.{length-append, get_or-set_same, get_or-set_other}
use Rattle.std.proofs.Math.ListN.{set}
use Rattle.std.proofs.Math.Seq.{get_or-append_seam}
use Rattle.hp_control.specs.Tree as item
use Rattle.hp_control.specs.Tree.{Item, beside, put_last, in_one, in_each, put, put_before, id_of}
use Rattle.hp_control.specs.declared.edit.Place.{Place}
use Rattle.hp_control.specs.declared.edit.Place.TheVariants.{Into, Foster}
use Rattle.hp_arena.specs.Ring.{Links, Path, inserted}
use Rattle.hp_arena.specs.Nodes.{links_of, kind_of, stops, inside, is_end, IsRelinked}
use Rattle.hp_store.specs.Lists.{node_at, node_of, alone}
use Rattle.hp_arena.specs.Shape.{IsTree, item_of, kind_item, no_item, branches_of, at_of, is_text, with_leaf, IsPlaceIn}
use Rattle.hp_store.specs.declared.node.Node.{Node}
use Rattle.hp_store.specs.declared.node.Kind.{Kind}
use Rattle.hp_store.specs.declared.node.Kind.TheVariants.{End, Element, Leaf}
use Rattle.hp_store.specs.Store.{Element as ElementOf}
use Rattle.hp_arena.proofs.Walks.{Inner, inside-inner}
use Rattle.hp_arena.proofs.Detaching.{node-below, end-not_node}
use Rattle.hp_arena.proofs.Fosters.{joined_before-path, tests-own, distinct}
use Rattle.hp_arena.proofs.Shapes.{AreLeaves, branches-each, stops-end}
use Rattle.hp_arena.proofs.Growing.{IsAdded-leaf, IsTree-leaf, prev-grown, kind-grown, kind_item-more}
use Rattle.hp_arena.proofs.Making.{items-grown}
use Rattle.hp_arena.proofs.Branches.{branches-same, branches-one}
use Rattle.hp_arena.proofs.Intos.{StaysApart, ends-apart}
use Rattle.hp_arena.proofs.Places.{at-in, at-alone, at-table, put-alone, put-table, at-grown, IsTree-put, branches-put}

module _ (old new : List Node) (elements : List ElementOf) (leaves : List Item) (x : Item) (t : IsTree old elements (length leaves)) (place : Place) (plain : AreLeaves (leaves ++ x ∷ [])) (h : IsPlaceIn (length elements) place)
    (added : IsRelinked (with_leaf old (length leaves)) new (inserted (links_of (with_leaf old (length leaves))) (at_of old elements place) (length old))) where
  abbrev mid : List Node
  mid = with_leaf old (length leaves)

  abbrev after : List Item
  after = leaves ++ x ∷ []

  one_more : length leaves + 1 ≡ length (leaves ++ x ∷ [])
  one_more = sym (length-append leaves (x ∷ []))

  tree : IsTree mid elements (length after)
  tree = subst (λ n. IsTree mid elements n) one_more (IsTree-leaf old elements (length leaves) t)

  is : node_at mid (length old) ≡ alone (length old) (Leaf (length leaves))
  is = get_or-append_seam old (alone (length old) (Leaf (length leaves))) [] _

  inner : stops mid (length old) ≡ false
  inner = ap (λ n. is_end n.kind) is

  lone : (links_of mid).next (length old) ≡ length old
  lone = ap (λ n. n.next) is

  other : 0 < length elements → node_of elements 0 ≢ length old
  other some same = let below : node_of elements 0 + 1 < length old = t.end_in 0 some in omega (arith, below, same)

  item-new : item_of mid after (length old) ≡ x
  item-new = ap (λ n. kind_item after n.kind) is ∙ get_or-append_seam leaves x [] no_item

  same : branches_of mid elements after ≡ branches_of old elements leaves
  same = branches-same old mid elements leaves after (λ id hid. items-grown old mid elements leaves (x ∷ []) (IsAdded-leaf old (length leaves)).grown t id hid)

  stays-at : at_of mid elements place ≡ at_of old elements place
  stays-at = at-grown old mid elements (length leaves) (IsAdded-leaf old (length leaves)).grown t place h

  relinked : IsRelinked mid new (inserted (links_of mid) (at_of mid elements place) (length old))
  relinked = subst (λ at. IsRelinked mid new (inserted (links_of mid) at (length old))) (sym stays-at) added

  pub IsTree-put_leaf : IsTree new elements (length after)
  IsTree-put_leaf = IsTree-put mid new elements after plain tree (length old) inner lone other place h relinked

  at_in : at_of old elements place < length old
  at_in = at-in old elements (length leaves) t place h

  before : item_of mid after ((links_of mid).prev (at_of mid elements place)) ≡ item_of old leaves ((links_of old).prev (at_of old elements place))
  before =
      let s : ℕ = (links_of old).prev (at_of old elements place) in
      let below : (links_of old).prev (at_of old elements place) < length old = t.closed.prev (at_of old elements place) at_in in
      ap (λ at. item_of mid after ((links_of mid).prev at)) stays-at
      ∙ ap (item_of mid after) (prev-grown old mid (IsAdded-leaf old (length leaves)).grown (at_of old elements place) at_in)
      ∙ ap (kind_item after) (kind-grown old mid (IsAdded-leaf old (length leaves)).grown ((links_of old).prev (at_of old elements place)) below)
      ∙ kind_item-more elements leaves (x ∷ []) ((links_of old).prev (at_of old elements place)) (kind_of old ((links_of old).prev (at_of old elements place))) (t.home ((links_of old).prev (at_of old elements place)) below)

  pub branches-put_leaf : StaysApart (item_of old leaves ((links_of old).prev (at_of old elements place))) x → branches_of new elements after ≡ put (branches_of old elements leaves) x place
  branches-put_leaf stays =
      branches-put mid new elements after plain tree (length old) inner lone other place h relinked
      (subst (λ y. StaysApart y (item_of mid after (length old))) (sym before) (subst (λ y. StaysApart (item_of old leaves ((links_of old).prev (at_of old elements place))) y) (sym item-new) stays))
      ∙ ap (λ y. put (branches_of mid elements after) y place) item-new
      ∙ ap (λ u. put u x place) same

-- the list that ends where the last node stands
text-here : (l : Links) (stop : ℕ → Bool) (f g : ℕ → Item) (last end : ℕ) (x : Item) → ((s : ℕ) → s ≢ last → g s ≡ f s) → beside (f last) x ≡ g last ∷ [] → l.next last ≡ end → l.prev end ≡ last → stop end ≡ true
    → (from : ℕ) (xs : List ℕ) → Path l from xs end → Inner stop xs → from ≢ last → map g xs ≡ put_last (map f xs) x
text-here l stop f g last end x others joins next before ends from [] p i apart = absurd (apart (sym p.back ∙ before))
text-here l stop f g last end x others joins next before ends from (y ∷ []) p i apart =
    let same : y ≡ last = sym p.1.back ∙ before in
    let P : ℕ → Type 0 = λ z. g z ∷ [] ≡ beside (f z) x in subst P (sym same) (sym joins)
text-here l stop f g last end x others joins next before ends from (y ∷ z ∷ rest) p i apart =
    let other : y ≢ last = λ same. true≢false (sym ends ∙ ap stop (sym next ∙ ap l.next (sym same) ∙ p.1.0.ahead) ∙ i.1.0) in
    let more : map g (z ∷ rest) ≡ put_last (map f (z ∷ rest)) x = text-here l stop f g last end x others joins next before ends y (z ∷ rest) p.1 i.1 other in
    ap (λ w. w ∷ map g (z ∷ rest)) (others y other) ∙ ap (λ ys. f y ∷ ys) more

-- the other lists
text-there : (l : Links) (stop : ℕ → Bool) (f g : ℕ → Item) (last end : ℕ) → ((s : ℕ) → s ≢ last → g s ≡ f s) → l.next last ≡ end → stop end ≡ true
    → (from : ℕ) (xs : List ℕ) (to : ℕ) → Path l from xs to → Inner stop xs → to ≢ end → map g xs ≡ map f xs
text-there l stop f g last end others next ends from [] to p i apart = refl
text-there l stop f g last end others next ends from (y ∷ []) to p i apart =
    let other : y ≢ last = λ same. apart (sym p.1.ahead ∙ ap l.next same ∙ next) in ap (λ w. w ∷ []) (others y other)
text-there l stop f g last end others next ends from (y ∷ z ∷ rest) to p i apart =
    let other : y ≢ last = λ same. true≢false (sym ends ∙ ap stop (sym next ∙ ap l.next (sym same) ∙ p.1.0.ahead) ∙ i.1.0) in
    ap (λ w. w ∷ map g (z ∷ rest)) (others y other) ∙ ap (λ ys. f y ∷ ys) (text-there l stop f g last end others next ends y (z ∷ rest) to p.1 i.1 apart)

kind-other : (leaves : List Item) (number : ℕ) (leaf : Item) (k : Kind) → (k ≢ Leaf number) → kind_item (set leaves number leaf) k ≡ kind_item leaves k
kind-other leaves number leaf (End id) h = refl
kind-other leaves number leaf (Element id) h = refl
kind-other leaves number leaf (Leaf other) h = get_or-set_other leaves number other leaf no_item (λ same. h (ap Leaf same))

-- the node before the place is a text
pub record IsTextBefore (nodes : List Node) (leaves : List Item) (s number : ℕ) (bs : List ℕ) : Type 0 where
  pub leaf : kind_of nodes s ≡ Leaf number
  pub number_in : number < length leaves
  pub text : get_or leaves number no_item ≡ item.Text bs

module _ (nodes : List Node) (elements : List ElementOf) (leaves : List Item) (t : IsTree nodes elements (length leaves)) (number : ℕ) (bs text : List ℕ) where
  abbrev pub joined : List Item
  joined = set leaves number (item.Text (bs ++ text))

  module _ (last : ℕ) (at : IsTextBefore nodes leaves last number bs) where
    others : (s : ℕ) → s ≢ last → item_of nodes joined s ≡ item_of nodes leaves s
    others s apart = kind-other leaves number (item.Text (bs ++ text)) (kind_of nodes s) (λ k. apart (t.leaf_once s last number k at.leaf))

    joins : beside (item_of nodes leaves last) (item.Text text) ≡ item_of nodes joined last ∷ []
    joins =
        let before : item_of nodes leaves last ≡ item.Text bs = ap (kind_item leaves) at.leaf ∙ at.text in
        let after : item_of nodes joined last ≡ item.Text (bs ++ text) = ap (kind_item joined) at.leaf ∙ get_or-set_same leaves number (item.Text (bs ++ text)) no_item at.number_in in
        ap (λ x. beside x (item.Text text)) before ∙ ap (λ x. x ∷ []) (sym after)

    last-apart : (j : ℕ) → j < length elements → node_of elements j + 1 ≢ last
    last-apart j hj same =
        let k : End j ≡ Leaf number = sym (t.end j hj) ∙ ap (kind_of nodes) same ∙ at.leaf in cc k

  branches-joined_into : (p : ℕ) → p < length elements → IsTextBefore nodes leaves ((links_of nodes).prev (node_of elements p + 1)) number bs
      → branches_of nodes elements joined ≡ in_one (λ items. put_last items (item.Text text)) (branches_of nodes elements leaves) p
  branches-joined_into p h at =
      let end : ℕ = node_of elements p + 1 in
      let last : ℕ = (links_of nodes).prev (node_of elements p + 1) in
      let after-last : (links_of nodes).next last ≡ end = t.ringed.before end (t.end_in p h) in
      branches-one nodes nodes elements leaves joined (λ items. put_last items (item.Text text)) p h
      (text-here (links_of nodes) (stops nodes) (item_of nodes leaves) (item_of nodes joined) last end (item.Text text) (others last at) (joins last at) after-last refl (stops-end nodes elements (length leaves) t p h)
      end (inside nodes end) (t.ring p h) (inside-inner nodes end) (last-apart last at p h))
      (λ j hj other. text-there (links_of nodes) (stops nodes) (item_of nodes leaves) (item_of nodes joined) last end (others last at) after-last (stops-end nodes elements (length leaves) t p h)
      (node_of elements j + 1) (inside nodes (node_of elements j + 1)) (node_of elements j + 1) (t.ring j hj) (inside-inner nodes (node_of elements j + 1)) (ends-apart nodes elements (length leaves) t j p hj h other))

  branches-joined_before : AreLeaves leaves → (id : ℕ) → id < length elements → (links_of nodes).next (node_of elements id) ≢ node_of elements id → IsTextBefore nodes leaves ((links_of nodes).prev (node_of elements id)) number bs
      → branches_of nodes elements joined ≡ in_each (λ items. put_before id items (item.Text text)) (branches_of nodes elements leaves)
  branches-joined_before plain id h away at =
      let own : ℕ = node_of elements id in
      let below : own < length nodes = node-below nodes elements (length leaves) t id h in
      let after : (links_of nodes).next ((links_of nodes).prev own) ≡ own = t.ringed.before own below in
      let lone : own ≢ (links_of nodes).prev own = λ e. away (ap (links_of nodes).next e ∙ after) in
      branches-each nodes nodes elements leaves joined (λ items. put_before id items (item.Text text)) (λ j hj.
      joined_before-path (links_of nodes) (stops nodes) (item_of nodes leaves) id own (tests-own nodes elements leaves plain t id h) (item_of nodes joined) (item.Text text)
      (others ((links_of nodes).prev own) at) (joins ((links_of nodes).prev own) at) after lone
      (node_of elements j + 1) (inside nodes (node_of elements j + 1)) (node_of elements j + 1) (t.ring j hj) (inside-inner nodes (node_of elements j + 1)) (distinct nodes elements leaves plain t id h j hj)
      (end-not_node nodes elements (length leaves) t j id hj h) (last-apart ((links_of nodes).prev own) at j hj))

  pub branches-joined : AreLeaves leaves → (place : Place) → IsPlaceIn (length elements) place → IsTextBefore nodes leaves ((links_of nodes).prev (at_of nodes elements place)) number bs
      → branches_of nodes elements joined ≡ put (branches_of nodes elements leaves) (item.Text text) place
  branches-joined plain (Into parent) h at = branches-joined_into (id_of parent) h at
  branches-joined plain (Foster table above) h at =
      elim (cases_eq ((links_of nodes).next (node_of elements (id_of table))) (node_of elements (id_of table))) [
        | inl lone ↦
            branches-joined_into (id_of above) h.1 (subst (λ at. IsTextBefore nodes leaves ((links_of nodes).prev at) number bs) (at-alone nodes elements table above lone) at)
            ∙ sym (put-alone nodes elements leaves plain t table above h.0 (item.Text text) lone)
        | inr away ↦
            branches-joined_before plain (id_of table) h.0 away (subst (λ at. IsTextBefore nodes leaves ((links_of nodes).prev at) number bs) (at-table nodes elements table above away) at)
            ∙ sym (put-table nodes elements leaves plain t table above h.0 (item.Text text) away)
      ]

pub comment-apart : (x : Item) (text : List ℕ) → StaysApart x (item.Comment text)
comment-apart (item.Element id) text = refl
comment-apart (item.Text other) text = refl
comment-apart (item.Comment other) text = refl
comment-apart (item.Doctype name public system) text = refl

pub doctype-apart : (x : Item) (name : List ℕ) (public system : Option (List ℕ)) → StaysApart x (item.Doctype name public system)
doctype-apart (item.Element id) name public system = refl
doctype-apart (item.Text other) name public system = refl
doctype-apart (item.Comment other) name public system = refl
doctype-apart (item.Doctype n p s) name public system = refl

pub text-apart : (x : Item) (text : List ℕ) → is_text x ≡ false → StaysApart x (item.Text text)
text-apart (item.Element id) text h = refl
text-apart (item.Text other) text h = absurd (true≢false h)
text-apart (item.Comment other) text h = refl
text-apart (item.Doctype name public system) text h = refl
