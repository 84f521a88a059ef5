-- What a tree means that has a grove behind it.
use Rattle.std.proofs.Common.{◌≡◌, ◌≢◌, ℕ, ◌+◌, ◌-◌, ◌<◌, List, [], ◌∷◌, ◌++◌, false, length, map, drop, get_or, arith, refl, sym, ap, ◌∙◌, subst, inl, inr, Option}
use Rattle.std.proofs.lemmas.Bool.{true≢false, cases_lt, cases_eq, eq-eqb}
use Rattle.std.proofs.lemmas.List.{ext_get_or, get_or-append-add, get_or_append_left, get_or-append_right, length-append, length-map, length-drop, map-append}
use Rattle.std.proofs.lemmas.Grind.{get_or_after_one}
use Rattle.std.proofs.Math.ListN.{get_or-map}
use Rattle.hp_elements.specs.declared.tag.Tag.{Tag}
use Rattle.hp_control.specs.Tree.{Item, Tree, branch, no_branch, is_element}
use Rattle.hp_control.specs.Tree as item
use Rattle.hp_groves.specs.Grafts.{renumbered_item, renumbered, graft}
use Rattle.hp_arena.specs.Groves.{behind_document}
use Rattle.hp_arena.proofs.Grafting.{raised_kind}
use Rattle.hp_store.specs.Leaves.{leaf_item, leaf_items}
use Rattle.hp_arena.specs.Nodes.{kind_of, stops, inside, is_end}
use Rattle.hp_arena.specs.Shape.{IsTree, IsAtHome, item_of, kind_item, no_item, branch_of, branches_of}
use Rattle.hp_store.specs.Lists.{node_of, tag_at}
use Rattle.hp_store.specs.declared.node.Node.{Node}
use Rattle.hp_store.specs.declared.node.Kind.{Kind}
use Rattle.hp_store.specs.declared.node.Kind.TheVariants.{End, Element, Leaf}
use Rattle.hp_store.specs.Store.{Element as ElementOf}
use Rattle.hp_store.specs.declared.part.Leaf.{Leaf as LeafOf}
use Rattle.hp_store.specs.declared.node.Counts.{Counts}
use Rattle.hp_arena.proofs.Paths.{Avoids}
use Rattle.hp_arena.proofs.Walks.{Inner, inside-inner, inner-below}
use Rattle.hp_arena.proofs.Shapes.{AreLeaves, make_branch}
use Rattle.hp_arena.proofs.Branches.{items_of, branch-at}
use Rattle.hp_arena.proofs.Making.{items-grown}
use Rattle.hp_arena.proofs.Raised.{IsBehind, AreBehind, avoids, inside-raised}

pub add-turned : (n m : ℕ) → n + m ≡ m + n
add-turned n m = omega arith

-- the leaves with those of a grove behind them
pub leaf_items-behind : (leaves others : List LeafOf) → leaf_items (leaves ++ others) ≡ leaf_items leaves ++ leaf_items others
leaf_items-behind leaves others = map-append leaf_item leaves others

-- what is no element has no number
plain-renumbered : (f : ℕ → ℕ) (x : Item) → ((id : ℕ) → is_element id x ≡ false) → renumbered_item f x ≡ x
plain-renumbered f (item.Element id) h = absurd (true≢false (sym (eq-eqb id id refl) ∙ h id))
plain-renumbered f (item.Text text) h = refl
plain-renumbered f (item.Comment text) h = refl
plain-renumbered f (item.Doctype name public system) h = refl

-- a branch of the grove, in the tree
abbrev from_zero : ℕ → ℕ
from_zero id = id - 1

abbrev behind : ℕ → ℕ → ℕ
behind count number = count + number

graft-at : (t u : Tree) (id by : ℕ) → by + 1 ≡ length t → 0 < id → branch (graft t (behind_document u)) (id + by) ≡ renumbered (behind (length t)) (renumbered from_zero (branch u id))
graft-at t u id by count some =
    get_or-append_right t (map (renumbered (behind (length t))) (behind_document u)) (length t) (id + by) no_branch refl (omega arith)
    ∙ get_or-map (renumbered (behind (length t))) (behind_document u) (id + by - length t) no_branch
    ∙ ap (renumbered (behind (length t))) (get_or-map (renumbered from_zero) (drop 1 u) (id + by - length t) no_branch
    ∙ ap (renumbered from_zero) (get_or_after_one u (id + by - length t) no_branch ∙ ap (λ n. get_or u n no_branch) (omega arith)))

graft-length : (t u : Tree) → length (graft t (behind_document u)) ≡ length t + (length u - 1)
graft-length t u =
    length-append t (map (renumbered (behind (length t))) (behind_document u))
    ∙ ap (λ n. length t + n) (length-map (behind_document u) (renumbered (behind (length t))) ∙ length-map (drop 1 u) (renumbered from_zero) ∙ length-drop 1 u)

make_branch-same : (a b : Option Tag) (xs ys : List Item) → a ≡ b → xs ≡ ys → make_branch a xs ≡ make_branch b ys
make_branch-same a b xs ys p q = cc

module _ (old grove new : List Node) (oldE groveE newE : List ElementOf) (rise : Counts) (b : IsBehind old grove new rise (node_of groveE 0)) (e : AreBehind oldE groveE newE rise)
    (leaves more : List Item) (t : IsTree old oldE (length leaves)) (g : IsTree grove groveE (length more)) (nothing : inside grove (node_of groveE 0 + 1) ≡ []) (numbers : rise.leaves ≡ length leaves)
    (plain : AreLeaves more) where
  kind-raised : (s : ℕ) (k : Kind) → is_end k ≡ false → s ≢ node_of groveE 0 → IsAtHome groveE (length more) s k
      → kind_item (leaves ++ more) (raised_kind rise k) ≡ renumbered_item (behind (length oldE)) (renumbered_item from_zero (kind_item more k))
  kind-raised s (End id) i other h = absurd (true≢false i)
  kind-raised s (Element id) i other h =
      let some : 0 < id = elim (cases_eq id 0) [ inl zero ↦ absurd (other (sym h.1 ∙ ap (node_of groveE) zero)) | inr away ↦ omega arith ] in
      ap item.Element (omega (arith, e.by))
  kind-raised s (Leaf number) i other h =
      ap (λ n. get_or (leaves ++ more) n no_item) (ap (λ n. number + n) numbers ∙ add-turned number (length leaves))
      ∙ get_or-append-add leaves more number no_item
      ∙ sym (ap (renumbered_item (behind (length oldE))) (plain-renumbered from_zero (get_or more number no_item) (plain number))
      ∙ plain-renumbered (behind (length oldE)) (get_or more number no_item) (plain number))

  map-raised : (xs : List ℕ) → Inner (stops grove) xs → Avoids (node_of groveE 0) xs
      → map (item_of new (leaves ++ more)) (map (λ y. y + rise.nodes) xs) ≡ map (renumbered_item (behind (length oldE))) (map (renumbered_item from_zero) (map (item_of grove more) xs))
  map-raised [] i a = refl
  map-raised (x ∷ xs) i a =
      let below : x < length grove = inner-below grove x i.0 in
      let first : item_of new (leaves ++ more) (x + rise.nodes) ≡ renumbered_item (behind (length oldE)) (renumbered_item from_zero (item_of grove more x)) =
      ap (kind_item (leaves ++ more)) (b.kind x below a.0) ∙ kind-raised x (kind_of grove x) i.0 a.0 (g.home x below) in
      let rest : map (item_of new (leaves ++ more)) (map (λ y. y + rise.nodes) xs) ≡ map (renumbered_item (behind (length oldE))) (map (renumbered_item from_zero) (map (item_of grove more) xs)) = map-raised xs i.1 a.1 in cc

  items-raised : (id : ℕ) → 0 < id → id < length groveE
      → items_of new newE (leaves ++ more) (id + rise.elements) ≡ map (renumbered_item (behind (length oldE))) (map (renumbered_item from_zero) (items_of grove groveE more id))
  items-raised id some h =
      let ends : node_of newE (id + rise.elements) + 1 ≡ node_of groveE id + 1 + rise.nodes = omega (arith, e.raised id some h) in
      ap (λ n. map (item_of new (leaves ++ more)) (inside new n)) ends
      ∙ ap (map (item_of new (leaves ++ more))) (inside-raised old grove new oldE groveE newE rise b e (length leaves) (length more) t g nothing numbers id h)
      ∙ map-raised (inside grove (node_of groveE id + 1)) (inside-inner grove (node_of groveE id + 1)) (avoids old grove new oldE groveE newE rise b e (length leaves) (length more) t g nothing numbers id h)

  abbrev tree : Tree
  tree = branches_of old oldE leaves

  abbrev others : Tree
  others = branches_of grove groveE more

  count : length tree ≡ length oldE
  count = length-map oldE (branch_of old leaves)

  branch-kept : (id : ℕ) → id < length oldE → id < length newE → branch (branches_of new newE (leaves ++ more)) id ≡ branch (graft tree (behind_document others)) id
  branch-kept id h hn =
      branch-at new newE (leaves ++ more) id hn
      ∙ make_branch-same (tag_at newE id) (tag_at oldE id) (items_of new newE (leaves ++ more) id) (items_of old oldE leaves id) (e.tag_kept id h)
      (ap (λ n. map (item_of new (leaves ++ more)) (inside new (n + 1))) (e.kept id h) ∙ items-grown old new oldE leaves more b.grown t id h)
      ∙ sym (get_or_append_left tree (map (renumbered (behind (length tree))) (behind_document others)) no_branch id (subst (λ n. id < n) (sym count) h) ∙ branch-at old oldE leaves id h)

  branch-raised : (id : ℕ) → 0 < id → id < length groveE → id + rise.elements < length newE → branch (branches_of new newE (leaves ++ more)) (id + rise.elements) ≡ branch (graft tree (behind_document others)) (id + rise.elements)
  branch-raised id some h hn =
      branch-at new newE (leaves ++ more) (id + rise.elements) hn
      ∙ make_branch-same (tag_at newE (id + rise.elements)) (tag_at groveE id) (items_of new newE (leaves ++ more) (id + rise.elements))
      (map (renumbered_item (behind (length oldE))) (map (renumbered_item from_zero) (items_of grove groveE more id))) (e.tag_raised id some h) (items-raised id some h)
      ∙ sym (graft-at tree others id rise.elements (e.by ∙ sym count) some
      ∙ ap (λ n. renumbered (behind n) (renumbered from_zero (branch others id))) count
      ∙ ap (λ x. renumbered (behind (length oldE)) (renumbered from_zero x)) (branch-at grove groveE more id h))

  pub branches-behind : branches_of new newE (leaves ++ more) ≡ graft (branches_of old oldE leaves) (behind_document (branches_of grove groveE more))
  branches-behind =
      ext_get_or no_branch (branches_of new newE (leaves ++ more)) (graft tree (behind_document others))
      (length-map newE (branch_of new (leaves ++ more)) ∙ omega (arith, e.count, e.by, e.some, count, length-map groveE (branch_of grove more), graft-length tree others))
      (λ i h.
      let below : i < length newE = subst (λ n. i < n) (length-map newE (branch_of new (leaves ++ more))) h in
      elim (cases_lt i (length oldE)) [
        | inl low ↦ branch-kept i low below
        | inr past ↦
            let some : 0 < i - rise.elements = omega (arith, e.by) in
            let low : i - rise.elements < length groveE = omega (arith, e.by, e.count) in
            let same : i - rise.elements + rise.elements ≡ i = omega (arith, e.by) in
            let P : ℕ → Type 0 = λ n. n < length newE → branch (branches_of new newE (leaves ++ more)) n ≡ branch (graft tree (behind_document others)) n in
            subst P same (branch-raised (i - rise.elements) some low) below
      ])
