-- An element gets another tag.
use Rattle.std.proofs.Common.{◌≡◌, ℕ, suc, ◌+◌, ◌-◌, ◌<◌, ◌≤◌, ◌==◌, List, [], ◌∷◌, ◌++◌, true, length, sym, ap, ◌∙◌, subst, arith, get_or, inl, inr, Option, Some, None}
use Rattle.std.specs.List.{list_any}
use Rattle.std.proofs.lemmas.Bool.{cases_eq, cond_both}
use Rattle.std.proofs.lemmas.List.{get_or-set_same, get_or-set_other, length-set, map-set, length-append}
use Rattle.std.proofs.Math.ListN.{set}
use Rattle.hp_store.specs.Leaves.{leaf_items}
use Rattle.hp_elements.specs.declared.tag.Tag.{Tag}
use Rattle.hp_elements.specs.declared.tag.Attribute.{Attribute}
use Rattle.hp_arena.specs.Arena.{Seen}
use Rattle.hp_arena.specs.declared.arena.Arena.TheInside.{Inside}
use Rattle.hp_control.specs.Tree.{Item, branch, with_tag, has_name, with_missing, with_attributes}
use Rattle.hp_arena.specs.Ring.{Path}
use Rattle.hp_arena.specs.Nodes.{links_of, kind_of, inside}
use Rattle.hp_arena.specs.Shape.{IsTree, IsAtHome, IsListed, IsSound, seen, items_in, branch_of, branches_of}
use Rattle.hp_store.specs.Lists.{with_tag_at, node_of, no_element, tag_at, attribute_count}
use Rattle.hp_store.specs.declared.node.Node.{Node}
use Rattle.hp_store.specs.declared.node.Kind.{Kind}
use Rattle.hp_store.specs.declared.node.Kind.TheVariants.{End, Element, Leaf}
use Rattle.hp_store.specs.Store.{Element as ElementOf}
use Rattle.hp_arena.proofs.Branches.{branch-at}
use Rattle.hp_arena.proofs.Shapes.{make_branch}

-- the element with another tag
abbrev pub retagged : ElementOf → Option Tag → ElementOf
retagged e tag = record { tag = tag; node = e.node }

module _ (old : List ElementOf) (id : ℕ) (tag : Option Tag) (h : id < length old) where
  abbrev pub new : List ElementOf
  new = set old id (retagged (get_or old id no_element) tag)

  count : length new ≡ length old
  count = length-set old id (retagged (get_or old id no_element) tag)

  below : (k : ℕ) → k < length new → k < length old
  below k hk = subst (λ n. k < n) count hk

  same : (k : ℕ) → node_of new k ≡ node_of old k
  same k =
      elim (cases_eq k id) [
        | inl e ↦ ap (node_of new) e ∙ ap (λ x. x.node) (get_or-set_same old id (retagged (get_or old id no_element) tag) no_element h) ∙ ap (node_of old) (sym e)
        | inr e ↦ ap (λ x. x.node) (get_or-set_other old id k (retagged (get_or old id no_element) tag) no_element e)
      ]

  home : (leaves s : ℕ) (k : Kind) → IsAtHome old leaves s k → IsAtHome new leaves s k
  home leaves s (End i) at = subst (λ n. i < n) (sym count) at
  home leaves s (Element i) at = (subst (λ n. i < n) (sym count) at.0, same i ∙ at.1)
  home leaves s (Leaf number) at = at

  pub IsTree-retagged : (nodes : List Node) (leaves : ℕ) → IsTree nodes old leaves → IsTree nodes new leaves
  IsTree-retagged nodes leaves t = record {
    closed = t.closed;
    ringed = t.ringed;
    ring = λ k hk. subst (λ n. Path (links_of nodes) (n + 1) (inside nodes (n + 1)) (n + 1)) (sym (same k)) (t.ring k (below k hk));
    end_in = λ k hk. subst (λ n. n + 1 < length nodes) (sym (same k)) (t.end_in k (below k hk));
    element = λ k hk. ap (kind_of nodes) (same k) ∙ t.element k (below k hk);
    end = λ k hk. ap (λ n. kind_of nodes (n + 1)) (same k) ∙ t.end k (below k hk);
    home = λ s hs. home leaves s (kind_of nodes s) (t.home s hs);
    leaf_once = t.leaf_once;
    listed = λ s i away.
        let there : IsListed nodes old s = t.listed s i away in
        (there.0, (subst (λ n. there.0 < n) (sym count) there.1.0, subst (λ n. list_any (λ y. s == y) (inside nodes (n + 1)) ≡ true) (sym (same there.0)) there.1.1));
    root = λ some. ap (links_of nodes).next (same 0) ∙ t.root (subst (λ n. 0 < n) count some) ∙ sym (same 0);
  }

  pub attributes-retagged : (most : ℕ) → attribute_count tag ≤ most → ((k : ℕ) → attribute_count (tag_at old k) ≤ most) → (k : ℕ) → attribute_count (tag_at new k) ≤ most
  attributes-retagged most own all k =
      elim (cases_eq k id) [
        | inl e ↦ subst (λ x. attribute_count x ≤ most) (sym (ap (tag_at new) e ∙ ap (λ x. x.tag) (get_or-set_same old id (retagged (get_or old id no_element) tag) no_element h))) own
        | inr e ↦ subst (λ x. attribute_count x ≤ most) (sym (ap (λ x. x.tag) (get_or-set_other old id k (retagged (get_or old id no_element) tag) no_element e))) (all k)
      ]

  pub branches-retagged : (nodes : List Node) (leaves : List Item) → branches_of nodes new leaves ≡ with_tag (branches_of nodes old leaves) id tag
  branches-retagged nodes leaves =
      map-set (branch_of nodes leaves) old id (retagged (get_or old id no_element) tag)
      ∙ ap (λ b. set (branches_of nodes old leaves) id (make_branch tag b.inside)) (sym (branch-at nodes old leaves id h))

pub length-with_missing : (have more : List Attribute) → length (with_missing have more) ≤ length have + length more
length-with_missing have [] = omega arith
length-with_missing have (one ∷ more) =
    cond_both (has_name have one) have (have ++ one ∷ []) (λ ys. length (with_missing ys more) ≤ length have + suc (length more))
    (λ e. omega (arith, length-with_missing have more))
    (λ e. omega (arith, length-with_missing (have ++ one ∷ []) more, length-append have (one ∷ [])))

-- no more attributes than there were and were given
pub count-with_attributes : (tag : Option Tag) (more : List Attribute) → attribute_count (with_attributes tag more) ≤ attribute_count tag + length more
count-with_attributes None more = omega arith
count-with_attributes (Some tag) more = length-with_missing tag.attributes more

-- a whole tree, where an element got further attributes
pub IsSound-retagged : (a b : Inside) (id : ℕ) (more : List Attribute) (room : ℕ) → IsSound a → id < length a.store.elements → length more < a.spare
    → b.store ≡ record a.store { elements = with_tag_at a.store.elements id (with_attributes (tag_at a.store.elements id) more) }
    → room ≡ length more + 1 → b.spare ≡ a.spare - room → b.used ≡ a.used + room → b.cells ≡ a.cells → IsSound b
IsSound-retagged a b id more size sound h some rest is spare used cells =
    let room = sound.room in
    let tag : Option Tag = with_attributes (tag_at a.store.elements id) more in
    let nodes : b.store.nodes ≡ a.store.nodes = ap (λ s. s.nodes) rest in
    let leaves : b.store.leaves ≡ a.store.leaves = ap (λ s. s.leaves) rest in
    let free : b.store.free ≡ a.store.free = ap (λ s. s.free) rest in
    let elements : b.store.elements ≡ with_tag_at a.store.elements id (with_attributes (tag_at a.store.elements id) more) = ap (λ s. s.elements) rest in
    let count : length b.store.elements ≡ length a.store.elements = ap length elements ∙ length-set a.store.elements id (record { tag = with_attributes (tag_at a.store.elements id) more; node = node_of a.store.elements id }) in
    record {
      document = omega (arith, sound.document);
      first = ap (λ es. node_of es 0) elements ∙ same a.store.elements id (with_attributes (tag_at a.store.elements id) more) h 0 ∙ sound.first;
      tree = rw (nodes, leaves, elements) (IsTree-retagged a.store.elements id (with_attributes (tag_at a.store.elements id) more) h a.store.nodes (length a.store.leaves) sound.tree);
      room = record {
        nodes = rw free (omega (arith, room.nodes));
        elements = rw free (omega (arith, room.elements));
        leaves = rw free (omega (arith, room.leaves));
        numbers = rw nodes (omega (arith, room.numbers));
        ids = omega (arith, room.ids);
        leaf_numbers = rw leaves (omega (arith, room.leaf_numbers));
        runs = λ k. rw leaves (omega (arith, room.runs k));
        attributes = rw elements
            (attributes-retagged a.store.elements id (with_attributes (tag_at a.store.elements id) more) h b.used (omega (arith, count-with_attributes (tag_at a.store.elements id) more, room.attributes id)) (λ k. omega (arith, room.attributes k)));
        used = omega (arith, room.used);
        cells = rw cells (omega (arith, room.cells));
        cell = rw cells room.cell;
      };
    }

pub branches-with_missing : (a b : Inside) (s : Seen) (id : ℕ) (more : List Attribute) → seen a ≡ s → id < length a.store.elements
    → b.store ≡ record a.store { elements = with_tag_at a.store.elements id (with_attributes (tag_at a.store.elements id) more) }
    → (seen b).branches ≡ with_tag s.branches id (with_attributes (branch s.branches id).tag more)
branches-with_missing a b s id more view h rest =
    ap (λ r. branches_of r.nodes r.elements (leaf_items r.leaves)) rest
    ∙ branches-retagged a.store.elements id (with_attributes (tag_at a.store.elements id) more) h a.store.nodes (items_in a)
    ∙ ap (λ b. with_tag (branches_of a.store.nodes a.store.elements (items_in a)) id (with_attributes b.tag more)) (sym (branch-at a.store.nodes a.store.elements (items_in a) id h))
    ∙ ap (λ r. with_tag r.branches id (with_attributes (branch r.branches id).tag more)) view
