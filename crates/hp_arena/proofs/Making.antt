-- A new element, and the tree that has one element alone.
use Rattle.std.proofs.Common.{◌≡◌, ℕ, ◌+◌, ◌<◌, List, [], ◌∷◌, ◌++◌, length, map, ap, ◌∙◌, subst, arith}
use Rattle.std.proofs.lemmas.Bool.{true≢false}
use Rattle.std.proofs.lemmas.List.{map-append, append-nil}
use Rattle.hp_control.specs.Tree.{Item}
use Rattle.hp_arena.specs.Nodes.{inside}
use Rattle.hp_arena.specs.Shape.{IsTree, item_of, branch_of, branches_of}
use Rattle.hp_store.specs.Lists.{node_of}
use Rattle.hp_store.specs.declared.node.Node.{Node}
use Rattle.hp_store.specs.Store.{Element as ElementOf}
use Rattle.hp_arena.proofs.Walks.{inside-inner}
use Rattle.hp_arena.proofs.Shapes.{make_branch}
use Rattle.hp_arena.proofs.Growing.{IsGrown, with_element, IsAdded-element, inside-new, inside-grown, map-grown_items}
use Rattle.hp_arena.proofs.Branches.{items_of, branches-same}

-- the items of each list stay where nodes and leaves are added
pub items-grown : (old new : List Node) (elements : List ElementOf) (leaves more : List Item) → IsGrown old new → IsTree old elements (length leaves) → (id : ℕ) → id < length elements → items_of new elements (leaves ++ more) id ≡ items_of old elements leaves id
items-grown old new elements leaves more g t id h =
    ap (map (item_of new (leaves ++ more))) (inside-grown old new g elements (length leaves) t id h)
    ∙ map-grown_items old new elements leaves more g t (inside old (node_of elements id + 1)) (inside-inner old (node_of elements id + 1))

module _ (old : List Node) (elements : List ElementOf) (leaves : List Item) (t : IsTree old elements (length leaves)) (e : ElementOf) (own : e.node ≡ length old) where
  abbrev new : List Node
  new = with_element old elements (length leaves) t e own

  olds : branches_of new elements leaves ≡ branches_of old elements leaves
  olds = branches-same old new elements leaves leaves (λ id h.
      subst (λ ls. map (item_of new ls) (inside new (node_of elements id + 1)) ≡ items_of old elements leaves id) (append-nil leaves)
      (items-grown old new elements leaves [] (IsAdded-element old elements (length leaves) t e own).grown t id h))

  last : branch_of new leaves e ≡ make_branch e.tag []
  last = ap (λ s. make_branch e.tag (map (item_of new leaves) (inside new (s + 1)))) own ∙ ap (λ xs. make_branch e.tag (map (item_of new leaves) xs)) (inside-new old elements (length leaves) t e own)

  pub branches-element : branches_of new (elements ++ e ∷ []) leaves ≡ branches_of old elements leaves ++ make_branch e.tag [] ∷ []
  branches-element = map-append (branch_of new leaves) elements (e ∷ []) ∙ ap (λ bs. bs ++ branch_of new leaves e ∷ []) olds ∙ ap (λ b. branches_of old elements leaves ++ b ∷ []) last

-- no elements at all
pub IsTree-empty : IsTree [] [] 0
IsTree-empty = record {
  closed = record { next = λ s h. absurd (omega arith); prev = λ s h. absurd (omega arith) };
  ringed = record { after = λ s h. absurd (omega arith); before = λ s h. absurd (omega arith) };
  ring = λ id h. absurd (omega arith);
  end_in = λ id h. absurd (omega arith);
  element = λ id h. absurd (omega arith);
  end = λ id h. absurd (omega arith);
  home = λ s h. absurd (omega arith);
  leaf_once = λ s r number a b. cc a;
  listed = λ s i h. absurd (true≢false i);
  root = λ some. absurd (omega arith);
}
