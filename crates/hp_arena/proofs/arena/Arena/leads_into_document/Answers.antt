use Rattle.std.proofs.Common.{◌≡◌, ◌≢◌, ◌+◌, ◌<◌, ◌==◌, ℕ, true, false, length, sym, ap, ◌∙◌, subst, refl}
use Rattle.std.proofs.lemmas.Bool.{cond-true}
use Rattle.hp_control.specs.Tree.{leads_into_document, is_place, id_of, stands_in, has_parent}
use Rattle.hp_control.specs.declared.edit.Place.{Place}
use Rattle.hp_control.specs.declared.edit.Place.TheVariants.{Foster}
use Rattle.hp_control.specs.declared.edit.Ref.{Ref}
use Rattle.hp_store.specs.Lists.{node_at, node_of}
use Rattle.hp_store.specs.declared.node.Node.{Node}
use Rattle.hp_arena.specs.Arena.{Seen}
use Rattle.hp_arena.specs.Nodes.{links_of, end_from}
use Rattle.hp_arena.specs.Roots.{is_root_table}
use Rattle.hp_arena.specs.Shape.{IsSound, IsPlaceIn, items_in, seen}
use Rattle.hp_arena.specs.declared.arena.Arena.TheInside.{Inside}
use Rattle.hp_arena.proofs.Detaching.{node-below}
use Rattle.hp_arena.proofs.Fosters.{has_parent-some}
use Rattle.hp_arena.proofs.Glue.{place-in, tree_in}
use Rattle.hp_arena.proofs.Items.{leaves-plain}
use Rattle.hp_arena.proofs.Places.{leads-alone, leads-table}
use Rattle.hp_arena.proofs.arena.Arena.leads_into_document.Goals as goal

foster-in : (a : Inside) (s : Seen) (place : Place) (table above : Ref) → seen a ≡ s → is_place s.branches place ≡ true → place ≡ Foster table above → id_of table < length a.store.elements
foster-in a s place table above view there is = (subst (λ p. IsPlaceIn (length a.store.elements) p) is (place-in a s place view there)).0

-- the table's node and the one after it, as the code reads them
module _ (a : Inside) (sound : IsSound a) (s : Seen) (view : seen a ≡ s) (table above : Ref) (table_in : id_of table < length a.store.elements) (node : ℕ) (n : Node)
    (own : node ≡ node_of a.store.elements (id_of table)) (read : n ≡ node_at a.store.nodes node) where
  node_in : node < length a.store.nodes
  node_in = subst (λ k. k < length a.store.nodes) (sym own) (node-below a.store.nodes a.store.elements (length a.store.leaves) sound.tree (id_of table) table_in)

  next : n.next ≡ (links_of a.store.nodes).next (node_of a.store.elements (id_of table))
  next = ap (λ x. x.next) read ∙ ap (λ k. (links_of a.store.nodes).next k) own

  alone : n.next ≡ node → (id_of above == 0) ≡ leads_into_document s.branches (Foster table above)
  alone lone =
      sym (leads-alone a.store.nodes a.store.elements (items_in a) (leaves-plain a.store.leaves) (tree_in a sound) table above table_in (sym next ∙ lone ∙ own))
      ∙ ap (λ r. leads_into_document r.branches (Foster table above)) view

  away : n.next ≢ node → (links_of a.store.nodes).next (node_of a.store.elements (id_of table)) ≢ node_of a.store.elements (id_of table)
  away other lone = other (next ∙ lone ∙ sym own)

  walked : n.next ≢ node → (end : ℕ) → end ≡ end_from a.store.nodes (length a.store.nodes) node → (end == 1) ≡ leads_into_document s.branches (Foster table above)
  walked other end is =
      let from : ℕ = end_from a.store.nodes (length a.store.nodes) (node_of a.store.elements (id_of table)) in
      ap (λ k. k == 1) (is ∙ ap (λ k. end_from a.store.nodes (length a.store.nodes) k) own)
      ∙ ap (λ k. from == (k + 1)) (sym sound.first)
      ∙ sym (leads-table a.store.nodes a.store.elements (items_in a) (leaves-plain a.store.leaves) (tree_in a sound) table above table_in sound.document (away other))
      ∙ ap (λ r. leads_into_document r.branches (Foster table above)) view

  apart : n.next ≢ node → stands_in s.branches 0 (id_of table) ≡ false → false ≡ leads_into_document s.branches (Foster table above)
  apart other none =
      sym none
      ∙ ap (λ r. stands_in r.branches 0 (id_of table)) (sym view)
      ∙ sym (cond-true (has_parent (seen a).branches (id_of table)) _ _
      (has_parent-some a.store.nodes a.store.elements (items_in a) (leaves-plain a.store.leaves) (tree_in a sound) (id_of table) table_in (away other)))
      ∙ ap (λ r. leads_into_document r.branches (Foster table above)) view

pub node_of-node-requires : goal.node_of-node-requires
node_of-node-requires c = rw c.id_of-in-Foster.ensures (foster-in c.self.inside c.args.self.now c.args.place c.in-Foster.table c.in-Foster.above c.self.view_is c.requires.there c.in-Foster.is)

pub node-requires : goal.node-requires
node-requires c =
    rw (c.node_of-node.ensures, c.id_of-in-Foster.ensures)
    (node-below c.self.inside.store.nodes c.self.inside.store.elements (length c.self.inside.store.leaves) c.self.invariant.tree (id_of c.in-Foster.table)
    (foster-in c.self.inside c.args.self.now c.args.place c.in-Foster.table c.in-Foster.above c.self.view_is c.requires.there c.in-Foster.is))

pub returns-in-Into : goal.returns-in-Into
returns-in-Into c = rw (c.id_of.ensures, c.in-Into.is) refl

pub end_after-requires-clause-from_in : goal.end_after-requires-clause-from_in
end_after-requires-clause-from_in c = node_in c.self.inside c.self.invariant c.args.self.now c.self.view_is c.in-Foster.table c.in-Foster.above (foster-in c.self.inside c.args.self.now c.args.place c.in-Foster.table c.in-Foster.above c.self.view_is c.requires.there c.in-Foster.is) c.node_of-node.result c.node.result (subst (λ k. c.node_of-node.result ≡ node_of c.self.inside.store.elements k) c.id_of-in-Foster.ensures c.node_of-node.ensures) c.node.ensures

pub end_after-requires-clause-closed : goal.end_after-requires-clause-closed
end_after-requires-clause-closed c = c.self.invariant.tree.closed

pub returns-then-node : goal.returns-then-node
returns-then-node c = ap (λ n. n == 0) c.id_of-then-node.ensures ∙ alone c.self.inside c.self.invariant c.args.self.now c.self.view_is c.in-Foster.table c.in-Foster.above (foster-in c.self.inside c.args.self.now c.args.place c.in-Foster.table c.in-Foster.above c.self.view_is c.requires.there c.in-Foster.is) c.node_of-node.result c.node.result (subst (λ k. c.node_of-node.result ≡ node_of c.self.inside.store.elements k) c.id_of-in-Foster.ensures c.node_of-node.ensures) c.node.ensures c.if-node.true ∙ ap (leads_into_document c.args.self.now.branches) (sym c.in-Foster.is)

pub returns-then-apart : goal.returns-then-apart
returns-then-apart c =
    apart c.self.inside c.self.invariant c.args.self.now c.self.view_is c.in-Foster.table c.in-Foster.above (foster-in c.self.inside c.args.self.now c.args.place c.in-Foster.table c.in-Foster.above c.self.view_is c.requires.there c.in-Foster.is) c.node_of-node.result c.node.result (subst (λ k. c.node_of-node.result ≡ node_of c.self.inside.store.elements k) c.id_of-in-Foster.ensures c.node_of-node.ensures) c.node.ensures c.if-node.false (ap (is_root_table c.args.self.now.branches) (sym c.in-Foster.is) ∙ c.requires.table c.if-apart.true)
    ∙ ap (leads_into_document c.args.self.now.branches) (sym c.in-Foster.is)

pub returns-else-apart : goal.returns-else-apart
returns-else-apart c = walked c.self.inside c.self.invariant c.args.self.now c.self.view_is c.in-Foster.table c.in-Foster.above (foster-in c.self.inside c.args.self.now c.args.place c.in-Foster.table c.in-Foster.above c.self.view_is c.requires.there c.in-Foster.is) c.node_of-node.result c.node.result (subst (λ k. c.node_of-node.result ≡ node_of c.self.inside.store.elements k) c.id_of-in-Foster.ensures c.node_of-node.ensures) c.node.ensures c.if-node.false c.end_after.result c.end_after.ensures ∙ ap (leads_into_document c.args.self.now.branches) (sym c.in-Foster.is)
