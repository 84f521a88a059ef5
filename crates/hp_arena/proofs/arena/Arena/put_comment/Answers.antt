use Rattle.std.proofs.Common.{◌<◌, sym, subst, arith, refl}
use Rattle.hp_store.specs.declared.part.Leaf.TheVariants.{Comment}
use Rattle.hp_arena.proofs.Added.{at-there, tree-leaf, count-leaf, branches-leaf}
use Rattle.hp_arena.proofs.Glue.{place-in, nodes-in}
use Rattle.hp_arena.proofs.Rooms.{IsSound-leaf}
use Rattle.hp_arena.proofs.Texts.{comment-apart}
use Rattle.hp_arena.proofs.arena.Arena.put_comment.Goals as goal

pub node_at-at-requires-clause-there : goal.node_at-at-requires-clause-there
node_at-at-requires-clause-there c = place-in c.self.inside c.args.self.now c.args.place c.self.view_is c.requires.there

pub node_at-at-requires-clause-closed : goal.node_at-at-requires-clause-closed
node_at-at-requires-clause-closed c = nodes-in c.self.inside c.self.invariant

pub add_leaf-requires-clause-at_in : goal.add_leaf-requires-clause-at_in
add_leaf-requires-clause-at_in c = at-there c.self.inside c.self.invariant c.args.self.now c.self.view_is c.args.place (place-in c.self.inside c.args.self.now c.args.place c.self.view_is c.requires.there) c.node_at-at.result c.node_at-at.ensures

pub add_leaf-requires-clause-closed : goal.add_leaf-requires-clause-closed
add_leaf-requires-clause-closed c = c.self.invariant.tree.closed

pub invariant_of-self : goal.invariant_of-self
invariant_of-self c =
    IsSound-leaf c.self.inside _ (Comment c.args.text) c.self.invariant (subst (λ s. 0 < s.spare) (sym c.self.view_is) c.requires.room) c.add_leaf.ensures.elements refl (omega arith) (omega arith) (omega arith)
    (count-leaf c.self.inside c.self.invariant c.args.self.now c.self.view_is c.args.place (place-in c.self.inside c.args.self.now c.args.place c.self.view_is c.requires.there) c.node_at-at.result c.node_at-at.ensures c.add_leaf.new.store (Comment c.args.text) c.add_leaf.ensures.nodes c.add_leaf.ensures.elements c.add_leaf.ensures.leaves)
    c.add_leaf.ensures.leaves c.add_leaf.ensures.nodes_left c.add_leaf.ensures.elements_left c.add_leaf.ensures.leaves_left (omega (arith, c.self.invariant.room.cells)) c.self.invariant.room.cell
    (tree-leaf c.self.inside c.self.invariant c.args.self.now c.self.view_is c.args.place (place-in c.self.inside c.args.self.now c.args.place c.self.view_is c.requires.there) c.node_at-at.result c.node_at-at.ensures c.add_leaf.new.store (Comment c.args.text) c.add_leaf.ensures.nodes c.add_leaf.ensures.elements c.add_leaf.ensures.leaves)

pub returns-clause-branches : goal.returns-clause-branches
returns-clause-branches c =
    branches-leaf c.self.inside c.self.invariant c.args.self.now c.self.view_is c.args.place (place-in c.self.inside c.args.self.now c.args.place c.self.view_is c.requires.there) c.node_at-at.result c.node_at-at.ensures c.add_leaf.new.store (Comment c.args.text) c.add_leaf.ensures.nodes c.add_leaf.ensures.elements c.add_leaf.ensures.leaves
    (comment-apart _ c.args.text)
