use Rattle.std.proofs.Common.{◌≡◌, ◌+◌, [], arith, refl, ap, sym, ◌∙◌, subst}
use Rattle.std.proofs.lemmas.List.Elements.{All-append}
use Rattle.hp_control.specs.Tree.{branch}
use Rattle.hp_groves.specs.Grafts.{graft}
use Rattle.hp_store.specs.Leaves.{IsCell}
use Rattle.hp_store.specs.Lists.{node_of}
use Rattle.hp_store.specs.Store.{Stored}
use Rattle.hp_arena.specs.Groves.{behind_document}
use Rattle.hp_arena.specs.Nodes.{inside}
use Rattle.hp_arena.specs.Shape.{IsSound, seen}
use Rattle.hp_arena.proofs.Behind.{IsSound-grafted, branches-grafted, inside-blank}
use Rattle.hp_arena.proofs.Rooms.{IsSound-wider}
use Rattle.hp_arena.proofs.arena.Arena.graft.Goals as goal

pub append-requires-clause-nodes_fit : goal.append-requires-clause-nodes_fit
append-requires-clause-nodes_fit c =
    let few = (c.is_within.ensures.0 c.if-not-is_within.false).0 in
    omega (arith, few, c.most-most.ensures, c.counts.ensures.nodes, c.counts-2.ensures.nodes)

pub append-requires-clause-elements_fit : goal.append-requires-clause-elements_fit
append-requires-clause-elements_fit c =
    let few = (c.is_within.ensures.0 c.if-not-is_within.false).0 in
    omega (arith, few, c.most-most.ensures, c.counts.ensures.elements, c.counts-2.ensures.elements)

pub append-requires-clause-leaves_fit : goal.append-requires-clause-leaves_fit
append-requires-clause-leaves_fit c =
    let few = (c.is_within.ensures.0 c.if-not-is_within.false).0 in
    omega (arith, few, c.most-most.ensures, c.counts.ensures.leaves, c.counts-2.ensures.leaves)

pub invariant_of-self-in-Err : goal.invariant_of-self-in-Err
invariant_of-self-in-Err c =
    let same : c.append.new.self ≡ c.self.inside.store = c.in-Err.ensures.unchanged in
    subst (λ (s : Stored). IsSound (record c.self.inside { store = s; cells = c.reserve.new.self })) (sym same)
    (IsSound-wider c.self.inside (record c.self.inside { cells = c.reserve.new.self }) c.self.invariant refl refl (rw c.reserve.ensures.items c.self.invariant.room.cell)
    (record { nodes = omega arith; elements = omega arith; leaves = omega arith }) refl (omega (arith, c.reserve.ensures.len)))

pub invariant_of-self-2 : goal.invariant_of-self-2
invariant_of-self-2 c =
    let within = c.is_within.ensures.0 c.if-not-is_within.false in
    let few = within.0 in
    let nothing : inside c.grove.inside.store.nodes (node_of c.grove.inside.store.elements 0 + 1) ≡ [] = inside-blank c.grove.inside c.grove.invariant (ap (λ s. branch s.branches 0) c.grove.view_is ∙ c.requires.blank.blank) in
    IsSound-grafted c.self.inside c.grove.inside _ c.self.invariant c.grove.invariant nothing c.in_default.ensures.lists
    (omega (arith, few, c.most-most.ensures, c.counts.ensures.nodes, c.counts-2.ensures.nodes)) (omega (arith, few, c.most-most.ensures, c.counts.ensures.elements, c.counts-2.ensures.elements)) (omega (arith, few, c.most-most.ensures, c.counts.ensures.leaves, c.counts-2.ensures.leaves))
    refl within.1 (omega (arith, few, c.most-most.ensures))
    (record {
      nodes = omega (arith, c.self.invariant.room.nodes, c.in_default.ensures.free.nodes);
      elements = omega (arith, c.self.invariant.room.elements, c.in_default.ensures.free.elements);
      leaves = omega (arith, c.self.invariant.room.leaves, c.in_default.ensures.free.leaves);
    })
    (omega (arith, c.append_reserved.ensures.len, c.reserve.ensures.len, c.self.invariant.room.cells))
    (rw (c.append_reserved.ensures.items, c.reserve.ensures.items) (All-append IsCell c.self.inside.cells.items c.grove.inside.cells.items c.self.invariant.room.cell c.grove.invariant.room.cell))

pub returns-clause-branches : goal.returns-clause-branches
returns-clause-branches c =
    let few = (c.is_within.ensures.0 c.if-not-is_within.false).0 in
    let nothing : inside c.grove.inside.store.nodes (node_of c.grove.inside.store.elements 0 + 1) ≡ [] = inside-blank c.grove.inside c.grove.invariant (ap (λ s. branch s.branches 0) c.grove.view_is ∙ c.requires.blank.blank) in
    branches-grafted c.self.inside c.grove.inside (record { store = c.append.new.self; cells = c.append_reserved.new.list; spare = c.self.inside.spare; used = c.self.inside.used + c.grove.inside.used }) c.self.invariant c.grove.invariant nothing c.in_default.ensures.lists
    (omega (arith, few, c.most-most.ensures, c.counts.ensures.nodes, c.counts-2.ensures.nodes)) (omega (arith, few, c.most-most.ensures, c.counts.ensures.elements, c.counts-2.ensures.elements)) (omega (arith, few, c.most-most.ensures, c.counts.ensures.leaves, c.counts-2.ensures.leaves))
    ∙ ap (λ s. graft s.branches (behind_document (seen c.grove.inside).branches)) c.self.view_is
    ∙ ap (λ s. graft c.args.self.now.branches (behind_document s.branches)) c.grove.view_is
