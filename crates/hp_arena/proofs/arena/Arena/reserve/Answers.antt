use Rattle.std.proofs.Common.{ap, ◌∙◌, arith, refl}
use Rattle.hp_store.specs.Leaves.{leaf_items}
use Rattle.hp_arena.specs.Shape.{branches_of}
use Rattle.hp_arena.proofs.Rooms.{IsSound-wider, IsSound-widened}
use Rattle.hp_arena.proofs.arena.Arena.reserve.Goals as goal

pub reserve-requires : goal.reserve-requires
reserve-requires c = (c.is_within.ensures.0 c.if-not-is_within.false).1

pub add_cells-requires : goal.add_cells-requires
add_cells-requires c = c.self.invariant.room.cell

pub invariant_of-self : goal.invariant_of-self
invariant_of-self c =
    IsSound-wider c.self.inside _ c.self.invariant c.reserve.ensures.lists refl c.self.invariant.room.cell c.reserve.ensures.kept refl (omega arith)

pub invariant_of-self-in_err-add_cells : goal.invariant_of-self-in_err-add_cells
invariant_of-self-in_err-add_cells c =
    IsSound-wider c.self.inside _ c.self.invariant c.reserve.ensures.lists refl c.add_cells.ensures.cell c.reserve.ensures.kept refl c.add_cells.ensures.more

pub invariant_of-self-2 : goal.invariant_of-self-2
invariant_of-self-2 c =
    let within = c.is_within.ensures.0 c.if-not-is_within.false in
    let few = within.0 in
    IsSound-widened c.self.inside _ c.self.invariant c.reserve.ensures.lists refl c.add_cells.ensures.cell c.in_ok-reserve.ensures.room c.in_ok-add_cells.ensures.enough within.1
    (omega (arith, few, c.most.ensures, c.counts.ensures.nodes)) (omega (arith, few, c.most.ensures, c.counts.ensures.elements)) (omega (arith, few, c.most.ensures, c.counts.ensures.leaves)) (omega (arith, few, c.most.ensures))

pub returns-clause-branches : goal.returns-clause-branches
returns-clause-branches c = ap (λ s. branches_of s.nodes s.elements (leaf_items s.leaves)) c.reserve.ensures.lists ∙ ap (λ s. s.branches) c.self.view_is

pub returns-in_err-reserve-clause-branches : goal.returns-in_err-reserve-clause-branches
returns-in_err-reserve-clause-branches c = ap (λ s. branches_of s.nodes s.elements (leaf_items s.leaves)) c.reserve.ensures.lists ∙ ap (λ s. s.branches) c.self.view_is

pub returns-in_err-add_cells-clause-branches : goal.returns-in_err-add_cells-clause-branches
returns-in_err-add_cells-clause-branches c = ap (λ s. branches_of s.nodes s.elements (leaf_items s.leaves)) c.reserve.ensures.lists ∙ ap (λ s. s.branches) c.self.view_is
