use Rattle.hp_arena.proofs.tree.Tree.reserve.Goals as goal

pub invariant_of-self : goal.invariant_of-self
invariant_of-self c = rw c.reserve.ensures.branches c.self.invariant
