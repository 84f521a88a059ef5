use Rattle.hp_arena.proofs.tree.Tree.shrink.Goals as goal

pub invariant_of-self : goal.invariant_of-self
invariant_of-self c = rw c.shrink.ensures c.self.invariant
