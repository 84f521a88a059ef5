use Rattle.std.proofs.Common.{sym, ◌∙◌}
use Rattle.hp_arena.proofs.RootItems.{roots-applied, apart-table}
use Rattle.hp_arena.proofs.tree.Tree.apply_one.Goals as goal

pub apply-requires-clause-table : goal.apply-requires-clause-table
apply-requires-clause-table c = λ h. apart-table c.self.inside.roots c.self.inside.arena.branches c.args.edit c.self.invariant (sym c.is_apart-apart.ensures ∙ h)

pub invariant_of-self : goal.invariant_of-self
invariant_of-self c = rw (c.after-self-inside.ensures, c.apply.ensures.branches) (roots-applied c.self.inside.roots c.self.inside.arena.branches c.args.edit c.self.invariant)
