use Rattle.hp_arena.specs.declared.roots.Roots.TheVariants as roots
use Rattle.hp_arena.proofs.RootItems.{roots_document}
use Rattle.hp_arena.proofs.tree.Tree.start.Goals as goal

pub invariant_of-result : goal.invariant_of-result
invariant_of-result c = roots_document roots.None _ c.in_ok-arena.ensures
