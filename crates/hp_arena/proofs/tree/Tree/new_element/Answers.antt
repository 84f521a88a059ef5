use Rattle.hp_control.specs.declared.edit.Edit.TheVariants.{NewElement}
use Rattle.hp_arena.proofs.RootItems.{roots-applied}
use Rattle.hp_arena.proofs.tree.Tree.new_element.Goals as goal

pub invariant_of-self : goal.invariant_of-self
invariant_of-self c = rw (c.new_element.ensures.branches) (roots-applied c.self.inside.roots c.self.inside.arena.branches (NewElement c.replace.result) c.self.invariant)
