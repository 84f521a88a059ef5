use Rattle.hp_control.specs.declared.edit.Child.TheVariants.{Text}
use Rattle.hp_control.specs.declared.edit.Edit.TheVariants.{Put}
use Rattle.hp_control.specs.declared.edit.Place.TheVariants.{Into}
use Rattle.hp_control.specs.declared.edit.Ref.TheVariants.{Fixed}
use Rattle.hp_arena.proofs.RootItems.{roots-applied}
use Rattle.hp_arena.proofs.tree.Tree.put_text.Goals as goal

pub invariant_of-self : goal.invariant_of-self
invariant_of-self c = rw (c.put_text_into.ensures.branches) (roots-applied c.self.inside.roots c.self.inside.arena.branches (Put (Text c.replace-text.result) (Into (Fixed c.args.parent))) c.self.invariant)
