use Rattle.std.proofs.Common.{◌≡◌, ◌==◌, false, sym, ap, ◌∙◌, arith}
use Rattle.std.proofs.lemmas.Bool.Decides.{nat_tests}
use Rattle.hp_control.specs.Apply.{named_child}
use Rattle.hp_control.specs.Nothing.{nothing}
use Rattle.hp_control.specs.Tree.{applied}
use Rattle.hp_control.specs.declared.edit.Child.TheVariants.{Element}
use Rattle.hp_control.specs.declared.edit.Edit.TheVariants.{Put}
use Rattle.hp_control.specs.declared.edit.Place.TheVariants.{Into}
use Rattle.hp_control.specs.declared.edit.Ref.TheVariants.{Fixed}
use Rattle.hp_arena.proofs.RootItems.{roots-applied}
use Rattle.hp_arena.proofs.tree.Tree.put_child.Goals as goal

pub invariant_of-self : goal.invariant_of-self
invariant_of-self c =
    let inner : (c.args.parent == 0) ≡ false = grind (arith, nat_tests, c.if-parent-ne0.true) in
    let all = roots-applied c.self.inside.roots c.self.inside.arena.branches (Put (Element (Fixed c.told.result)) (Into (Fixed c.args.parent))) c.self.invariant in
    rw c.put_element_into.ensures.branches (rw inner at all)

pub returns-in-Element-clause-branches : goal.returns-in-Element-clause-branches
returns-in-Element-clause-branches c =
    let t = c.args.self.now.branches in
    c.put_element_into.ensures.branches
    ∙ ap (λ s. applied s.branches (Put (Element (Fixed c.told.result)) (Into (Fixed c.args.parent)))) c.self.view_is
    ∙ ap (λ n. applied t (Put (Element n) (Into (Fixed c.args.parent)))) (sym c.told.ensures)
    ∙ ap (λ k. applied t (Put (named_child nothing k) (Into (Fixed c.args.parent)))) (sym c.in-Element.is)
