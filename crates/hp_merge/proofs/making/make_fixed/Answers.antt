use Rattle.std.proofs.Common.{ap, ◌∙◌, map}
use Rattle.hp_control.specs.declared.edit.Edit.{Edit}
use Rattle.hp_control.specs.Apply.{named_edit}
use Rattle.hp_control.specs.Nothing.{nothing}
use Rattle.hp_control.specs.Tree.{applied_all}
use Rattle.std.specs.Prelude.{List}
use Rattle.hp_merge.proofs.Made.{fixed_all}
use Rattle.hp_merge.proofs.making.make_fixed.Goals as goal

pub returns : goal.returns
returns c =
    c.apply_all.ensures.branches
    ∙ (ap (λ (es : List Edit). applied_all c.args.tree.now.branches (map (named_edit nothing) es)) (c.as_mut_slice.ensures.value ∙ c.into_vec-edits.ensures)
    ∙ ap (applied_all c.args.tree.now.branches) (fixed_all c.edits_are_told.ensures.fixed nothing c.args.edits c.requires.fixed))
