use Rattle.std.proofs.Common.{◌∙◌, ap}
use Rattle.hp_print.specs.Elements.{elements_text}
use Rattle.hp_select.specs.Selected.{selected}
use Rattle.hp_program.proofs.Selecting.{found_text, part_as, whole_as}
use Rattle.hp_program.proofs.output.write_selected.Goals as goal

pub returns-in-Ok-clause-whole : goal.returns-in-Ok-clause-whole
returns-in-Ok-clause-whole g c =
    let t = c.args.tree.now.branches in
    whole_as c.write_elements.result _ _ _ _ (ap (elements_text t) c.as_slice.ensures ∙ found_text t c.in-Ok.found (selected t c.args.selector.now) c.in-Ok.ensures.elements) c.write_elements.ensures.whole

pub returns-in-Ok-clause-part : goal.returns-in-Ok-clause-part
returns-in-Ok-clause-part g c =
    let t = c.args.tree.now.branches in
    part_as c.write_elements.result _ _ _ _ (ap (elements_text t) c.as_slice.ensures ∙ found_text t c.in-Ok.found (selected t c.args.selector.now) c.in-Ok.ensures.elements) c.write_elements.ensures.part
