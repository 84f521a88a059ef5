use Rattle.std.proofs.Common.{◌∙◌, append-nil}
use Rattle.hp_print.specs.Stack.{pending}
use Rattle.hp_print.proofs.Steps.{whole_text}
use Rattle.hp_print.proofs.walk.first_marks.Goals as goal

pub returns-clause-whole : goal.returns-clause-whole
unfolding pending
returns-clause-whole c =
    let t = c.args.tree.now.branches in
    let p = rw c.in_ok-marks.ensures.items at c.push_first.ensures.pushed in
    p.text_is ∙ append-nil _ ∙ whole_text t
