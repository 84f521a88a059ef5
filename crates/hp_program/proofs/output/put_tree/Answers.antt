use Rattle.std.proofs.Common.{ap, sym}
use Rattle.hp_program.specs.Forms.{tree_text}
use Rattle.hp_program.specs.declared.form.Form.{Form}
use Rattle.hp_program.proofs.Answered.{of_equal}
use Rattle.hp_program.proofs.output.put_tree.Goals as goal

pub returns-in-PrintedTree-clause-written : goal.returns-in-PrintedTree-clause-written
returns-in-PrintedTree-clause-written g c =
    of_equal _ _ c.args.report.items _ c.put_printed.result (ap (λ (form : Form). tree_text form c.args.tree.branches) (sym c.in-PrintedTree.is)) c.put_printed.ensures.written

pub returns-in-HtmlText-clause-written : goal.returns-in-HtmlText-clause-written
returns-in-HtmlText-clause-written g c =
    of_equal _ _ c.args.report.items _ c.put_html.result (ap (λ (form : Form). tree_text form c.args.tree.branches) (sym c.in-HtmlText.is)) c.put_html.ensures.written

pub returns-in-Elements-clause-written : goal.returns-in-Elements-clause-written
returns-in-Elements-clause-written g c =
    of_equal _ _ c.args.report.items _ c.put_elements.result (ap (λ (form : Form). tree_text form c.args.tree.branches) (sym c.in-Elements.is)) c.put_elements.ensures.written
