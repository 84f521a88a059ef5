use Rattle.hp_text.specs.Page.{text_of}
use Rattle.hp_program.proofs.Answered.{of_tree}
use Rattle.hp_program.proofs.top.put_cut.Goals as goal

pub returns-in-Ok-clause-answer : goal.returns-in-Ok-clause-answer
returns-in-Ok-clause-answer g c = of_tree c.args.asked.now c.args.form.now (text_of c.args.page) _ _ _ c.put_tree.result c.requires.accepted c.in-Ok.ensures.tree c.in-Ok.ensures.report c.put_tree.ensures.written
