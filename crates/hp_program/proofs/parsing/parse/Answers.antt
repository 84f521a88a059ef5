use Rattle.std.proofs.Common.{List, subst}
use Rattle.hp_board.specs.declared.journal.Entry.{Entry}
use Rattle.hp_cut.specs.Places.{Cutting}
use Rattle.hp_text.specs.Page.{text_of}
use Rattle.hp_program.specs.Reports.{IsReportIf, IsReportTextIf}
use Rattle.hp_program.proofs.Drilled.{reported}
use Rattle.hp_program.proofs.parsing.parse.Goals as goal

pub returns-in-Ok-clause-report : goal.returns-in-Ok-clause-report
returns-in-Ok-clause-report g c =
    let asked = c.args.asked.now in
    let is = c.in_ok-tree-2.ensures.parsed in
    subst (λ (cuts : Cutting). IsReportIf asked.report (text_of c.args.page) cuts asked.guess asked.workers c.in-Ok.report.items) c.requires.as_asked
    (reported asked.report (text_of c.args.page) c.args.cuts.now asked.guess asked.workers c.in_ok-tree-2.journal.items c.in-Ok.report.items
    (record { done = is.done; fair = is.fair; by = is.by; borne = is.borne })
    (subst (λ (journal : List Entry). IsReportTextIf asked.report c.args.cuts.now journal c.in-Ok.report.items) c.as_slice.ensures.value c.in-Ok.ensures))
