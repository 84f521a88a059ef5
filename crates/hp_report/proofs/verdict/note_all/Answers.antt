use Rattle.hp_report.proofs.Verdicts.{first_exact}
use Rattle.hp_report.proofs.verdict.note_all.Goals as goal

pub returns : goal.returns
returns c = rw c.note_judgements.ensures (first_exact _ c.args.journal.now)
