use Rattle.std.proofs.Common.{◌≡◌, ◌⊎◌, subst, sym}
use Rattle.hp_control.specs.declared.recurring.Recurring.{Recurring}
use Rattle.hp_control.specs.Remembering.{Remembers}
use Rattle.hp_control.proofs.RememberingLemmas.{put_html, put_paragraph, put_quiet, put_listed}
use Rattle.hp_control.proofs.recurring.Remembered.put.Goals as goal

pub returns-in-Html : goal.returns-in-Html
returns-in-Html c = λ other h. subst (λ (x : Recurring). (other ≡ x) ⊎ Remembers c.args.self.now other) (sym c.in-Html.is) (put_html c.args.self.now c.in-Html.depth other h)

pub returns-in-Paragraph : goal.returns-in-Paragraph
returns-in-Paragraph c = λ other h. subst (λ (x : Recurring). (other ≡ x) ⊎ Remembers c.args.self.now other) (sym c.in-Paragraph.is) (put_paragraph c.args.self.now c.in-Paragraph.depth other h)

pub returns-in-Quiet : goal.returns-in-Quiet
returns-in-Quiet c = λ other h. subst (λ (x : Recurring). (other ≡ x) ⊎ Remembers c.args.self.now other) (sym c.in-Quiet.is) (put_quiet c.args.self.now c.in-Quiet.depth c.in-Quiet.cuts other h)

pub returns-in-Listed : goal.returns-in-Listed
returns-in-Listed c =
    λ other h. subst (λ (x : Recurring). (other ≡ x) ⊎ Remembers c.args.self.now other) (sym c.in-Listed.is)
    (put_listed c.args.self.now c.in-Listed.depth c.in-Listed.cuts c.in-Listed.name other h)
