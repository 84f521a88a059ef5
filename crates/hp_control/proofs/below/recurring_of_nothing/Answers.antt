use Rattle.std.proofs.Common.{ap, ◌∙◌, sym}
use Rattle.hp_elements.specs.Names.{text_of}
use Rattle.hp_elements.specs.KnownNames as known
use Rattle.hp_elements.specs.declared.kinds.Kinds.TheVariants as kinds
use Rattle.hp_elements.specs.declared.sets.SetName.TheVariants as sets
use Rattle.hp_control.specs.declared.recurring.Recurring.{Recurring}
use Rattle.hp_control.specs.Nothing.{nothing}
use Rattle.hp_control.specs.Remembering.{question_of}
use Rattle.hp_control.specs.Truth.{answer_of}
use Rattle.hp_control.proofs.NothingLemmas.{nothing_listed, nothing_quiet, nothing_seen}
use Rattle.hp_control.proofs.below.recurring_of_nothing.Goals as goal

pub returns-in-Html : goal.returns-in-Html
returns-in-Html c = sym (ap (λ (q : Recurring). answer_of nothing (question_of q)) c.in-Html.is ∙ nothing_seen c.in-Html.depth kinds.AnyHtml kinds.All)

pub returns-in-Paragraph : goal.returns-in-Paragraph
returns-in-Paragraph c =
    sym (ap (λ (q : Recurring). answer_of nothing (question_of q)) c.in-Paragraph.is ∙ nothing_seen c.in-Paragraph.depth (kinds.Html (text_of known.P)) (kinds.Set sets.ButtonScopeEnds))

pub returns-in-Quiet : goal.returns-in-Quiet
returns-in-Quiet c = sym (ap (λ (q : Recurring). answer_of nothing (question_of q)) c.in-Quiet.is ∙ nothing_quiet c.in-Quiet.depth c.in-Quiet.cuts)

pub returns-in-Listed : goal.returns-in-Listed
returns-in-Listed c =
    sym (ap (λ (q : Recurring). answer_of nothing (question_of q)) c.in-Listed.is ∙ nothing_listed c.in-Listed.depth c.in-Listed.cuts (text_of c.in-Listed.name))
