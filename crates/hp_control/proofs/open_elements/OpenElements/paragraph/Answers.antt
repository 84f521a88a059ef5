use Rattle.std.proofs.Common.{ap, ◌∙◌}
use Rattle.hp_control.specs.declared.open_elements.Summary.{Summary}
use Rattle.hp_control.specs.Ends.{paragraph_end}
use Rattle.hp_control.proofs.SummaryLemmas.{summaries_first}
use Rattle.hp_control.proofs.open_elements.OpenElements.paragraph.Goals as goal

pub returns : goal.returns
returns c = ap (λ (s : Summary). s.end) (c.summary_at.ensures ∙ summaries_first c.self.invariant) ∙ ap paragraph_end c.self.view_is
