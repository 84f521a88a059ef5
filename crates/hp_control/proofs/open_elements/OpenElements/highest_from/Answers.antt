use Rattle.std.proofs.Common.{ap, drop, ◌∙◌}
use Rattle.hp_control.specs.declared.open_elements.Summary.{Summary}
use Rattle.hp_control.specs.Standings.{highest_id}
use Rattle.hp_control.proofs.SummaryLemmas.{summaries_first, summaries_dropped}
use Rattle.hp_control.proofs.open_elements.OpenElements.highest_from.Goals as goal

pub returns : goal.returns
returns c =
    ap (λ (s : Summary). s.highest) (c.summary_at.ensures ∙ summaries_first (summaries_dropped c.args.depth c.self.invariant))
    ∙ ap (λ es. highest_id (drop c.args.depth es)) c.self.view_is
