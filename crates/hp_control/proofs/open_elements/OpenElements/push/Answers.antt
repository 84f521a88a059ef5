use Rattle.std.proofs.Common.{◌≡◌, ap, ◌∙◌}
use Rattle.hp_control.specs.Standings.{elements_of, summary_from, summary_of}
use Rattle.hp_control.proofs.SummaryLemmas.{summaries_first}
use Rattle.hp_control.proofs.StandingLemmas.{told_pushed}
use Rattle.hp_control.proofs.open_elements.OpenElements.push.Goals as goal

pub invariant_of-self : goal.invariant_of-self
invariant_of-self c =
    let e : c.summary_from-summary.result ≡ summary_from c.args.element (summary_of (elements_of c.self.inside.standing)) =
    c.summary_from-summary.ensures ∙ ap (summary_from c.args.element) (c.summary_at.ensures ∙ summaries_first c.self.invariant) in
    told_pushed c.add.result c.self.inside.standing c.add.new.self (record { element = c.args.element; summary = c.summary_from-summary.result }) c.add.ensures.ok c.add.ensures.err c.self.invariant e
