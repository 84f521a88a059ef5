use Rattle.std.proofs.Common.{◌≡◌, ap, ◌∙◌}
use Rattle.hp_control.specs.Standings.{elements_of, summary_from, summary_of}
use Rattle.hp_control.proofs.SummaryLemmas.{summaries_first}
use Rattle.hp_control.proofs.StandingLemmas.{told_pushed}
use Rattle.hp_control.proofs.open_elements.put_on_top.Goals as goal

pub invariant_of-stack : goal.invariant_of-stack
invariant_of-stack c =
    let e : c.summary_from-summary.result ≡ summary_from c.args.element (summary_of (elements_of c.stack.inside.standing)) =
    c.summary_from-summary.ensures ∙ ap (summary_from c.args.element) (c.summary_at.ensures ∙ summaries_first c.stack.invariant) in
    told_pushed c.push.result c.stack.inside.standing c.push.new.self (record { element = c.args.element; summary = c.summary_from-summary.result }) c.push.ensures.ok c.push.ensures.err c.stack.invariant e
