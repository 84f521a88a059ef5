use Rattle.std.proofs.Common.{◌≡◌, ◌+◌, ◌-◌, ◌<◌, length, ap, refl, ◌∙◌, arith}
use Rattle.hp_control.specs.Standings.{summary_from}
use Rattle.hp_control.proofs.StandingLemmas.{renewed_elements, renewed_summaries}
use Rattle.hp_control.proofs.open_elements.renew_above.Goals as goal

pub returns : goal.returns
returns c =
    let ss = c.args.standing.now in
    let us = c.replace-old.new.self in
    let vs = c.replace.new.self in
    let s = c.at.result.now in
    let o = c.replace-old.result in
    let next : c.args.depth ≡ c.args.depth - 1 + 1 = omega (arith, c.requires.positive) in
    let h : c.args.depth - 1 < length c.args.standing.now = omega (arith, c.requires.positive, c.requires.within) in
    let e = c.summary_from-summary.ensures ∙ ap (summary_from s.element) c.summary_at.ensures in
    record {
      elements = renewed_elements ss us vs (c.args.depth - 1) _ o _ h c.replace-old.ensures.value c.replace-old.ensures.items c.replace.ensures.items refl;
      summaries = renewed_summaries ss us vs (c.args.depth - 1) c.args.depth s _ o _ next h c.at.ensures c.replace-old.ensures.value c.replace-old.ensures.items c.replace.ensures.items refl e c.requires.below;
    }
