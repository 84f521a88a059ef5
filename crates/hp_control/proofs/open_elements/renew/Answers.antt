use Rattle.std.proofs.Common.{◌≡◌, ◌+◌, ◌-◌, ℕ, length, drop, ap, sym, subst, ◌∙◌, arith}
use Rattle.hp_control.specs.Standings.{elements_of, summaries_of, AreSummaries}
use Rattle.hp_control.proofs.StandingLemmas.{elements_count}
use Rattle.hp_control.proofs.open_elements.renew.Goals as goal

pub renew_above-requires : goal.renew_above-requires
renew_above-requires c =
    let e = elements_count c.loop-turn.standing in
    let f = elements_count c.args.standing.now in
    let g = ap length c.loop-turn.invariant.0 in
    record {
      positive = omega (arith, c.loop-turn-test.true);
      within = omega (arith, c.requires.count);
      below = c.loop-turn.invariant.1;
    }

pub loop-turn-preserved : goal.loop-turn-preserved
loop-turn-preserved c =
    let vs = c.renew_above.new.standing in
    let g : c.args.count - (c.loop-turn.turn + 1) ≡ c.args.count - c.loop-turn.turn - 1 = omega arith in
    (c.renew_above.ensures.elements ∙ c.loop-turn.invariant.0, subst (λ (n : ℕ). AreSummaries (drop n (elements_of vs)) (drop n (summaries_of vs))) (sym g) c.renew_above.ensures.summaries)
