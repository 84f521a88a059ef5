-- Each number is borne once, or one isn't.
use Rattle.std.proofs.Common.{arith, ◌≡◌, ◌∙◌, sym, below_more, length, ◌+◌, eq-eqb, rules, true, false}
use Rattle.hp_board.proofs.owner.are_numbered.Goals as goal

pub returns-then-count_of-ne1 : goal.returns-then-count_of-ne1
returns-then-count_of-ne1 c = (λ no. absurd (search rules), λ all. absurd (c.if-count_of-ne1.true (c.count_of.ensures ∙ all.each c.loop-worker.worker c.loop-worker-test.true)))

pub loop-worker-preserved : goal.loop-worker-preserved
loop-worker-preserved c = below_more _ _ c.loop-worker.invariant (sym c.count_of.ensures ∙ omega arith)

pub returns-then-count_of-eq1 : goal.returns-then-count_of-eq1
returns-then-count_of-eq1 c =
    let n = length c.args.tallies.now in (
      (λ yes. record {
        each = λ worker small. c.loop-worker.invariant worker (omega arith);
        main = sym c.count_of-2.ensures ∙ c.if-count_of-eq1.true;
        count = let e : n ≡ c.from.result + 1 = grind (arith, yes) in omega (arith, e, c.from.ensures);
      }),
      (λ all. let e : n ≡ c.from.result + 1 = omega (arith, all.count, c.from.ensures) in eq-eqb n (c.from.result + 1) e),
    )
