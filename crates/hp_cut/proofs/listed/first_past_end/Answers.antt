use Rattle.std.proofs.Common.{◌≡◌, true, false, sym, ◌∙◌, arith}
use Rattle.std.proofs.lemmas.Bool.Decides.{nat_tests}
use Rattle.hp_cut.specs.Refusals.{passes_end}
use Rattle.hp_cut.proofs.Firsts.{first_within-here, first_within-skip}
use Rattle.hp_cut.proofs.listed.first_past_end.Goals as goal

pub returns-then-text-place : goal.returns-then-text-place
returns-then-text-place c =
    let passes : passes_end c.args.text.now c.args.places.now c.loop-index.index ≡ true = grind (arith, nat_tests) in
    sym (first_within-here _ _ _ c.loop-index-test.true passes) ∙ c.loop-index.invariant

pub loop-index-preserved : goal.loop-index-preserved
loop-index-preserved c =
    let fails : passes_end c.args.text.now c.args.places.now c.loop-index.index ≡ false = grind (arith, nat_tests) in
    sym (first_within-skip _ _ _ c.loop-index-test.true fails) ∙ c.loop-index.invariant
