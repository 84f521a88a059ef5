use Rattle.std.proofs.Common.{◌∙◌, arith}
use Rattle.std.proofs.lemmas.Grind.{common_steps}
use Rattle.hp_text.proofs.KnownLemmas.{took_more}
use Rattle.hp_text.proofs.writing.write_whole.Goals as goal

pub loop-taken-preserved : goal.loop-taken-preserved
loop-taken-preserved g c = record {
  within = grind (arith, common_steps);
  took = took_more _ _ _ _ _ _ c.loop-taken.invariant.took c.in-Ok.ensures.took;
  faults = grind (arith, common_steps);
}

pub returns-in-Err-clause-part : goal.returns-in-Err-clause-part
returns-in-Err-clause-part g c = c.in-Err.ensures.unmoved ∙ c.loop-taken.invariant.took

pub returns-in-Err-clause-proper : goal.returns-in-Err-clause-proper
returns-in-Err-clause-proper g c = c.loop-taken-test.true
