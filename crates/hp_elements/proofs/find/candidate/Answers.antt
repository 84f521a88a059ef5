use Rattle.std.proofs.Common.{◌∙◌, arith}
use Rattle.hp_elements.specs.Slots.{slots}
use Rattle.hp_elements.proofs.FindLemmas.{at_its_slot, text_some, text_short}
use Rattle.hp_elements.proofs.find.candidate.Goals as goal

pub returns-then-len-eq0 : goal.returns-then-len-eq0
returns-then-len-eq0 c = λ name e. absurd (omega (arith, c.if-len-eq0.true, text_some c.args.text.now name e))

pub returns-then-len-gt-LONGEST : goal.returns-then-len-gt-LONGEST
returns-then-len-gt-LONGEST c = λ name e. absurd (omega (arith, c.if-len-gt-LONGEST.true, text_short c.args.text.now name e))

pub returns : goal.returns
unfolding slots
returns c = λ name e. c.at.ensures ∙ at_its_slot c.args.text.now name c.slot.result c.slot.ensures.value e
