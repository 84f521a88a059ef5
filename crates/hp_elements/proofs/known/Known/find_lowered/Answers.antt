use Rattle.std.proofs.Common.{ap, sym, ◌∙◌}
use Rattle.hp_elements.specs.Names.{lowered}
use Rattle.hp_elements.proofs.FindLemmas.{no_candidate, is_candidate, other_candidate, lowered_twice, clash}
use Rattle.hp_elements.proofs.known.Known.find_lowered.Goals as goal

pub returns-then-lowers_to : goal.returns-then-lowers_to
returns-then-lowers_to c = is_candidate (lowered c.args.text.now) c.in-Some.known (sym (c.lowers_to.ensures.0 c.if-lowers_to.true ∙ (c.as_bytes.ensures.value ∙ c.text.ensures)))

pub returns-else-lowers_to : goal.returns-else-lowers_to
returns-else-lowers_to c =
    other_candidate (lowered c.args.text.now) c.in-Some.known (λ name e. c.in-Some.ensures name (ap lowered e ∙ lowered_twice c.args.text.now))
    (λ e. clash c.lowers_to.result (c.lowers_to.ensures.1 (sym (c.as_bytes.ensures.value ∙ (c.text.ensures ∙ e)))) c.if-lowers_to.false)

pub returns-in-None : goal.returns-in-None
returns-in-None c = no_candidate (lowered c.args.text.now) (λ name e. c.in-None.ensures name (ap lowered e ∙ lowered_twice c.args.text.now))
