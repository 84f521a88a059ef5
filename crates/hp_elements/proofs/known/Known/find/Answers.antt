use Rattle.std.proofs.Common.{ap, sym, ◌∙◌}
use Rattle.hp_elements.specs.Names.{lowered}
use Rattle.hp_elements.proofs.FindLemmas.{no_candidate, is_candidate, other_candidate, equal_bytes, other_bytes}
use Rattle.hp_elements.proofs.known.Known.find.Goals as goal

pub returns-then-eq : goal.returns-then-eq
returns-then-eq c = is_candidate c.args.text.now c.in-Some.known (sym c.text.ensures ∙ (sym c.as_bytes.ensures.value ∙ equal_bytes c.eq.result c.as_bytes.result.now c.args.text.now c.eq.ensures c.if-eq.true))

pub returns-else-eq : goal.returns-else-eq
returns-else-eq c =
    other_candidate c.args.text.now c.in-Some.known (λ name e. c.in-Some.ensures name (ap lowered e))
    (λ e. other_bytes c.eq.result c.as_bytes.result.now c.args.text.now c.eq.ensures c.if-eq.false (c.as_bytes.ensures.value ∙ (c.text.ensures ∙ e)))

pub returns-in-None : goal.returns-in-None
returns-in-None c = no_candidate c.args.text.now (λ name e. c.in-None.ensures name (ap lowered e))
