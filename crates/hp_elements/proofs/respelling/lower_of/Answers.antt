use Rattle.std.proofs.Common.{◌≡◌, sym, ap, ◌∙◌}
use Rattle.hp_elements.specs.Names.{text_of, lowered}
use Rattle.hp_elements.proofs.FindLemmas.{clash}
use Rattle.hp_elements.proofs.NameLemmas.{some_none}
use Rattle.hp_elements.proofs.RespellingLemmas.{lower_bytes, lower_chars_of, lower_meets, same_some}
use Rattle.hp_elements.proofs.respelling.lower_of.Goals as goal

pub returns-then-lowers_to : goal.returns-then-lowers_to
returns-then-lowers_to c =
    lower_chars_of c.args.text.now c.in-Some.known
    (ap lowered (sym (c.as_bytes-in-Some.ensures.value ∙ c.text.ensures)) ∙ (c.lowers_to.ensures.0 c.if-lowers_to.true ∙ c.as_bytes-in-Some-2.ensures.value))

pub returns-else-lowers_to : goal.returns-else-lowers_to
returns-else-lowers_to c = λ name e.
    let bytes : lowered (text_of name) ≡ c.args.text.now = lower_bytes c.args.text.now name c.utf8.text e in
    let same : c.in-Some.known ≡ name =
    same_some c.in-Some.known name (c.in-Some.ensures name (lower_meets c.as_bytes.result.now name (bytes ∙ sym c.as_bytes.ensures.value))) in
    clash c.lowers_to.result
    (c.lowers_to.ensures.1 (ap lowered (c.as_bytes-in-Some.ensures.value ∙ (c.text.ensures ∙ ap text_of same)) ∙ (bytes ∙ sym c.as_bytes-in-Some-2.ensures.value)))
    c.if-lowers_to.false

pub returns-in-None : goal.returns-in-None
returns-in-None c = λ name e.
    some_none name (sym (c.in-None.ensures name (lower_meets c.as_bytes.result.now name (lower_bytes c.args.text.now name c.utf8.text e ∙ sym c.as_bytes.ensures.value))))
