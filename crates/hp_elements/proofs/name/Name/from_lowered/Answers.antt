use Rattle.std.proofs.Common.{◌∙◌, ap, sym}
use Rattle.hp_elements.specs.Names.{known_of, lowered}
use Rattle.hp_elements.proofs.NameLemmas.{found_chars}
use Rattle.hp_elements.proofs.Lowering.{lowered_chars}
use Rattle.hp_elements.proofs.name.Name.from_lowered.Goals as goal

pub returns-in-Some : goal.returns-in-Some
returns-in-Some c =
    c.of_known.ensures
    ∙ (found_chars (lowered c.args.text.now) c.in-Some.known (ap (λ xs. known_of (lowered xs)) (sym c.as_bytes.ensures.value) ∙ sym c.in-Some.ensures) ∙ lowered_chars c.args.text.now c.utf8.text)

pub of_lowered-requires : goal.of_lowered-requires
of_lowered-requires c = ap (λ xs. known_of (lowered xs)) (sym c.as_bytes.ensures.value) ∙ sym c.in-None.ensures
