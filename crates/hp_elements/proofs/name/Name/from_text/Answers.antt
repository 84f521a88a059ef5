use Rattle.std.proofs.Common.{◌∙◌, ap, sym}
use Rattle.hp_elements.specs.Names.{known_of}
use Rattle.hp_elements.proofs.NameLemmas.{found_chars}
use Rattle.hp_elements.proofs.name.Name.from_text.Goals as goal

pub returns-in-Some : goal.returns-in-Some
returns-in-Some c = c.of_known.ensures ∙ found_chars c.args.text.now c.in-Some.known (ap known_of (sym c.as_bytes.ensures.value) ∙ sym c.in-Some.ensures)
