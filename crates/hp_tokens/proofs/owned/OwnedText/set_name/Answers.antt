use Rattle.std.proofs.Common.{◌∙◌, sym}
use Rattle.hp_elements.proofs.NameLemmas.{known_chars, known_utf8, found_text}
use Rattle.hp_tokens.proofs.owned.OwnedText.set_name.Goals as goal

pub invariant_of-self : goal.invariant_of-self
invariant_of-self c = known_utf8 c.in-Some.known

pub returns-in-Some-clause-ok : goal.returns-in-Some-clause-ok
returns-in-Some-clause-ok c = known_chars c.in-Some.known ∙ found_text c.args.name.now c.in-Some.known (sym c.in-Some.ensures)
