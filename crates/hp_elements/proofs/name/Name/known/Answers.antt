use Rattle.std.proofs.Common.{sym, ap, ◌∙◌}
use Rattle.hp_elements.specs.Names.{known_of}
use Rattle.hp_elements.specs.Spelling.{spelled}
use Rattle.hp_elements.proofs.NameLemmas.{known_of_text}
use Rattle.hp_elements.proofs.name.Name.known.Goals as goal

pub returns-in-Named : goal.returns-in-Named
returns-in-Named c = sym (known_of_text c.in-Named.known) ∙ ap known_of (sym (ap spelled c.in-Named.is) ∙ c.self.view_is)
