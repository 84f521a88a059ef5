use Rattle.std.proofs.Common.{sym, ap, ◌∙◌}
use Rattle.std.specs.Str.{chars}
use Rattle.hp_elements.specs.Spelling.{spelled}
use Rattle.hp_elements.proofs.NameLemmas.{known_chars}
use Rattle.hp_elements.proofs.name.Name.as_str.Goals as goal

pub returns-in-Named : goal.returns-in-Named
returns-in-Named c = ap chars c.text.ensures ∙ (known_chars c.in-Named.known ∙ (sym (ap spelled c.in-Named.is) ∙ c.self.view_is))
