use Rattle.std.proofs.Common.{sym, ◌∙◌}
use Rattle.hp_elements.proofs.NameLemmas.{same_as_known, apart_from_known}
use Rattle.hp_elements.proofs.TextLemmas.{same_texts}
use Rattle.hp_elements.proofs.name.Name.same.Goals as goal

pub returns-in-Some : goal.returns-in-Some
returns-in-Some c = same_as_known c.is.result c.in-Some.own c.args.self.now c.args.other.now (sym c.in-Some.ensures) c.is.ensures

pub returns-in-Some-known : goal.returns-in-Some-known
returns-in-Some-known c = apart_from_known c.in-Some-known.field-0 c.args.self.now c.args.other.now (sym c.known.ensures ∙ c.in-None.is) (sym c.known-in-None.ensures ∙ c.in-Some-known.is)

pub returns-in-None-known : goal.returns-in-None-known
returns-in-None-known c = same_texts c.eq.result c.as_str.result.now c.as_str-in-None-known.result.now c.args.self.now c.args.other.now c.eq.ensures c.as_str.utf8 c.as_str-in-None-known.utf8 c.as_str.ensures c.as_str-in-None-known.ensures
