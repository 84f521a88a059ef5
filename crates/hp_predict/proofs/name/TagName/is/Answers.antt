use Rattle.std.proofs.Common.{ap, sym, subst, ◌∙◌}
use Rattle.hp_elements.specs.Names.{text_of, known_of}
use Rattle.hp_elements.proofs.NameLemmas.{named_is}
use Rattle.hp_control.proofs.TextTests.{text_test}
use Rattle.hp_predict.specs.Spelling.{spelled, IsSpelled}
use Rattle.hp_predict.proofs.NameLemmas.{not_known}
use Rattle.hp_predict.proofs.name.TagName.is.Goals as goal

pub returns-in-Named : goal.returns-in-Named
returns-in-Named c = text_test c.same.result c.args.self.now (text_of c.args.known) (named_is c.same.result c.in-Named.own c.args.known c.args.self.now (sym (ap spelled c.in-Named.is) ∙ c.self.view_is) c.same.ensures)

pub returns-in-Other : goal.returns-in-Other
returns-in-Other c =
    let held = subst IsSpelled c.in-Other.is c.self.invariant in
    sym (not_known c.args.known c.args.self.now (ap known_of (sym c.self.view_is ∙ ap spelled c.in-Other.is) ∙ held.0))
