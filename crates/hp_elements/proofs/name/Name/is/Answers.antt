use Rattle.hp_elements.proofs.NameLemmas.{named_is, other_is}
use Rattle.std.proofs.Common.{sym, ap, ◌∙◌, subst}
use Rattle.hp_elements.specs.Spelling.{spelled, IsSpelled}
use Rattle.hp_elements.specs.Names.{known_of}
use Rattle.hp_elements.proofs.name.Name.is.Goals as goal

pub returns-in-Named : goal.returns-in-Named
returns-in-Named c = named_is c.same.result c.in-Named.own c.args.known c.args.self.now (sym (ap spelled c.in-Named.is) ∙ c.self.view_is) c.same.ensures

pub returns-in-Short : goal.returns-in-Short
returns-in-Short c =
    let held = subst IsSpelled c.in-Short.is c.self.invariant in
    other_is c.args.known c.args.self.now (ap known_of (sym c.self.view_is ∙ ap spelled c.in-Short.is) ∙ held.2)

pub returns-in-Long : goal.returns-in-Long
returns-in-Long c =
    let held = subst IsSpelled c.in-Long.is c.self.invariant in
    other_is c.args.known c.args.self.now (ap known_of (sym c.self.view_is ∙ ap spelled c.in-Long.is) ∙ held)
