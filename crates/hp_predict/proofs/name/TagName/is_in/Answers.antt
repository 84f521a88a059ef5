use Rattle.std.proofs.Common.{ap, sym, subst, ◌∙◌}
use Rattle.hp_elements.specs.Names.{known_of}
use Rattle.hp_elements.specs.Sets.{in_set}
use Rattle.hp_elements.specs.declared.sets.Namespace.TheVariants.{Html}
use Rattle.hp_elements.proofs.SetLemmas.{other_in}
use Rattle.hp_predict.specs.Spelling.{spelled, IsSpelled}
use Rattle.hp_predict.proofs.name.TagName.is_in.Goals as goal

pub returns-in-Named : goal.returns-in-Named
returns-in-Named c = c.is_in.ensures ∙ ap (in_set c.args.set Html) (sym (ap spelled c.in-Named.is) ∙ c.self.view_is)

pub returns-in-Other : goal.returns-in-Other
returns-in-Other c =
    let held = subst IsSpelled c.in-Other.is c.self.invariant in
    sym (other_in c.args.set Html c.args.self.now (ap known_of (sym c.self.view_is ∙ ap spelled c.in-Other.is) ∙ held.0) ∙ c.requires)
