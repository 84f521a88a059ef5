use Rattle.std.proofs.Common.{ap, sym, subst, ◌∙◌}
use Rattle.hp_elements.specs.Names.{known_of}
use Rattle.hp_predict.specs.Tags.{counts}
use Rattle.hp_predict.specs.Spelling.{spelled, IsSpelled}
use Rattle.hp_predict.proofs.NameLemmas.{other_counts}
use Rattle.hp_predict.proofs.name.TagName.counts.Goals as goal

pub returns-in-Named : goal.returns-in-Named
returns-in-Named c = c.known_counts.ensures ∙ ap counts (sym (ap spelled c.in-Named.is) ∙ c.self.view_is)

pub returns-in-Other : goal.returns-in-Other
returns-in-Other c =
    let held = subst IsSpelled c.in-Other.is c.self.invariant in
    sym (other_counts c.args.self.now (ap known_of (sym c.self.view_is ∙ ap spelled c.in-Other.is) ∙ held.0))
