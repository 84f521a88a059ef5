use Rattle.std.proofs.Common.{false, ap, sym, ◌∙◌}
use Rattle.hp_predict.specs.Tags.{tags}
use Rattle.hp_predict.proofs.TagLemmas.{closed, has_no_end}
use Rattle.hp_predict.proofs.tags.closed.Goals as goal

pub returns-in-None-clause-end : goal.returns-in-None-clause-end
returns-in-None-clause-end c = has_no_end c.args.opening.behind.now c.in-None.ensures

pub returns-in-Some-clause-rest : goal.returns-in-Some-clause-rest
returns-in-Some-clause-rest c = closed c.args.opening.behind.now c.in-Some.end c.in-Some.ensures ∙ ap (tags false) (sym c.behind.ensures)
