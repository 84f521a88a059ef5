use Rattle.std.proofs.Common.{false, ap, sym, ◌∙◌}
use Rattle.hp_predict.specs.Tags.{tags}
use Rattle.hp_predict.proofs.TagLemmas.{from_first, no_tag_opens, no_tags, to_end}
use Rattle.hp_predict.proofs.tags.from_less_than.Goals as goal

pub returns-in-None-clause-tags : goal.returns-in-None-clause-tags
returns-in-None-clause-tags c = no_tags ∙ sym (no_tag_opens c.args.text.now c.in-None.ensures)

pub returns-in-Some-clause-tags : goal.returns-in-Some-clause-tags
returns-in-Some-clause-tags c = ap (tags false) (to_end c.args.text.now c.in-Some.at) ∙ from_first c.args.text.now c.in-Some.at c.in-Some.ensures
