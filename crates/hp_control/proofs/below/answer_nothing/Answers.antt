use Rattle.std.proofs.Common.{ap, ◌∙◌, sym}
use Rattle.std.proofs.lemmas.Str.{chars-nil}
use Rattle.hp_control.specs.declared.question.Answer.TheVariants.{LastTag}
use Rattle.hp_control.specs.Nothing.{nothing}
use Rattle.hp_control.specs.Truth.{answer_of}
use Rattle.hp_control.proofs.NothingLemmas.{nothing_elem, nothing_seen, nothing_reach, nothing_run, nothing_template, nothing_reset, nothing_quiet, nothing_listed, nothing_same, nothing_whole}
use Rattle.hp_control.proofs.below.answer_nothing.Goals as goal

pub returns-in-Elem : goal.returns-in-Elem
returns-in-Elem c = sym (ap (answer_of nothing) c.in-Elem.is ∙ nothing_elem c.in-Elem.depth)

pub returns-in-Seen : goal.returns-in-Seen
returns-in-Seen c = sym (ap (answer_of nothing) c.in-Seen.is ∙ nothing_seen c.in-Seen.depth c.in-Seen.goals c.in-Seen.stops)

pub returns-in-Reach : goal.returns-in-Reach
returns-in-Reach c = sym (ap (answer_of nothing) c.in-Reach.is ∙ nothing_reach c.in-Reach.depth c.in-Reach.goals c.in-Reach.stops)

pub returns-in-RunOf : goal.returns-in-RunOf
returns-in-RunOf c = sym (ap (answer_of nothing) c.in-RunOf.is ∙ nothing_run c.in-RunOf.depth c.in-RunOf.names)

pub returns-in-HasTemplate : goal.returns-in-HasTemplate
returns-in-HasTemplate c = sym (ap (answer_of nothing) c.in-HasTemplate.is ∙ nothing_template c.in-HasTemplate.depth)

pub returns-in-ResetFrom : goal.returns-in-ResetFrom
returns-in-ResetFrom c = sym (ap (answer_of nothing) c.in-ResetFrom.is ∙ nothing_reset c.in-ResetFrom.depth)

pub returns-in-Quiet : goal.returns-in-Quiet
returns-in-Quiet c = sym (ap (answer_of nothing) c.in-Quiet.is ∙ nothing_quiet c.in-Quiet.depth c.in-Quiet.cuts)

pub returns-in-Listed : goal.returns-in-Listed
returns-in-Listed c = sym (ap (answer_of nothing) c.in-Listed.is ∙ nothing_listed c.in-Listed.depth c.in-Listed.cuts c.in-Listed.name)

pub returns-in-Same : goal.returns-in-Same
returns-in-Same c = sym (ap (answer_of nothing) c.in-Same.is ∙ nothing_same c.in-Same.cuts c.in-Same.tag)

pub returns-in-Whole : goal.returns-in-Whole
returns-in-Whole c = sym (ap (answer_of nothing) c.in-Whole.is ∙ nothing_whole c.in-Whole.depth)

pub returns-in_ok-from_text-in-LastTag : goal.returns-in_ok-from_text-in-LastTag
returns-in_ok-from_text-in-LastTag c =
    rw (c.in-Fact.is, c.in-LastTag.is) (ap LastTag (c.in_ok-from_text-in-LastTag.ensures ∙ chars-nil))
