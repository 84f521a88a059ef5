use Rattle.hp_control.proofs.answers.answer.Goals as goal

pub returns-in-Elem : goal.returns-in-Elem
returns-in-Elem c = rw (← c.control.view_is, c.in-Elem.is) c.element_answer.ensures

pub returns-in-Fact : goal.returns-in-Fact
returns-in-Fact c = rw c.in-Fact.is c.fact_answer.ensures

pub returns-in-Entry : goal.returns-in-Entry
returns-in-Entry c = rw (← c.control.view_is, c.in-Entry.is) c.entry_answer.ensures

pub returns-in-Seen : goal.returns-in-Seen
returns-in-Seen c = rw (← c.control.view_is, c.in-Seen.is, ← c.reach_from-found.ensures.reach, ← c.is_some.ensures) c.yes_or_no.ensures

pub returns-in-Reach : goal.returns-in-Reach
returns-in-Reach c = rw (← c.control.view_is, c.in-Reach.is, ← c.reach_from-found-in-Reach.ensures.reach) c.depth_answer.ensures

pub returns-in-RunOf : goal.returns-in-RunOf
returns-in-RunOf c = rw (← c.control.view_is, c.in-RunOf.is, ← c.run_from-count.ensures)

pub returns-in-HasTemplate : goal.returns-in-HasTemplate
returns-in-HasTemplate c = rw (← c.control.view_is, c.in-HasTemplate.is, ← c.has_template.ensures) c.yes_or_no-in-HasTemplate.ensures

pub returns-in-ResetFrom : goal.returns-in-ResetFrom
returns-in-ResetFrom c = rw (← c.control.view_is, c.in-ResetFrom.is, ← c.is_some-in-ResetFrom.ensures, ← c.reset_from-mode.ensures)

pub returns-in-Quiet : goal.returns-in-Quiet
returns-in-Quiet c = rw (← c.control.view_is, c.in-Quiet.is, ← c.cleared_from-from.ensures.cleared, ← c.is_quiet-quiet.ensures) c.yes_or_no-in-Quiet.ensures

pub returns-in-Listed : goal.returns-in-Listed
returns-in-Listed c = rw (← c.control.view_is, c.in-Listed.is, ← c.cleared_from-from-in-Listed.ensures.cleared, ← c.kind_of.ensures, ← c.top_has_entry.ensures)

pub returns-in-Same : goal.returns-in-Same
returns-in-Same c = rw (← c.control.view_is, c.in-Same.is, ← c.cleared_from-from-in-Same.ensures.cleared, ← c.equals_from.ensures)

pub returns-in-Pointer : goal.returns-in-Pointer
returns-in-Pointer c = rw (← c.control.view_is, c.in-Pointer.is) c.pointer_answer.ensures

pub returns-in-Whole : goal.returns-in-Whole
returns-in-Whole c = rw (← c.control.view_is, c.in-Whole.is, ← c.second_is_body.ensures)
