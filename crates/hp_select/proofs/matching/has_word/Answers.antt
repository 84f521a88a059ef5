use Rattle.std.proofs.Common.{sym, ◌∙◌}
use Rattle.hp_select.proofs.Words.{turn, found_here, not_here, white_end}
use Rattle.hp_select.proofs.matching.has_word.Goals as goal

pub returns-then-are_same : goal.returns-then-are_same
returns-then-are_same c =
    let t = turn _ _ c.in-Some.part.now _ c.loop-part.invariant.utf8 c.in-Some.ensures.steps in
    sym (found_here _ _ _ _ t (sym c.are_same.ensures ∙ c.if-are_same.true)) ∙ c.loop-part.invariant.same

pub loop-part-preserved : goal.loop-part-preserved
loop-part-preserved c =
    let t = turn _ _ c.in-Some.part.now _ c.loop-part.invariant.utf8 c.in-Some.ensures.steps in
    record { utf8 = t.utf8; same = not_here _ _ _ _ t (sym c.are_same.ensures ∙ c.if-are_same.false) ∙ c.loop-part.invariant.same }

pub returns : goal.returns
returns c = sym (white_end _ _ c.in-None.ensures.steps.0) ∙ c.loop-part.invariant.same
