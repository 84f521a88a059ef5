use Rattle.std.proofs.Common.{◌≡◌, length, map, Some, arith, ap, ◌∙◌}
use Rattle.hp_select.proofs.Paths.{found_selected, length-no_row}
use Rattle.hp_select.proofs.Walking.{last_mark, none_there, whole_end, whole_first, whole_step}
use Rattle.hp_select.proofs.walk.select.Goals as goal

pub loop-mark-init : goal.loop-mark-init
loop-mark-init c =
    let t = c.args.tree.now in
    let s = c.as_slice-steps.result.now in
    let row = c.in_ok-row.ensures in
    let w = whole_first t s c.in_ok-row.row.items _ _ _ c.new-found.ensures c.new-marks.ensures.items (ap length row ∙ length-no_row s) c.in_ok-push_first.ensures in
    record { marks = w.0; all = w.1 ∙ ap (map Some) (rw row (found_selected t.branches s)); there = none_there t _ c.new-found.ensures }

pub visit_next-requires-clause-mark : goal.visit_next-requires-clause-mark
visit_next-requires-clause-mark c = (last_mark c.args.tree.now c.as_slice-steps.result.now _ _ _ c.in-Some.ensures.items c.loop-mark.invariant.marks).0

pub visit_next-requires-clause-row : goal.visit_next-requires-clause-row
visit_next-requires-clause-row c = (last_mark c.args.tree.now c.as_slice-steps.result.now _ _ _ c.in-Some.ensures.items c.loop-mark.invariant.marks).1

pub loop-mark-preserved : goal.loop-mark-preserved
loop-mark-preserved c =
    let w = whole_step c.args.tree.now c.as_slice-steps.result.now _ _ _ _ _ _ _ c.in-Some.ensures.items c.loop-mark.invariant.marks c.loop-mark.invariant.all c.in_ok-visit_next.ensures.step in
    record { marks = w.0; all = w.1; there = c.in_ok-visit_next.ensures.there c.loop-mark.invariant.there }

pub loop-mark-smaller : goal.loop-mark-smaller
loop-mark-smaller c =
    let w = whole_step c.args.tree.now c.as_slice-steps.result.now _ _ _ _ _ _ _ c.in-Some.ensures.items c.loop-mark.invariant.marks c.loop-mark.invariant.all c.in_ok-visit_next.ensures.step in w.2

pub returns-clause-elements : goal.returns-clause-elements
returns-clause-elements c =
    let none : length c.loop-mark.marks.items ≡ 0 = omega (arith, c.in_default.ensures.cases.0, c.loop-mark.marks.ok.0) in
    rw (← c.selector.view_is, ← c.as_slice-steps.ensures) (whole_end c.args.tree.now.branches c.as_slice-steps.result.now _ _ c.loop-mark.marks.items none c.loop-mark.invariant.all)
