use Rattle.std.proofs.Common.{◌≡◌, length, arith}
use Rattle.hp_serial.proofs.Entering.{last_mark, whole_end, whole_first, whole_step}
use Rattle.hp_serial.proofs.walk.html_text.Goals as goal

pub push_first-requires-clause-there : goal.push_first-requires-clause-there
push_first-requires-clause-there c = c.len-elements.ensures.forest.document

pub write_next-requires : goal.write_next-requires
write_next-requires c = last_mark c.args.tree.now _ _ _ c.in-Some.ensures.items c.loop-mark.invariant.marks

pub loop-mark-init : goal.loop-mark-init
loop-mark-init c = let w = whole_first c.args.tree.now _ _ _ c.new-out.ensures.items c.new-marks.ensures.items c.in_ok-push_first.ensures in record { marks = w.0; text = w.1 }

pub loop-mark-preserved : goal.loop-mark-preserved
loop-mark-preserved c =
    let w = whole_step c.args.tree.now _ _ _ _ _ _ _ c.in-Some.ensures.items c.loop-mark.invariant.marks c.loop-mark.invariant.text c.in_ok-write_next.ensures in record { marks = w.0; text = w.1 }

pub loop-mark-smaller : goal.loop-mark-smaller
loop-mark-smaller c =
    let w = whole_step c.args.tree.now _ _ _ _ _ _ _ c.in-Some.ensures.items c.loop-mark.invariant.marks c.loop-mark.invariant.text c.in_ok-write_next.ensures in w.2

pub returns : goal.returns
returns c =
    let none : length c.loop-mark.marks.items ≡ 0 = omega (arith, c.in_default.ensures.cases.0, c.loop-mark.marks.ok.0) in
    whole_end c.args.tree.now.branches _ _ c.loop-mark.marks.items none c.loop-mark.invariant.text
