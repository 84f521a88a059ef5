use Rattle.std.proofs.Common.{◌≡◌, ◌/◌, sym, append_assoc, append-nil}
use Rattle.hp_cut.proofs.Takes.{left-skip, left-take, left-end, left-whole}
use Rattle.hp_cut.proofs.cutters.places_by.Goals as goal
use Rattle.hp_cut.proofs.cutters.places_by.Goals.{in-Some+in_ok-push, in_default}

pub loop-number-preserved : goal.loop-number-preserved
loop-number-preserved c =
    let cutter = c.args.cutter in
    let text = c.args.text.now in
    let step = c.args.step in
    let count = c.saturating_sub.result / step in
    let last = c.loop-number.last in
    let number = c.loop-number.number in
    elim c.match-cut_for.branch [
      | in-Some+in_ok-push w ↦
          let took = left-take cutter text step count last number w.in-Some.place c.loop-number-test.true (sym w.in-Some.ensures) in
          rw (w.places-is, w.last-is, w.in_ok-push.ensures.items, append_assoc, ← took) c.loop-number.invariant
      | in_default w ↦
          let skipped = left-skip cutter text step count last number c.loop-number-test.true (sym w.in_default.ensures) in
          rw (w.places-is, w.last-is, ← skipped) c.loop-number.invariant
    ]

pub returns : goal.returns
returns c =
    let cutter = c.args.cutter in
    let text = c.args.text.now in
    let step = c.args.step in
    let count = c.saturating_sub.result / step in
    let none = left-end cutter text step count c.loop-number.last c.loop-number.number c.loop-number-test.false in
    let whole = left-whole cutter text step count in
    rw c.saturating_sub.ensures at (rw (none, append-nil, whole) at c.loop-number.invariant)
