use Rattle.std.proofs.Common.{◌≡◌, length, drop, refl}
use Rattle.hp_control.specs.Tree.{branch}
use Rattle.hp_arena.specs.Readers.{parent_of, place_of}
use Rattle.hp_serial.proofs.Joins.{ok_then}
use Rattle.hp_serial.proofs.Steps.{pushed_none, pushed_whole}
use Rattle.hp_serial.proofs.Views.{in-own, in-place}
use Rattle.hp_serial.proofs.walk.push_first.Goals as goal

pub returns-in-Some : goal.returns-in-Some
returns-in-Some c =
    let t = c.args.tree.now in
    let id = c.args.id in
    let at = c.in-Some.at in
    let place = in-place t id 0 at c.in-Some.ensures.first in
    let left : drop (place_of at) (branch t.branches (parent_of at)).inside ≡ (branch t.branches id).inside = rw (place.0, place.1) refl in
    ok_then c.push_whole.result _ _
    (λ pushed. pushed_whole t c.args.marks.now.items _ (length c.args.marks.now.items) c.args.raw (branch t.branches id).inside at pushed refl (in-own t id 0 at c.in-Some.ensures.first) (rw place.0 c.requires.deep) left)
    c.push_whole.ensures

pub returns-in-None : goal.returns-in-None
returns-in-None c = pushed_none _ _ _ _ _ c.in-None.ensures.first
