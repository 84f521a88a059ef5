use Rattle.std.proofs.Common.{◌≡◌, drop, refl}
use Rattle.hp_control.specs.Tree.{branch}
use Rattle.hp_arena.specs.Readers.{parent_of, place_of}
use Rattle.hp_select.proofs.Walking.{ok_then}
use Rattle.hp_select.proofs.Steps.{pushed_none, pushed_item}
use Rattle.hp_select.proofs.Views.{in-own, in-place}
use Rattle.hp_select.proofs.walk.push_first.Goals as goal

pub returns-in-Some : goal.returns-in-Some
returns-in-Some c =
    let t = c.args.tree.now in
    let id = c.args.id in
    let at = c.in-Some.at in
    let place = in-place t id 0 at c.in-Some.ensures.first in
    let left : drop (place_of at) (branch t.branches (parent_of at)).inside ≡ (branch t.branches id).inside = rw (place.0, place.1) refl in
    ok_then c.push_item.result _ _
    (λ pushed. pushed_item t c.args.marks.now.items _ _ (branch t.branches id).inside pushed refl (in-own t id 0 at c.in-Some.ensures.first) (rw place.0 c.requires.deep) left)
    c.push_item.ensures

pub returns-in-None : goal.returns-in-None
returns-in-None c = pushed_none _ _ _ _ c.in-None.ensures.first
