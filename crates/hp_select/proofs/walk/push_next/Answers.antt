use Rattle.std.proofs.Common.{◌≡◌, ◌+◌, ◌≤◌, length, drop, refl}
use Rattle.std.proofs.lemmas.List.{drop_all}
use Rattle.hp_control.specs.Tree.{branch}
use Rattle.hp_arena.specs.Readers.{parent_of, place_of}
use Rattle.hp_select.specs.Walk.{after}
use Rattle.hp_select.proofs.Walking.{ok_then}
use Rattle.hp_select.proofs.Steps.{pushed_none, pushed_item}
use Rattle.hp_select.proofs.Views.{in-own, in-place, in-siblings, in-there}
use Rattle.hp_select.proofs.walk.push_next.Goals as goal

pub returns-in-Some : goal.returns-in-Some
returns-in-Some c =
    let t = c.args.tree.now in
    let mark = c.args.mark in
    let p = parent_of mark.at in
    let k = place_of mark.at + 1 in
    let at = c.in-Some.at in
    let place = in-place t p k at c.in-Some.ensures.next in
    let left : drop (place_of at) (branch t.branches (parent_of at)).inside ≡ after t.branches mark = rw (place.0, place.1) refl in
    ok_then c.push_item.result _ _
    (λ pushed. pushed_item t c.args.marks.now.items _ _ (after t.branches mark) pushed refl (in-own t p k at c.in-Some.ensures.next) (rw place.0 c.requires.deep) left)
    c.push_item.ensures

pub returns-in-None : goal.returns-in-None
returns-in-None c =
    let mark = c.args.mark in
    let inside = (branch c.args.tree.now.branches (parent_of mark.at)).inside in
    let few : length inside ≤ place_of mark.at + 1 = rw (in-siblings c.args.tree.now (parent_of mark.at) (place_of mark.at) mark.at c.requires.at) at c.in-None.ensures.next in
    pushed_none _ _ _ _ (drop_all (place_of mark.at + 1) inside few)

pub next_sibling-requires : goal.next_sibling-requires
next_sibling-requires c = in-there c.args.tree.now (parent_of c.args.mark.at) (place_of c.args.mark.at) c.args.mark.at c.requires.at
