use Rattle.std.proofs.Common.{◌≡◌, ◌+◌, ◌≤◌, ◌<◌, length, refl, drop, arith}
use Rattle.std.proofs.lemmas.List.{drop_all}
use Rattle.hp_control.specs.Tree.{branch}
use Rattle.hp_arena.specs.Readers.{parent_of, place_of}
use Rattle.hp_print.specs.declared.walk.Mark.{Mark}
use Rattle.hp_print.specs.Stack.{rest}
use Rattle.hp_print.proofs.Depths.{deep-room}
use Rattle.hp_print.proofs.Steps.{pushed_some, pushed_none, in-there, in-place, in-own, in-siblings}
use Rattle.hp_print.proofs.walk.push_next.Goals as goal

pub returns-in-Some-clause-pushed : goal.returns-in-Some-clause-pushed
returns-in-Some-clause-pushed c =
    let t = c.args.tree.now in
    let mark = c.args.mark in
    let next = c.in-Some.ensures.next in
    let m : Mark = record { at = c.in-Some.at; level = mark.level; templates = mark.templates } in
    let p = parent_of mark.at in
    let k = place_of mark.at + 1 in
    let place = in-place t p k c.in-Some.at next in
    let left : rest t.branches m ≡ drop ((place_of mark.at) + 1) (branch t.branches (parent_of mark.at)).inside = rw (place.0, place.1) refl in
    let high : length c.args.stack.now.items ≤ m.level = omega (arith, c.requires.rising, c.args.stack.now.ok.0) in
    rw c.push_reserved.ensures.items
    (pushed_some t c.args.stack.now.items m mark.level mark.templates (drop ((place_of mark.at) + 1) (branch t.branches (parent_of mark.at)).inside)
    (record { at = in-own t p k c.in-Some.at next; deep = rw place.0 c.requires.mark.deep; templates = c.requires.mark.templates }) high refl refl left)

pub returns-in_default-clause-pushed : goal.returns-in_default-clause-pushed
returns-in_default-clause-pushed c =
    let mark = c.args.mark in
    let inside = (branch c.args.tree.now.branches (parent_of mark.at)).inside in
    let few : length inside ≤ place_of mark.at + 1 = rw (in-siblings c.args.tree.now (parent_of mark.at) (place_of mark.at) mark.at c.requires.mark.at) at c.in_default.ensures.next in
    pushed_none _ _ _ _ _ (drop_all ((place_of mark.at) + 1) inside few)

pub next_sibling-requires : goal.next_sibling-requires
next_sibling-requires c = in-there c.args.tree.now (parent_of c.args.mark.at) (place_of c.args.mark.at) c.args.mark.at c.requires.mark.at

pub push_reserved-requires : goal.push_reserved-requires
push_reserved-requires c =
    let t = c.args.tree.now.branches in
    let below : c.args.mark.level < length t = deep-room t c.len-elements.ensures.forest c.args.mark.level (parent_of c.args.mark.at) c.requires.mark.deep in
    omega (arith, c.requires.rising, c.requires.room)
