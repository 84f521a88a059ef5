use Rattle.std.proofs.Common.{◌≡◌, ◌<◌, ◌≤◌, length, refl, arith}
use Rattle.hp_control.specs.Tree.{branch}
use Rattle.hp_print.specs.declared.walk.Mark.{Mark}
use Rattle.hp_print.specs.Stack.{rest}
use Rattle.hp_print.proofs.Depths.{deep-room}
use Rattle.hp_print.proofs.Steps.{pushed_some, pushed_none, in-place, in-own}
use Rattle.hp_print.proofs.walk.push_first.Goals as goal

pub returns-in-Some-clause-pushed : goal.returns-in-Some-clause-pushed
returns-in-Some-clause-pushed c =
    let t = c.args.tree.now in
    let at = c.in-Some.at in
    let first = c.in-Some.ensures.first in
    let m : Mark = record { at = at; level = c.args.level; templates = c.args.templates } in
    let place = in-place t c.args.id 0 at first in
    let left : rest t.branches m ≡ (branch t.branches c.args.id).inside = rw (place.0, place.1) refl in
    let high : length c.args.stack.now.items ≤ m.level = omega (arith, c.requires.rising, c.args.stack.now.ok.0) in
    rw c.push_reserved.ensures.items
    (pushed_some t c.args.stack.now.items m c.args.level c.args.templates (branch t.branches c.args.id).inside
    (record { at = in-own t c.args.id 0 at first; deep = rw place.0 c.requires.deep; templates = c.requires.templates }) high refl refl left)

pub returns-in_default-clause-pushed : goal.returns-in_default-clause-pushed
returns-in_default-clause-pushed c = pushed_none _ _ _ _ _ c.in_default.ensures.first

pub push_reserved-requires : goal.push_reserved-requires
push_reserved-requires c =
    let t = c.args.tree.now.branches in
    let below : c.args.level < length t = deep-room t c.len-elements.ensures.forest c.args.level c.args.id c.requires.deep in
    omega (arith, c.requires.rising, c.requires.room)
