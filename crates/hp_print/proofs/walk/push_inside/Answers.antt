use Rattle.std.proofs.Common.{◌≡◌, ◌+◌, ◌<◌, ◌≤◌, [], ap, sym, ◌∙◌, refl, subst, Some, length, arith}
use Rattle.hp_control.specs.Tree.{branch}
use Rattle.hp_control.specs.Tree as item
use Rattle.hp_arena.specs.Readers.{items_in_list, parent_of, place_of, shown, IsIn}
use Rattle.hp_print.specs.Print.{extra, tag_extra}
use Rattle.hp_print.specs.Stack.{rest}
use Rattle.hp_print.specs.declared.walk.Mark.{Mark}
use Rattle.hp_print.proofs.Depths.{deep-room}
use Rattle.hp_print.proofs.Steps.{IsItemAt, child_deep, extra_at_most, leaf_inside, in-there, in-shown, in-element, in-place, in-own, pushed_below, pushed_none, pushed_some}
use Rattle.hp_print.proofs.walk.push_inside.Goals as goal

pub overflow_add-templates : goal.overflow_add-templates
overflow_add-templates c =
    let t = c.args.tree.now.branches in
    let room : c.args.mark.level < length t = deep-room t c.len-elements.ensures.forest c.args.mark.level (parent_of c.args.mark.at) c.requires.mark.deep in
    let has : (branch t c.in-Element.id).tag ≡ Some c.in-Element.tag.now = rw c.in-Element.is at c.view-view.ensures.tag in
    let more : extra t (item.Element c.in-Element.id) ≡ c.extra_depth.result = ap tag_extra has ∙ sym c.extra_depth.ensures in
    omega (arith, extra_at_most t (item.Element c.in-Element.id), c.requires.mark.templates, c.len-elements.ensures.count)

pub overflow_add-mark : goal.overflow_add-mark
overflow_add-mark c =
    let t = c.args.tree.now.branches in
    let room : c.args.mark.level < length t = deep-room t c.len-elements.ensures.forest c.args.mark.level (parent_of c.args.mark.at) c.requires.mark.deep in
    omega (arith, c.len-elements.ensures.count)

pub push_reserved-requires : goal.push_reserved-requires
push_reserved-requires c =
    let t = c.args.tree.now.branches in
    let has : IsItemAt c.args.tree.now.branches c.args.mark (item.Element c.in-Element.id) = rw c.in-Element.is at (in-shown c.args.tree.now (parent_of c.args.mark.at) (place_of c.args.mark.at) c.args.mark.at c.view-view.result c.requires.mark.at c.view-view.ensures.view).0 in
    let below : c.args.mark.level + 1 < length t = deep-room t c.len-elements.ensures.forest (c.args.mark.level + 1) c.in-Element.id (child_deep t c.args.mark c.in-Element.id has c.requires.mark.deep) in
    omega (arith, c.requires.rising, c.requires.room)

pub returns-in-Some-clause-pushed : goal.returns-in-Some-clause-pushed
returns-in-Some-clause-pushed c x is =
    let t = c.args.tree.now in
    let b = c.args.tree.now.branches in
    let at = c.in-Some.at in
    let first = c.in-Some.ensures.first in
    let has : IsItemAt c.args.tree.now.branches c.args.mark (item.Element c.in-Element.id) = rw c.in-Element.is at (in-shown c.args.tree.now (parent_of c.args.mark.at) (place_of c.args.mark.at) c.args.mark.at c.view-view.result c.requires.mark.at c.view-view.ensures.view).0 in
    let tag : (branch b c.in-Element.id).tag ≡ Some c.in-Element.tag.now = rw c.in-Element.is at c.view-view.ensures.tag in
    let more : extra b (item.Element c.in-Element.id) ≡ c.extra_depth.result = ap tag_extra tag ∙ sym c.extra_depth.ensures in
    let one : Some first.0 ≡ Some c.in-Element.id = sym first.1.0 ∙ in-element c.args.tree.now (parent_of c.args.mark.at) (place_of c.args.mark.at) c.args.mark.at c.view-view.result c.in-Element.id c.in-Element.tag c.requires.mark.at c.view-view.ensures.view c.in-Element.is in
    let same : first.0 ≡ c.in-Element.id = cc one in
    let there : IsIn c.args.tree.now c.in-Element.id 0 c.in-Some.at = subst (λ i. IsIn c.args.tree.now i 0 c.in-Some.at) same first.1.1 in
    let m : Mark = record { at = at; level = c.args.mark.level + 1; templates = c.args.mark.templates + c.extra_depth.result } in
    let place = in-place t c.in-Element.id 0 at there in
    let left : rest b m ≡ (branch b c.in-Element.id).inside = rw (place.0, place.1) refl in
    let high : length c.args.stack.now.items ≤ m.level = omega (arith, c.requires.rising, c.args.stack.now.ok.0) in
    let few : m.templates ≤ m.level = omega (arith, more, extra_at_most b (item.Element c.in-Element.id), c.requires.mark.templates) in
    rw c.push_reserved.ensures.items
    (pushed_below t c.args.mark c.in-Element.id x c.extra_depth.result _ _ (sym (ap shown c.in-Element.is) ∙ is) more
    (pushed_some t c.args.stack.now.items m (c.args.mark.level + 1) (c.args.mark.templates + c.extra_depth.result) (branch b c.in-Element.id).inside
    (record { at = in-own t c.in-Element.id 0 at there; deep = rw place.0 (child_deep b c.args.mark c.in-Element.id has c.requires.mark.deep); templates = few }) high refl refl left))

pub returns-in_default-first_below-clause-pushed : goal.returns-in_default-first_below-clause-pushed
returns-in_default-first_below-clause-pushed c x is =
    let b = c.args.tree.now.branches in
    let tag : (branch b c.in-Element.id).tag ≡ Some c.in-Element.tag.now = rw c.in-Element.is at c.view-view.ensures.tag in
    let more : extra b (item.Element c.in-Element.id) ≡ c.extra_depth.result = ap tag_extra tag ∙ sym c.extra_depth.ensures in
    let none : (branch b c.in-Element.id).inside ≡ [] = ap (items_in_list b) (sym (in-element c.args.tree.now (parent_of c.args.mark.at) (place_of c.args.mark.at) c.args.mark.at c.view-view.result c.in-Element.id c.in-Element.tag c.requires.mark.at c.view-view.ensures.view c.in-Element.is)) ∙ c.in_default-first_below.ensures.first in
    pushed_below c.args.tree.now c.args.mark c.in-Element.id x c.extra_depth.result _ _ (sym (ap shown c.in-Element.is) ∙ is) more (pushed_none _ _ _ _ _ none)

pub returns-in_default-clause-pushed : goal.returns-in_default-clause-pushed
returns-in_default-clause-pushed c x is = pushed_none _ _ _ _ _ (leaf_inside c.args.tree.now.branches c.view-view.result x is c.in_default.not-Element)

pub view-view-requires : goal.view-view-requires
view-view-requires c = in-there c.args.tree.now (parent_of c.args.mark.at) (place_of c.args.mark.at) c.args.mark.at c.requires.mark.at
