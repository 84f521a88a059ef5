use Rattle.std.proofs.Common.{◌≡◌, length, ap, ◌∙◌, Some}
use Rattle.hp_control.specs.Tree as item
use Rattle.hp_arena.specs.Readers.{parent_of, place_of, shown}
use Rattle.hp_select.specs.Rows.{row_below}
use Rattle.hp_select.specs.Walk.{item_at, with_selected}
use Rattle.hp_select.proofs.Paths.{length-inner_row, length-row_below}
use Rattle.hp_select.proofs.Walking.{child_deep, ok_then, stepped_leaf, stepped_element, taken_there}
use Rattle.hp_select.proofs.Views.{in-element, in-shown, in-there, leaf_shown}
use Rattle.hp_select.proofs.walk.visit_next.Goals as goal

pub view-requires : goal.view-requires
view-requires c = in-there c.args.tree.now (parent_of c.args.mark.at) (place_of c.args.mark.at) c.args.mark.at c.requires.mark.at

pub returns-in_default-view-clause-step : goal.returns-in_default-view-clause-step
returns-in_default-view-clause-step c =
    let t = c.args.tree.now in
    let mark = c.args.mark in
    let there = in-shown t (parent_of mark.at) (place_of mark.at) mark.at c.view.result c.requires.mark.at c.view.ensures.view in
    let x = leaf_shown t.branches c.view.result there.1 c.in_default-view.not-Element in
    ok_then c.push_next-in_default-view.result _ _
    (stepped_leaf t c.args.steps.now mark x.0 c.args.found.now c.args.marks.now.items _ c.len-elements.ensures.forest c.requires.mark (there.0 ∙ x.1) x.2 c.in-Item.is c.requires.row)
    c.push_next-in_default-view.ensures

pub take_selected-requires : goal.take_selected-requires
take_selected-requires c =
    let row : c.in_ok-row.row.items ≡ row_below c.in-Element.tag.now c.args.steps.now c.args.mark.row.items = rw c.as_slice.ensures.value at c.in_ok-row.ensures in
    ap length c.as_slice-2.ensures.value ∙ length-row_below c.in-Element.tag.now c.args.steps.now _ c.args.mark.row.items row c.requires.row

pub enter-requires-clause-there : goal.enter-requires-clause-there
enter-requires-clause-there c =
    let t = c.args.tree.now in
    let at = c.args.mark.at in
    let has : item_at t.branches c.args.mark ≡ Some (item.Element c.in-Element.id) = (in-shown t (parent_of at) (place_of at) at c.view.result c.requires.mark.at c.view.ensures.view).0 ∙ ap shown c.in-Element.is in
    c.len-elements.ensures.forest.there (parent_of at) (place_of at) c.in-Element.id has

pub enter-requires-clause-deep : goal.enter-requires-clause-deep
enter-requires-clause-deep c =
    let t = c.args.tree.now in
    let at = c.args.mark.at in
    let has : item_at t.branches c.args.mark ≡ Some (item.Element c.in-Element.id) = (in-shown t (parent_of at) (place_of at) at c.view.result c.requires.mark.at c.view.ensures.view).0 ∙ ap shown c.in-Element.is in
    child_deep t.branches c.args.mark _ c.in-Element.id has c.requires.mark.deep

pub returns-clause-step : goal.returns-clause-step
returns-clause-step c =
    let t = c.args.tree.now in
    let s = c.args.steps.now in
    let mark = c.args.mark in
    let at = mark.at in
    let tag = c.in-Element.tag.now in
    let has : item_at t.branches mark ≡ Some (item.Element c.in-Element.id) = (in-shown t (parent_of at) (place_of at) at c.view.result c.requires.mark.at c.view.ensures.view).0 ∙ ap shown c.in-Element.is in
    let row : c.in_ok-row.row.items ≡ row_below tag s mark.row.items = rw c.as_slice.ensures.value at c.in_ok-row.ensures in
    let took : c.take_selected.new.found ≡ with_selected s c.in_ok-row.row.items at c.args.found.now = rw c.as_slice-2.ensures.value at c.in_ok-take_selected.ensures in
    let fits = length-row_below tag s _ mark.row.items row c.requires.row in
    let inner = c.in_ok-row-2.ensures in
    ok_then c.enter.result _ _
    (λ entered. stepped_element t s mark c.in-Element.id tag _ _ c.args.found.now _ c.args.marks.now.items _ c.len-elements.ensures.forest c.requires.mark has c.in-Element.ensures.tag
    (in-element t (parent_of at) (place_of at) at c.in-Element.id c.requires.mark.at has) c.in-Item.is c.requires.row row inner took
    (entered s c.requires.row (length-inner_row tag s _ _ inner fits)))
    c.enter.ensures

pub returns-clause-there : goal.returns-clause-there
returns-clause-there c =
    let t = c.args.tree.now in
    let s = c.args.steps.now in
    let at = c.args.mark.at in
    let took : c.take_selected.new.found ≡ with_selected s c.in_ok-row.row.items at c.args.found.now = rw c.as_slice-2.ensures.value at c.in_ok-take_selected.ensures in
    ok_then c.enter.result _ _ (λ entered all. taken_there t s _ at c.args.found.now _ took (in-there t (parent_of at) (place_of at) at c.requires.mark.at) all) c.enter.ensures
