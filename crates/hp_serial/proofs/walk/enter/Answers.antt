use Rattle.std.proofs.Common.{◌≡◌, Some, sym, ap, ◌∙◌}
use Rattle.hp_control.specs.Tree.{branch}
use Rattle.hp_control.specs.Tree as item
use Rattle.hp_arena.specs.Readers.{parent_of, place_of, shown}
use Rattle.hp_serial.specs.Walk.{item_at}
use Rattle.hp_serial.proofs.Joins.{ok_then}
use Rattle.hp_serial.proofs.Entering.{entered_empty, entered_element, mid_deep}
use Rattle.hp_serial.proofs.Views.{in-shown, leaf_empty, void_empty, same_item}
use Rattle.hp_serial.proofs.walk.enter.Goals as goal

pub returns-in_default : goal.returns-in_default
returns-in_default c x is =
    ok_then c.push_next.result _ _ (entered_empty c.args.tree.now c.args.mark x _ _ (leaf_empty c.args.tree.now.branches c.args.view x is c.in_default.not-Element)) c.push_next.ensures

pub returns-then-is_void : goal.returns-then-is_void
returns-then-is_void c x is =
    let t = c.args.tree.now in
    let tagged : (branch t.branches c.in-Element.id).tag ≡ Some c.in-Element.tag.now = rw c.in-Element.is at c.requires.tag in
    let same = same_item c.in-Element.id c.in-Element.tag c.args.view x c.in-Element.is is in
    ok_then c.push_next-then-is_void.result _ _
    (entered_empty t c.args.mark x _ _ (void_empty t.branches c.in-Element.id c.in-Element.tag.now x tagged same (sym c.is_void.ensures ∙ c.if-is_void.true)))
    c.push_next-then-is_void.ensures

pub push_first-requires-clause-there : goal.push_first-requires-clause-there
push_first-requires-clause-there c =
    let t = c.args.tree.now in
    let at = c.args.mark.at in
    let has : item_at t.branches c.args.mark ≡ Some (item.Element c.in-Element.id) = (in-shown t (parent_of at) (place_of at) at c.args.view c.requires.mark.at c.requires.view).0 ∙ ap shown c.in-Element.is in
    c.len-elements.ensures.forest.there (parent_of at) (place_of at) c.in-Element.id has

pub push_first-requires-clause-deep : goal.push_first-requires-clause-deep
push_first-requires-clause-deep c =
    let t = c.args.tree.now in
    let at = c.args.mark.at in
    let has : item_at t.branches c.args.mark ≡ Some (item.Element c.in-Element.id) = (in-shown t (parent_of at) (place_of at) at c.args.view c.requires.mark.at c.requires.view).0 ∙ ap shown c.in-Element.is in
    mid_deep t.branches c.args.mark c.in-Element.id c.args.marks.now.items _ c.in_ok-push.ensures.items has c.requires.mark.deep

pub returns : goal.returns
returns c x is =
    let t = c.args.tree.now in
    let at = c.args.mark.at in
    let tagged : (branch t.branches c.in-Element.id).tag ≡ Some c.in-Element.tag.now = rw c.in-Element.is at c.requires.tag in
    let same = same_item c.in-Element.id c.in-Element.tag c.args.view x c.in-Element.is is in
    let has : item_at t.branches c.args.mark ≡ Some x = (in-shown t (parent_of at) (place_of at) at c.args.view c.requires.mark.at c.requires.view).0 ∙ is in
    let closes = sym c.is_void.ensures ∙ c.if-is_void.false in
    ok_then c.push_first.result _ _
    (λ pushed. entered_element t c.args.mark c.in-Element.id c.in-Element.tag.now x _ _ _ c.in_ok-push.ensures.items c.requires.mark has same tagged closes (rw c.keeps_raw.ensures at pushed))
    c.push_first.ensures
