use Rattle.std.proofs.Common.{◌++◌, ap, ◌∙◌}
use Rattle.std.specs.Prelude.{encode_utf8_all}
use Rattle.hp_arena.specs.Readers.{parent_of, place_of}
use Rattle.hp_serial.specs.Walk.{back_of, front_of}
use Rattle.hp_serial.proofs.Joins.{ok_then}
use Rattle.hp_serial.proofs.Steps.{stepped_front, stepped_back}
use Rattle.hp_serial.proofs.Views.{in-shown, in-there, item_shown}
use Rattle.hp_serial.proofs.walk.write_next.Goals as goal

pub view-view-requires : goal.view-view-requires
view-view-requires c = in-there c.args.tree.now (parent_of c.args.mark.at) (place_of c.args.mark.at) c.args.mark.at c.requires.at

pub returns-in_ok-write_front-in-Whole : goal.returns-in_ok-write_front-in-Whole
returns-in_ok-write_front-in-Whole c =
    let t = c.args.tree.now in
    let mark = c.args.mark in
    let there = in-shown t (parent_of mark.at) (place_of mark.at) mark.at c.view-view.result c.requires.at c.view-view.ensures.view in
    let x = item_shown c.view-view.result there.1 in
    let front = c.in_ok-write_front-in-Whole.ensures t.branches c.view-view.ensures.tag ∙ ap (λ o. c.args.out.now.items ++ encode_utf8_all (front_of t.branches mark.raw o)) x.1 in
    ok_then c.enter.result _ _ (stepped_front t mark x.0 _ _ _ _ c.len-elements.ensures.forest c.requires (there.0 ∙ x.1) c.in-Whole.is front) (c.enter.ensures x.0 x.1)

pub returns-in_ok-write_back-in-EndTag : goal.returns-in_ok-write_back-in-EndTag
returns-in_ok-write_back-in-EndTag c =
    let t = c.args.tree.now in
    let mark = c.args.mark in
    let there = in-shown t (parent_of mark.at) (place_of mark.at) mark.at c.view-view.result c.requires.at c.view-view.ensures.view in
    let x = item_shown c.view-view.result there.1 in
    let back = c.in_ok-write_back-in-EndTag.ensures t.branches c.view-view.ensures.tag ∙ ap (λ o. c.args.out.now.items ++ encode_utf8_all (back_of t.branches o)) x.1 in
    ok_then c.push_next.result _ _ (stepped_back t mark x.0 _ _ _ _ (there.0 ∙ x.1) c.in-EndTag.is back) c.push_next.ensures
