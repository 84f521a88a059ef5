use Rattle.hp_arena.specs.Readers.{parent_of, place_of}
use Rattle.hp_print.proofs.Steps.{in-shown, item_shown}
use Rattle.hp_print.proofs.ahead.pass_one.Goals as goal

pub returns-then-count-eq0 : goal.returns-then-count-eq0
returns-then-count-eq0 c =
    let mark = c.args.mark in
    let view = c.push_inside.result in
    let there = in-shown c.args.tree.now (parent_of mark.at) (place_of mark.at) mark.at view c.requires.mark.at c.push_inside.ensures.view in
    let x = item_shown view there.1 in
    record {
      in_tree = (c.push_inside.ensures.pushed x.0 x.1).marks (c.push_next.ensures.pushed.marks c.requires.marks.in_tree);
      fit = c.push_inside.ensures.room;
    }
