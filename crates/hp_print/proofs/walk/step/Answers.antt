use Rattle.std.proofs.Common.{◌+◌, refl}
use Rattle.hp_arena.specs.Readers.{parent_of, place_of}
use Rattle.hp_print.specs.Print.{extra}
use Rattle.hp_print.proofs.Steps.{item_shown, in-shown, stepped}
use Rattle.hp_print.proofs.walk.step.Goals as goal

pub returns-clause-step : goal.returns-clause-step
returns-clause-step c =
    let t = c.args.tree.now in
    let mark = c.args.mark in
    let view = c.push_inside.result in
    let there = in-shown t (parent_of mark.at) (place_of mark.at) mark.at view c.requires.mark.at c.push_inside.ensures.view in
    let x = item_shown view there.1 in
    stepped t mark view x.0 (mark.templates + extra t.branches x.0) _ _ _ c.len-elements.ensures.forest c.requires.mark there.0 x.1 c.push_inside.ensures.tag refl c.push_next.ensures.pushed (c.push_inside.ensures.pushed x.0 x.1)
