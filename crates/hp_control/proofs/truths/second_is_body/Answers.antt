use Rattle.std.proofs.Common.{◌-◌, ◌∙◌, sym, arith}
use Rattle.hp_control.proofs.WalkLemmas.{none_below, some_below}
use Rattle.hp_control.proofs.truths.second_is_body.Goals as goal

pub returns-then-count-lt2 : goal.returns-then-count-lt2
returns-then-count-lt2 c = sym (none_below c.args.stack.now c.args.depth (omega (arith, c.len-count.ensures, c.if-count-lt2.true)))

pub returns-then-depth-count : goal.returns-then-depth-count
returns-then-depth-count c = sym (none_below c.args.stack.now c.args.depth (omega (arith, c.len-count.ensures, c.if-count-lt2.false, c.if-depth-count.true)))

pub returns : goal.returns
returns c =
    c.is_named.ensures
    ∙ sym (some_below c.args.stack.now c.args.depth (c.len-count.result - 2) c.at.result.now (omega (arith, c.len-count.ensures, c.if-count-lt2.false, c.if-depth-count.false)) (omega (arith, c.len-count.ensures, c.if-count-lt2.false)) c.at.ensures)
