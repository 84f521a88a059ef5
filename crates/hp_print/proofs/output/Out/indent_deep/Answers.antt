use Rattle.std.proofs.Common.{◌+◌, ◌-◌, arith}
use Rattle.hp_print.proofs.Blanks.{more_blanks, blanks_part}
use Rattle.hp_print.proofs.Pieces.{prints_then, prints_as}
use Rattle.hp_print.proofs.output.Out.indent_deep.Goals as goal

pub loop-left-preserved : goal.loop-left-preserved
loop-left-preserved g c =
    let blanks = c.args.depth + c.args.depth in
    let left = c.loop-left.left in
    record {
      printed = prints_as _ _ _ _ _ _ (prints_then _ _ _ _ _ _ _ _ c.loop-left.invariant.printed c.put-in-loop-left.ensures) (more_blanks (blanks - left) (blanks - (left - 64)) 64 (omega arith));
      at_most = omega arith;
    }

pub returns : goal.returns
returns g c =
    let blanks = c.args.depth + c.args.depth in
    let left = c.loop-left.left in
    let spaces = prints_as _ _ _ _ _ _ (prints_then _ _ _ _ _ _ _ _ c.loop-left.invariant.printed (rw (blanks_part left (omega arith)) at c.put-2.ensures)) (more_blanks (blanks - left) blanks left (omega arith)) in
    prints_then _ _ _ _ _ _ _ _ c.put.ensures spaces
