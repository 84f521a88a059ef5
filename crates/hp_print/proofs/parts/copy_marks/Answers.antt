use Rattle.std.proofs.Common.{arith}
use Rattle.hp_print.proofs.GoingOn.{marks-few}
use Rattle.hp_print.proofs.parts.copy_marks.Goals as goal

pub unreachable-requires : goal.unreachable-requires
unreachable-requires c =
    omega (arith, marks-few c.args.tree.now c.len-elements.ensures.forest c.args.from.now c.requires.marks.in_tree, c.requires.marks.fit, c.clear.ensures.capacity, c.clear.ensures.len, c.in-Err.ensures.full)
