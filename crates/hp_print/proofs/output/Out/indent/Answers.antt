use Rattle.hp_print.proofs.Blanks.{line_part}
use Rattle.hp_print.proofs.Pieces.{prints_as}
use Rattle.hp_print.proofs.output.Out.indent.Goals as goal

pub returns-then-depth-lt64 : goal.returns-then-depth-lt64
returns-then-depth-lt64 g c = prints_as _ _ _ _ _ _ c.put.ensures (line_part c.args.depth c.if-depth-lt64.true)
