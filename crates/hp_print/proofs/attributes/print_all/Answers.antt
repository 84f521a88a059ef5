use Rattle.std.proofs.Common.{◌++◌, get_or, ◌∙◌}
use Rattle.hp_print.specs.Print.{attribute_line}
use Rattle.hp_print.specs.Shown.{attribute_of}
use Rattle.hp_print.proofs.Pieces.{prints_then}
use Rattle.hp_print.proofs.Sorting.{blank, lines_next, read_again}
use Rattle.hp_print.proofs.attributes.print_all.Goals as goal

pub loop-index-preserved : goal.loop-index-preserved
loop-index-preserved g c =
    let i = c.loop-index.invariant in
    let attributes = c.args.attributes.now in
    let index = c.loop-index.index in
    let shown = get_or attributes index blank in (
      i.0 ++ attribute_line c.args.depth (attribute_of shown),
      prints_then _ _ _ _ _ _ _ _ i.1 c.print_attribute.ensures,
      lines_next c.args.depth i.0 attributes index shown c.loop-index-test.true (read_again attributes index c.loop-index-test.true) ∙ i.2,
    )
