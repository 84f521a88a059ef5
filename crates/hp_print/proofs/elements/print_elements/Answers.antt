use Rattle.std.proofs.Common.{◌++◌, get_or, ◌∙◌}
use Rattle.hp_arena.specs.Readers.{element_at}
use Rattle.hp_arena.specs.declared.readers.At.TheVariants as at
use Rattle.hp_print.specs.Elements.{text_at}
use Rattle.hp_print.proofs.Alone.{elements_next, place_again}
use Rattle.hp_print.proofs.Pieces.{prints_then}
use Rattle.hp_print.proofs.elements.print_elements.Goals as goal

pub loop-index-preserved : goal.loop-index-preserved
loop-index-preserved g c =
    let i = c.loop-index.invariant in
    let t = c.args.tree.now.branches in
    let found = c.args.found.now in
    let index = c.loop-index.index in
    let a = get_or found index at.Document in (
      c.print_at.ensures.room,
      (
        i.1.0 ++ text_at t (element_at t a),
        prints_then _ _ _ _ _ _ _ _ i.1.1 c.print_at.ensures.printed,
        elements_next t i.1.0 found index a c.loop-index-test.true (place_again found index c.loop-index-test.true) ∙ i.1.2,
      ),
    )
