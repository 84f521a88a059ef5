use Rattle.hp_print.proofs.GoingOn.{on_then, on_all}
use Rattle.hp_print.proofs.walk.Printing.print_rest.Goals as goal

pub loop-alloc-preserved : goal.loop-alloc-preserved
loop-alloc-preserved g c = record {
  ready = c.print_next.ensures.ready;
  printed = on_then _ _ _ _ _ _ _ c.loop-alloc.invariant.printed c.print_next.ensures.printed;
}

pub returns : goal.returns
returns g c =
    let t = c.args.tree.now.branches in
    let on = on_then _ _ _ _ _ _ _ c.loop-alloc.invariant.printed c.print_next.ensures.printed in
    on_all t _ _ _ _ on (c.print_next.ensures.none c.loop-alloc-test.false)
