use Rattle.std.proofs.Common.{arith}
use Rattle.std.proofs.lemmas.List.Elements.{All-push}
use Rattle.hp_store.specs.Leaves.{IsCell}
use Rattle.hp_store.proofs.runs.add_cells.Goals as goal

pub loop-preserved : goal.loop-preserved
loop-preserved c = record {
  cell = rw c.in_ok-push.ensures.items (All-push IsCell c.loop.cells.items c.in_ok-pair.pair c.loop.invariant.cell c.in_ok-pair.ensures);
  more = omega (arith, c.in_ok-push.ensures.len);
}

pub returns-in_err-push-clause-cell : goal.returns-in_err-push-clause-cell
returns-in_err-push-clause-cell c = rw c.in_err-push.ensures.items c.loop.invariant.cell

pub returns-in_err-push-clause-more : goal.returns-in_err-push-clause-more
returns-in_err-push-clause-more c = omega (arith, c.in_err-push.ensures.len)
