use Rattle.hp_print.proofs.Pieces.{prints_then}
use Rattle.hp_print.proofs.items.print_several.Goals as goal

pub returns : goal.returns
returns g c =
    let first = prints_then _ _ _ _ _ _ _ _ c.indent.ensures c.put.ensures in
    let second = prints_then _ _ _ _ _ _ _ _ first c.print_runs.ensures in
    prints_then _ _ _ _ _ _ _ _ second c.put-2.ensures
