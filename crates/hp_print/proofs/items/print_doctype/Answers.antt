use Rattle.hp_print.proofs.Pieces.{prints_then}
use Rattle.hp_print.proofs.items.print_doctype.Goals as goal

pub returns : goal.returns
returns g c =
    let first = prints_then _ _ _ _ _ _ _ _ c.indent.ensures c.put.ensures in
    let second = prints_then _ _ _ _ _ _ _ _ first c.print_identifier.ensures in
    let third = prints_then _ _ _ _ _ _ _ _ second c.print_identifiers.ensures in
    prints_then _ _ _ _ _ _ _ _ third c.put-2.ensures
