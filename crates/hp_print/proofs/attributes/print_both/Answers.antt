use Rattle.hp_print.proofs.Pieces.{prints_then}
use Rattle.hp_print.proofs.attributes.print_both.Goals as goal

pub returns : goal.returns
returns g c = prints_then _ _ _ _ _ _ _ _ c.print_attribute.ensures c.print_attribute-2.ensures
