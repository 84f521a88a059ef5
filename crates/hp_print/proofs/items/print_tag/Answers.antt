use Rattle.hp_print.proofs.Pieces.{prints_then}
use Rattle.hp_print.proofs.items.print_tag.Goals as goal

pub returns-clause-printed : goal.returns-clause-printed
returns-clause-printed g c = prints_then _ _ _ _ _ _ _ _ c.print_opening.ensures c.print_attributes.ensures.printed
