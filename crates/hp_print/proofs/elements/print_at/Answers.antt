use Rattle.hp_print.proofs.Alone.{tag_at}
use Rattle.hp_print.proofs.Pieces.{prints_as}
use Rattle.hp_print.proofs.elements.print_at.Goals as goal

pub returns-clause-printed : goal.returns-clause-printed
returns-clause-printed g c =
    let t = c.args.tree.now.branches in
    let has = rw c.in-Element.is at c.view.ensures.tag in
    prints_as _ _ _ _ _ _ c.print_tag.ensures.printed (tag_at t c.args.at c.view.result c.in-Element.id c.in-Element.tag c.view.ensures.view c.in-Element.is has)
