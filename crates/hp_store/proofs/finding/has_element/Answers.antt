use Rattle.hp_store.proofs.Standing.{fits-here, part-held}
use Rattle.hp_store.proofs.finding.has_element.Goals as goal

pub node_of-requires : goal.node_of-requires
node_of-requires c =
    let l = c.in-Some.ensures.lookup in
    let fits = fits-here c.args.parts.now c.args.last.now c.args.number c.in-Some.part.now c.requires.laid (part-held c.args.parts.now c.args.last.now c.args.number c.in-Some.part.now l.3.0 l.1) c.requires.fits in
    fits.elements
