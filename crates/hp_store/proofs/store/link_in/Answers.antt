use Rattle.std.proofs.Common.{◌<◌, length, get_or, arith}
use Rattle.std.proofs.lemmas.List.{get_or_default}
use Rattle.hp_store.specs.declared.node.Node.{Node}
use Rattle.hp_store.specs.declared.part.Part.{Part}
use Rattle.hp_store.specs.Lists.{node_linked}
use Rattle.hp_store.proofs.Standing.{fits-here, part-held}
use Rattle.hp_store.proofs.Whole.{nodes-part, KeepsPartsAside-set}
use Rattle.hp_store.proofs.store.link_in.Goals as goal

pub link-requires : goal.link-requires
link-requires c =
    let ps = c.args.parts.now in
    let k = c.args.number in
    let e = c.index-parts-place.result in
    let p : Part = get_or ps k e in
    let h : k < length ps = omega arith in
    let fits = fits-here ps c.args.last.now k p c.requires.laid (part-held ps c.args.last.now k p h (get_or_default ps k e p h)) c.requires.fits in
    fits.nodes

pub returns-clause-nodes : goal.returns-clause-nodes
returns-clause-nodes c = λ done.
    let ps = c.args.parts.now in
    let k = c.args.number in
    let e = c.index-parts-place.result in
    let p : Part = get_or ps k e in
    let h : k < length ps = omega arith in
    nodes-part ps c.args.last.now k c.args.at p c.link.new.self (λ (n : Node). node_linked c.args.side n c.args.to) c.requires.laid h (get_or_default ps k e p h) (c.link.ensures.here done) (c.link.ensures.nodes done)

pub returns-clause-kept : goal.returns-clause-kept
returns-clause-kept c = λ done.
    let ps = c.args.parts.now in
    let k = c.args.number in
    let e = c.index-parts-place.result in
    let p : Part = get_or ps k e in
    let h : k < length ps = omega arith in
    KeepsPartsAside-set ps c.args.last.now k p c.link.new.self c.requires.laid h (get_or_default ps k e p h) c.link.ensures.kept
