use Rattle.std.proofs.Common.{arith}
use Rattle.hp_store.proofs.Listed.{link-written}
use Rattle.hp_store.proofs.part.Part.link.Goals as goal

pub returns-then-place-len-clause-nodes : goal.returns-then-place-len-clause-nodes
returns-then-place-len-clause-nodes c = λ _.
    let p = c.args.self.now in
    link-written p.before c.args.side p.nodes.items c.args.at c.args.to c.place_of-place.result c.index_mut.result.now c.requires (omega (arith, c.ranges.at.fits)) (omega (arith, c.ranges.to.fits)) c.place_of-place.ensures
    (omega (arith, c.if-place-len.true, c.len.ensures, p.nodes.ok.0)) c.index_mut.ensures.value c.link.new.self c.link.ensures
