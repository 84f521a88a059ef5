use Rattle.std.proofs.Common.{rules, ◌<◌, length}
use Rattle.std.proofs.lemmas.Grind.{get_or_default_zero}
use Rattle.hp_control.proofs.ChainLemmas.{chained_put}
use Rattle.hp_control.proofs.places.Places.put.Goals as goal

pub invariant_of-self-2 : goal.invariant_of-self-2
invariant_of-self-2 c =
    let old = c.self.inside in
    let within : c.chain_of-chain.result < length old.last.items = search rules in
    chained_put old.hashes.items old.before.items old.last.items c.args.hash c.chain_of-chain.result c.index.result.now c.len-2.result c.push_reserved-2.new.self.items c.push_reserved.new.self.items
    c.self.invariant (cc) (cc) (cc) within (cc (get_or_default_zero old.last.items c.chain_of-chain.result c.index.result.now within)) (cc)
