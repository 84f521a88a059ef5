use Rattle.std.proofs.Common.{◌-◌, ap, arith}
use Rattle.hp_store.specs.Store.{Element as ElementOf}
use Rattle.hp_store.proofs.Listed.{element-raised}
use Rattle.hp_store.proofs.part.Part.own_tag.Goals as goal

pub returns : goal.returns
returns c =
    let p = c.args.self.now in
    ap (λ (x : ElementOf). x.tag) (element-raised p.before.nodes p.elements.items (c.args.id - 1) c.index.result.now (omega (arith, c.requires.some, c.requires.id_in)) c.index.ensures)
