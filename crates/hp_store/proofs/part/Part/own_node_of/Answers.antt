use Rattle.std.proofs.Common.{◌-◌, ap, sym, ◌∙◌, arith}
use Rattle.hp_store.specs.declared.node.Counts.{Counts}
use Rattle.hp_store.specs.Store.{Element as ElementOf}
use Rattle.hp_store.specs.Numbers.{counted}
use Rattle.hp_store.proofs.Listed.{element-raised}
use Rattle.hp_store.proofs.part.Part.own_node_of.Goals as goal

pub returns : goal.returns
returns c =
    let p = c.args.self.now in
    let e = c.index.result.now in
    c.own_number.ensures.counted
    ∙ ap (λ (b : Counts). counted b.nodes e.node) (sym c.requires.bare)
    ∙ ap (λ (x : ElementOf). x.node) (sym (element-raised p.before.nodes p.elements.items (c.args.id - 1) e (omega (arith, c.requires.some, c.requires.id_in)) c.index.ensures))
