use Rattle.std.proofs.Common.{ap, sym, ◌∙◌}
use Rattle.std.proofs.lemmas.List.{get_or_default}
use Rattle.hp_store.specs.declared.node.Counts.{Counts}
use Rattle.hp_store.specs.Numbers.{no_counts}
use Rattle.hp_store.specs.Grafting.{raised_node}
use Rattle.hp_store.specs.Lists.{blank, node_at}
use Rattle.hp_store.proofs.Listed.{node-raised}
use Rattle.hp_store.proofs.part.Part.own_node.Goals as goal

pub returns : goal.returns
returns c =
    let p = c.args.self.now in
    let ns = p.nodes.items in
    c.own.ensures
    ∙ ap (raised_node no_counts) (c.index.ensures ∙ get_or_default ns c.args.at c.index.result.now blank c.requires.at_in)
    ∙ ap (λ (b : Counts). raised_node b (node_at ns c.args.at)) (sym c.requires.bare)
    ∙ sym (node-raised p.before ns c.args.at c.requires.at_in)
