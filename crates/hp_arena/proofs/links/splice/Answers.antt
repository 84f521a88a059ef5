use Rattle.std.proofs.Common.{ap, ◌∙◌}
use Rattle.hp_store.specs.Lists.{linked}
use Rattle.hp_arena.proofs.Linking.{IsRelinked-spliced, rest-then}
use Rattle.hp_arena.proofs.links.splice.Goals as goal

pub returns-clause-nodes : goal.returns-clause-nodes
returns-clause-nodes c =
    IsRelinked-spliced c.args.store.now.nodes c.join-3.new.self.nodes c.args.source c.args.target c.node-prev.result c.node-before.result c.node-prev.ensures c.node-before.ensures
    (ap (λ s. s.nodes) c.join-3.ensures
    ∙ ap (λ ns. linked ns c.args.source c.args.source) (ap (λ s. s.nodes) c.join-2.ensures ∙ ap (λ ns. linked ns c.node-prev.result.prev c.args.target) (ap (λ s. s.nodes) c.join.ensures)))
    c.requires.closed c.requires.source_in c.requires.target_in

pub returns-clause-rest : goal.returns-clause-rest
returns-clause-rest c =
    rest-then c.args.store.now c.join-2.new.self c.join-3.new.self _ _ (rest-then c.args.store.now c.join.new.self c.join-2.new.self _ _ c.join.ensures c.join-2.ensures) c.join-3.ensures
