use Rattle.std.proofs.Common.{◌≡◌, ap, ◌∙◌}
use Rattle.hp_arena.specs.Nodes.{links_of}
use Rattle.hp_arena.specs.Ring.{joined}
use Rattle.hp_store.specs.Lists.{linked}
use Rattle.hp_arena.proofs.Linking.{IsRelinked-linked, IsRelinked-then, rest-then}
use Rattle.hp_arena.proofs.links.unlink_other.Goals as goal

pub returns-clause-nodes : goal.returns-clause-nodes
returns-clause-nodes c =
    let old = c.args.store.now.nodes in
    let once : c.join.new.self.nodes ≡ linked old c.args.prev c.args.next = ap (λ s. s.nodes) c.join.ensures in
    let twice : c.join-2.new.self.nodes ≡ linked (linked old c.args.prev c.args.next) c.args.node c.args.node = ap (λ s. s.nodes) c.join-2.ensures ∙ ap (λ ns. linked ns c.args.node c.args.node) once in
    rw twice
    (IsRelinked-then old (linked old c.args.prev c.args.next) (joined (links_of old) c.args.prev c.args.next) c.args.node c.args.node
    (IsRelinked-linked old c.args.prev c.args.next c.requires.prev_in c.requires.next_in c.requires.closed) c.requires.node_in c.requires.node_in)

pub returns-clause-rest : goal.returns-clause-rest
returns-clause-rest c = rest-then c.args.store.now c.join.new.self c.join-2.new.self _ _ c.join.ensures c.join-2.ensures
