use Rattle.std.proofs.Common.{◌≡◌, ◌+◌, ◌<◌, length, sym, ap, ◌∙◌, subst, arith}
use Rattle.hp_control.specs.Tree.{IsForest}
use Rattle.hp_store.specs.Lists.{node_of}
use Rattle.hp_arena.specs.Nodes.{links_of, stops}
use Rattle.hp_arena.specs.Readers.{IsSpotOf}
use Rattle.hp_arena.proofs.Glue.{id-below}
use Rattle.hp_arena.proofs.Parents.{IsForest-seen}
use Rattle.hp_arena.proofs.Reading.{none-inside, first-inside, MatchOption-map}
use Rattle.hp_arena.proofs.arena.Arena.first_inside.Goals as goal

pub node_of-end-requires : goal.node_of-end-requires
node_of-end-requires c = id-below c.self.inside c.args.self.now c.args.id c.self.view_is c.requires

pub overflow_add-end : goal.overflow_add-end
overflow_add-end c =
    let there : c.node_of-end.result + 1 < length c.self.inside.store.nodes = rw c.node_of-end.ensures (c.self.invariant.tree.end_in c.args.id (id-below c.self.inside c.args.self.now c.args.id c.self.view_is c.requires)) in
    omega (arith, c.self.invariant.room.numbers)

pub node_near-part-requires : goal.node_near-part-requires
node_near-part-requires c = rw c.node_of-end.ensures (c.self.invariant.tree.end_in c.args.id (id-below c.self.inside c.args.self.now c.args.id c.self.view_is c.requires))

pub spot-requires : goal.spot-requires
spot-requires c =
    rw (c.node_near-part.ensures, c.node_of-end.ensures) (c.self.invariant.tree.closed.next _ (c.self.invariant.tree.end_in c.args.id (id-below c.self.inside c.args.self.now c.args.id c.self.view_is c.requires)))

pub returns-clause-first : goal.returns-clause-first
returns-clause-first c =
    let below = (id-below c.self.inside c.args.self.now c.args.id c.self.view_is c.requires) in
    let next : c.node_near-part.result.0.next ≡ (links_of c.self.inside.store.nodes).next (node_of c.self.inside.store.elements c.args.id + 1) =
    ap (λ n. n.next) c.node_near-part.ensures ∙ ap (λ k. (links_of c.self.inside.store.nodes).next (k + 1)) c.node_of-end.ensures in
    MatchOption-map c.spot.result _ _ _ _
    (λ stop. none-inside c.self.inside c.self.invariant c.args.self.now c.self.view_is c.args.id below (ap (stops c.self.inside.store.nodes) (sym next) ∙ stop))
    (λ first own. (own.parent_is, own.place_is, first-inside c.self.inside c.self.invariant c.args.self.now c.self.view_is c.args.id below first (subst (λ k. IsSpotOf c.self.inside.store.nodes c.args.id 0 k first) next own)))
    c.spot.ensures

pub returns-clause-forest : goal.returns-clause-forest
returns-clause-forest c = subst (λ s. IsForest s.branches) c.self.view_is (IsForest-seen c.self.inside c.self.invariant)
