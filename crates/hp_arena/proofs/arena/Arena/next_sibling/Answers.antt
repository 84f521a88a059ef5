use Rattle.std.proofs.Common.{◌≡◌, ◌+◌, ◌<◌, ◌^◌, sym, ap, ◌∙◌, subst, arith}
use Rattle.hp_arena.specs.Nodes.{links_of, stops}
use Rattle.hp_arena.specs.Readers.{IsSpotOf}
use Rattle.hp_arena.proofs.Reading.{Stands, stands, next-kept, last-there, next-there, length-there, spot-there, MatchOption-map}
use Rattle.hp_arena.proofs.arena.Arena.next_sibling.Goals as goal

pub overflow_add-at : goal.overflow_add-at
overflow_add-at c =
    let st : Stands c.self.inside c.args.at.parent c.args.at.place c.args.at.node = stands c.self.inside c.self.invariant c.args.self.now c.self.view_is c.args.at c.requires in
    let fits : c.args.at.place + 1 < 2 ^ 32 = st.fits in omega arith

pub spot-requires : goal.spot-requires
spot-requires c =
    let st : Stands c.self.inside c.args.at.parent c.args.at.place c.args.at.node = stands c.self.inside c.self.invariant c.args.self.now c.self.view_is c.args.at c.requires in
    rw (next-kept c.self.inside c.self.invariant c.args.self.now c.self.view_is c.args.at c.requires) (c.self.invariant.tree.closed.next c.args.at.node st.node_in)

pub returns : goal.returns
returns c =
    let st : Stands c.self.inside c.args.at.parent c.args.at.place c.args.at.node = stands c.self.inside c.self.invariant c.args.self.now c.self.view_is c.args.at c.requires in
    let next : c.args.at.next ≡ (links_of c.self.inside.store.nodes).next c.args.at.node = next-kept c.self.inside c.self.invariant c.args.self.now c.self.view_is c.args.at c.requires in
    MatchOption-map c.spot.result _ _ _ _
    (λ stop. length-there c.self.inside c.self.invariant c.args.self.now c.self.view_is c.args.at.parent st.parent_in ∙ last-there c.self.inside c.self.invariant c.args.at.parent c.args.at.place c.args.at.node st (ap (stops c.self.inside.store.nodes) (sym next) ∙ stop))
    (λ after own. (
      own.parent_is,
      own.place_is,
      spot-there c.self.inside c.self.invariant c.args.self.now c.self.view_is c.args.at.parent (c.args.at.place + 1) ((links_of c.self.inside.store.nodes).next c.args.at.node) after st.parent_in
          (next-there c.self.inside c.self.invariant c.args.at.parent c.args.at.place c.args.at.node st (ap (stops c.self.inside.store.nodes) (sym next) ∙ own.inner))
          (subst (λ k. IsSpotOf c.self.inside.store.nodes c.args.at.parent (c.args.at.place + 1) k after) next own),
    ))
    c.spot.ensures
