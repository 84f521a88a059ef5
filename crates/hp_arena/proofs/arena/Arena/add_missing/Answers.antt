use Rattle.std.proofs.Common.{◌<◌, ◌+◌, length, sym, ap, subst, arith, refl}
use Rattle.hp_arena.proofs.Glue.{id-below}
use Rattle.hp_arena.proofs.Tagging.{IsSound-retagged, branches-with_missing}
use Rattle.hp_arena.proofs.arena.Arena.add_missing.Goals as goal

pub add_attributes-requires-clause-id_in : goal.add_attributes-requires-clause-id_in
add_attributes-requires-clause-id_in c = id-below c.self.inside c.args.self.now c.args.id c.self.view_is c.requires.id_in

pub add_attributes-requires-clause-room : goal.add_attributes-requires-clause-room
add_attributes-requires-clause-room c =
    omega (arith, c.self.invariant.room.attributes c.args.id, c.self.invariant.room.used, subst (λ s. length c.args.attributes < s.spare) (sym c.self.view_is) c.requires.room)

pub invariant_of-self : goal.invariant_of-self
invariant_of-self c =
    IsSound-retagged c.self.inside _ c.args.id c.args.attributes (c.len-room.result + 1) c.self.invariant
    (id-below c.self.inside c.args.self.now c.args.id c.self.view_is c.requires.id_in)
    (subst (λ s. length c.args.attributes < s.spare) (sym c.self.view_is) c.requires.room)
    c.add_attributes.ensures (ap (λ n. n + 1) c.len-room.ensures.value) refl refl refl

pub returns-clause-branches : goal.returns-clause-branches
returns-clause-branches c =
    branches-with_missing c.self.inside (record c.self.inside { store = c.add_attributes.new.self }) c.args.self.now c.args.id c.args.attributes c.self.view_is
    (id-below c.self.inside c.args.self.now c.args.id c.self.view_is c.requires.id_in)
    c.add_attributes.ensures
