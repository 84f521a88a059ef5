use Rattle.std.proofs.Common.{◌<◌, ◌≤◌, length, sym, ap, subst, ◌∙◌}
use Rattle.std.proofs.lemmas.List.{length-map}
use Rattle.hp_store.specs.Lists.{attribute_count}
use Rattle.hp_arena.specs.Shape.{branch_of, items_in}
use Rattle.hp_arena.proofs.Reading.{tag-there}
use Rattle.hp_arena.proofs.arena.Arena.most_attributes.Goals as goal

pub returns : goal.returns
returns c = λ id within.
    let a = c.self.inside in
    let count = ap (λ s. length s.branches) (sym c.self.view_is) ∙ length-map a.store.elements (branch_of a.store.nodes (items_in a)) in
    let below : id < length a.store.elements = subst (λ n. id < n) count within in
    subst (λ tag. attribute_count tag ≤ a.used) (sym (tag-there a c.args.self.now c.self.view_is id below)) (c.self.invariant.room.attributes id)
