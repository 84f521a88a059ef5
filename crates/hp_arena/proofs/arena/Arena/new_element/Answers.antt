use Rattle.std.proofs.Common.{◌<◌, ◌+◌, length, sym, ap, subst}
use Rattle.hp_arena.proofs.Elements.{sound-element, branches-more}
use Rattle.hp_arena.proofs.arena.Arena.new_element.Goals as goal

pub invariant_of-self : goal.invariant_of-self
invariant_of-self c =
    sound-element c.self.inside c.self.invariant c.args.tag c.push_element.new.self c.push_element.ensures.nodes c.push_element.ensures.elements c.push_element.ensures.leaves (c.len-room.result + 1) (subst (λ s. length c.args.tag.attributes < s.spare) (sym c.self.view_is) c.requires) (ap (λ n. n + 1) c.len-room.ensures.value)
    c.push_element.ensures.nodes_left c.push_element.ensures.elements_left c.push_element.ensures.leaves_left

pub returns-clause-branches : goal.returns-clause-branches
returns-clause-branches c = branches-more c.self.inside c.self.invariant c.args.tag c.push_element.new.self c.push_element.ensures.nodes c.push_element.ensures.elements c.push_element.ensures.leaves c.args.self.now c.self.view_is
