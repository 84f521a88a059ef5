use Rattle.std.proofs.Common.{◌<◌, sym, ◌∙◌, arith}
use Rattle.hp_arena.proofs.Reading.{Stands, stands, kind-kept, not_end, element-there, leaf-there, leaf_item-there, element_item-there, tag-there}
use Rattle.hp_arena.proofs.arena.Arena.view.Goals as goal

pub unreachable-requires : goal.unreachable-requires
unreachable-requires c =
    let st : Stands c.self.inside c.args.at.parent c.args.at.place c.args.at.node = stands c.self.inside c.self.invariant c.args.self.now c.self.view_is c.args.at c.requires in
    not_end c.self.inside c.self.invariant c.args.at.parent c.args.at.place c.args.at.node st c.in-End.field-0 (kind-kept c.self.inside c.self.invariant c.args.self.now c.self.view_is c.args.at c.requires ∙ c.in-End.is)

pub tag_near-requires-clause-id_in : goal.tag_near-requires-clause-id_in
tag_near-requires-clause-id_in c =
    let st : Stands c.self.inside c.args.at.parent c.args.at.place c.args.at.node = stands c.self.inside c.self.invariant c.args.self.now c.self.view_is c.args.at c.requires in
    (element-there c.self.inside c.self.invariant c.args.at.parent c.args.at.place c.args.at.node st c.in-Element.id (kind-kept c.self.inside c.self.invariant c.args.self.now c.self.view_is c.args.at c.requires ∙ c.in-Element.is)).0

pub tag_near-requires-clause-apart : goal.tag_near-requires-clause-apart
tag_near-requires-clause-apart c =
    let st : Stands c.self.inside c.args.at.parent c.args.at.place c.args.at.node = stands c.self.inside c.self.invariant c.args.self.now c.self.view_is c.args.at c.requires in
    let some : 0 < c.in-Element.id = (element-there c.self.inside c.self.invariant c.args.at.parent c.args.at.place c.args.at.node st c.in-Element.id (kind-kept c.self.inside c.self.invariant c.args.self.now c.self.view_is c.args.at c.requires ∙ c.in-Element.is)).1 in
    λ none. omega (arith, some, none)

pub returns-in-Element-clause-item : goal.returns-in-Element-clause-item
returns-in-Element-clause-item c =
    let st : Stands c.self.inside c.args.at.parent c.args.at.place c.args.at.node = stands c.self.inside c.self.invariant c.args.self.now c.self.view_is c.args.at c.requires in
    element_item-there c.self.inside c.self.invariant c.args.at.parent c.args.at.place c.args.at.node st c.args.self.now c.self.view_is c.in-Element.id (kind-kept c.self.inside c.self.invariant c.args.self.now c.self.view_is c.args.at c.requires ∙ c.in-Element.is)

pub returns-in-Element-clause-tag : goal.returns-in-Element-clause-tag
returns-in-Element-clause-tag c =
    let st : Stands c.self.inside c.args.at.parent c.args.at.place c.args.at.node = stands c.self.inside c.self.invariant c.args.self.now c.self.view_is c.args.at c.requires in
    tag-there c.self.inside c.args.self.now c.self.view_is c.in-Element.id (element-there c.self.inside c.self.invariant c.args.at.parent c.args.at.place c.args.at.node st c.in-Element.id (kind-kept c.self.inside c.self.invariant c.args.self.now c.self.view_is c.args.at c.requires ∙ c.in-Element.is)).0 ∙ c.tag_near.ensures

pub leaf_near-requires : goal.leaf_near-requires
leaf_near-requires c =
    let st : Stands c.self.inside c.args.at.parent c.args.at.place c.args.at.node = stands c.self.inside c.self.invariant c.args.self.now c.self.view_is c.args.at c.requires in
    leaf-there c.self.inside c.self.invariant c.args.at.parent c.args.at.place c.args.at.node st c.in-Leaf.number (kind-kept c.self.inside c.self.invariant c.args.self.now c.self.view_is c.args.at c.requires ∙ c.in-Leaf.is)

pub returns-in-Leaf-clause-item : goal.returns-in-Leaf-clause-item
returns-in-Leaf-clause-item c =
    let st : Stands c.self.inside c.args.at.parent c.args.at.place c.args.at.node = stands c.self.inside c.self.invariant c.args.self.now c.self.view_is c.args.at c.requires in
    leaf_item-there c.self.inside c.self.invariant c.args.at.parent c.args.at.place c.args.at.node st c.args.self.now c.self.view_is c.in-Leaf.number c.leaf_near.result.now (kind-kept c.self.inside c.self.invariant c.args.self.now c.self.view_is c.args.at c.requires ∙ c.in-Leaf.is) (sym c.leaf_near.ensures) ∙ sym c.view_of.ensures.item

pub returns-in-Leaf-clause-child : goal.returns-in-Leaf-clause-child
returns-in-Leaf-clause-child c = c.view_of.ensures.child

pub returns-in-Leaf-clause-tag : goal.returns-in-Leaf-clause-tag
returns-in-Leaf-clause-tag c = c.view_of.ensures.tag c.args.self.now.branches
