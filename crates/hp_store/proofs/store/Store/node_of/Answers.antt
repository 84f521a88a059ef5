use Rattle.std.proofs.Common.{ap, sym, ◌∙◌, ◌≡◌, ◌-◌, length, arith}
use Rattle.hp_store.specs.declared.node.Counts.{Counts}
use Rattle.hp_store.specs.Lists.{node_of}
use Rattle.hp_store.specs.Store.{Stored, Element as ElementOf}
use Rattle.hp_store.proofs.Laying.{count-elements}
use Rattle.hp_store.proofs.Bare.{none-left, bare-before, bare-elements, element-shown}
use Rattle.hp_store.proofs.store.Store.node_of.Goals as goal

pub returns-then-id-eq0 : goal.returns-then-id-eq0
returns-then-id-eq0 c =
    let id : 0 ≡ c.args.id = omega arith in
    ap (λ (s : Stored). node_of s.elements 0) c.self.view_is ∙ ap (λ n. node_of c.args.self.now.elements n) id

pub own_node_of-requires-clause-bare : goal.own_node_of-requires-clause-bare
own_node_of-requires-clause-bare c =
    let ps = c.self.inside.parts.items in
    let last = c.self.inside.last in
    let none : length ps ≡ 0 = none-left _ (length ps) (sym c.is_empty.ensures ∙ c.if-is_empty.true) c.self.inside.parts.ok.0 in
    bare-before ps last none c.self.invariant.laid

pub own_node_of-requires-clause-id_in : goal.own_node_of-requires-clause-id_in
own_node_of-requires-clause-id_in c =
    let ps = c.self.inside.parts.items in
    let last = c.self.inside.last in
    let none : length ps ≡ 0 = none-left _ (length ps) (sym c.is_empty.ensures ∙ c.if-is_empty.true) c.self.inside.parts.ok.0 in
    omega (arith, c.requires, ap (λ (s : Stored). length s.elements) c.self.view_is, count-elements ps last c.self.invariant.laid, ap (λ (b : Counts). b.elements) (bare-before ps last none c.self.invariant.laid))

pub returns-then-is_empty : goal.returns-then-is_empty
returns-then-is_empty c =
    let ps = c.self.inside.parts.items in
    let last = c.self.inside.last in
    let none : length ps ≡ 0 = none-left _ (length ps) (sym c.is_empty.ensures ∙ c.if-is_empty.true) c.self.inside.parts.ok.0 in
    c.own_node_of.ensures
    ∙ ap (λ es. node_of es (c.args.id - 1)) (sym (bare-elements ps last none))
    ∙ ap (λ (e : ElementOf). e.node) (sym (element-shown _ c.args.id (omega arith)))
    ∙ ap (λ (s : Stored). node_of s.elements c.args.id) c.self.view_is
