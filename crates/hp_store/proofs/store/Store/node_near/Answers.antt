use Rattle.std.proofs.Common.{ap, sym, ◌∙◌, ◌≡◌, length, arith}
use Rattle.hp_store.specs.declared.node.Counts.{Counts}
use Rattle.hp_store.specs.Lists.{node_at}
use Rattle.hp_store.specs.Store.{Stored}
use Rattle.hp_store.specs.Whole.{part_of}
use Rattle.hp_store.proofs.Standing.{node-here, fits-here}
use Rattle.hp_store.proofs.Laying.{count-nodes}
use Rattle.hp_store.proofs.Bare.{none-left, bare-before, bare-nodes}
use Rattle.hp_store.proofs.store.Store.node_near.Goals as goal

pub own_node-requires-clause-bare : goal.own_node-requires-clause-bare
own_node-requires-clause-bare c =
    let ps = c.self.inside.parts.items in
    let last = c.self.inside.last in
    let none : length ps ≡ 0 = none-left _ (length ps) (sym c.is_empty.ensures ∙ c.if-is_empty.true) c.self.inside.parts.ok.0 in
    bare-before ps last none c.self.invariant.laid

pub own_node-requires-clause-at_in : goal.own_node-requires-clause-at_in
own_node-requires-clause-at_in c =
    let ps = c.self.inside.parts.items in
    let last = c.self.inside.last in
    let none : length ps ≡ 0 = none-left _ (length ps) (sym c.is_empty.ensures ∙ c.if-is_empty.true) c.self.inside.parts.ok.0 in
    omega (arith, c.requires, ap (λ (s : Stored). length s.nodes) c.self.view_is, count-nodes ps last c.self.invariant.laid, ap (λ (b : Counts). b.nodes) (bare-before ps last none c.self.invariant.laid))

pub returns-then-is_empty : goal.returns-then-is_empty
returns-then-is_empty c =
    let ps = c.self.inside.parts.items in
    let last = c.self.inside.last in
    let none : length ps ≡ 0 = none-left _ (length ps) (sym c.is_empty.ensures ∙ c.if-is_empty.true) c.self.inside.parts.ok.0 in
    c.own_node.ensures ∙ ap (λ ns. node_at ns c.args.at) (sym (bare-nodes ps last none)) ∙ ap (λ (s : Stored). node_at s.nodes c.args.at) c.self.view_is

pub node-requires : goal.node-requires
node-requires c = let fits = fits-here c.self.inside.parts.items c.self.inside.last c.args.near c.part_at.result.now c.self.invariant.laid (c.part_at.ensures ∙ ap (λ ps. part_of ps c.self.inside.last c.args.near) c.deref.ensures.value) c.self.invariant.fits in fits.nodes

pub returns-in-Some : goal.returns-in-Some
returns-in-Some c =
    c.in-Some.ensures.node
    ∙ sym (node-here c.self.inside.parts.items c.self.inside.last c.args.near c.part_at.result.now c.self.invariant.laid (c.part_at.ensures ∙ ap (λ ps. part_of ps c.self.inside.last c.args.near) c.deref.ensures.value) c.args.at c.in-Some.ensures.here)
    ∙ ap (λ (s : Stored). node_at s.nodes c.args.at) c.self.view_is
