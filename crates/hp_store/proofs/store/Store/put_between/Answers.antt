use Rattle.std.proofs.Common.{◌≡◌, ◌<◌, ap, sym, ◌∙◌, length, arith, ℕ}
use Rattle.hp_store.specs.declared.node.Counts.{Counts}
use Rattle.hp_store.specs.Lists.{node_at, linked, put_between}
use Rattle.hp_store.specs.Store.{Stored}
use Rattle.hp_store.proofs.Laying.{count-nodes}
use Rattle.hp_store.proofs.Bare.{none-left, bare-before, bare-prev, way-none}
use Rattle.hp_store.proofs.Whole.{IsSound-last_nodes, nodes-put}
use Rattle.hp_store.proofs.store.Store.put_between.Goals as goal

pub put_own_before-requires-clause-at_in : goal.put_own_before-requires-clause-at_in
put_own_before-requires-clause-at_in c =
    let ps = c.self.inside.parts.items in
    let last = c.self.inside.last in
    let none : length ps ≡ 0 = none-left _ (length ps) (sym c.is_empty.ensures ∙ c.if-is_empty.true) c.self.inside.parts.ok.0 in
    omega (arith, c.requires.at_in, ap (λ (s : Stored). length s.nodes) c.self.view_is, count-nodes ps last c.self.invariant.laid, ap (λ (b : Counts). b.nodes) (bare-before ps last none c.self.invariant.laid))

pub put_own_before-requires-clause-node_in : goal.put_own_before-requires-clause-node_in
put_own_before-requires-clause-node_in c =
    let ps = c.self.inside.parts.items in
    let last = c.self.inside.last in
    let none : length ps ≡ 0 = none-left _ (length ps) (sym c.is_empty.ensures ∙ c.if-is_empty.true) c.self.inside.parts.ok.0 in
    omega (arith, c.requires.node_in, ap (λ (s : Stored). length s.nodes) c.self.view_is, count-nodes ps last c.self.invariant.laid, ap (λ (b : Counts). b.nodes) (bare-before ps last none c.self.invariant.laid))

pub put_own_before-requires-clause-before_in : goal.put_own_before-requires-clause-before_in
put_own_before-requires-clause-before_in c =
    let ps = c.self.inside.parts.items in
    let last = c.self.inside.last in
    let none : length ps ≡ 0 = none-left _ (length ps) (sym c.is_empty.ensures ∙ c.if-is_empty.true) c.self.inside.parts.ok.0 in
    let here : c.args.at < length last.nodes.items = omega (arith, c.requires.at_in, ap (λ (s : Stored). length s.nodes) c.self.view_is, count-nodes ps last c.self.invariant.laid, ap (λ (b : Counts). b.nodes) (bare-before ps last none c.self.invariant.laid)) in
    let prev = ap (λ (s : Stored). (node_at s.nodes c.args.at).prev) (sym c.self.view_is) ∙ bare-prev ps last none c.args.at c.self.invariant.laid here in
    omega (arith, c.requires.before_in, c.requires.before, prev, ap (λ (s : Stored). length s.nodes) c.self.view_is, count-nodes ps last c.self.invariant.laid, ap (λ (b : Counts). b.nodes) (bare-before ps last none c.self.invariant.laid))

pub invariant_of-self : goal.invariant_of-self
invariant_of-self c = IsSound-last_nodes c.self.inside c.put_own_before.new.self c.self.invariant c.put_own_before.ensures.kept

pub returns-then-is_empty : goal.returns-then-is_empty
returns-then-is_empty c =
    let ps = c.self.inside.parts.items in
    let last = c.self.inside.last in
    let none : length ps ≡ 0 = none-left _ (length ps) (sym c.is_empty.ensures ∙ c.if-is_empty.true) c.self.inside.parts.ok.0 in
    let bare = bare-before ps last none c.self.invariant.laid in
    nodes-put c.self.inside c.put_own_before.new.self c.args.at c.args.node c.args.at c.args.node c.self.invariant c.put_own_before.ensures.kept (omega (arith, c.ranges.at.fits)) (omega (arith, c.ranges.node.fits))
    (way-none last.before c.args.at bare (omega (arith, c.ranges.at.fits))) (way-none last.before c.args.node bare (omega (arith, c.ranges.node.fits))) c.put_own_before.ensures.nodes
    ∙ ap (λ (s : Stored). record s { nodes = put_between s.nodes c.args.at c.args.node }) c.self.view_is

pub returns : goal.returns
returns c = c.link_between.ensures ∙ ap (λ (k : ℕ). record c.args.self.now { nodes = linked (linked c.args.self.now.nodes k c.args.node) c.args.node c.args.at }) (sym c.requires.before)
