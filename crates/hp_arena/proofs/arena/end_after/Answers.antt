use Rattle.std.proofs.Common.{◌≡◌, ◌≢◌, ◌-◌, ◌+◌, ◌<◌, ℕ, length, sym, ap, ◌∙◌, arith, refl, false}
use Rattle.hp_store.specs.declared.node.Kind.{Kind}
use Rattle.hp_store.specs.declared.node.Kind.TheVariants.{End, Element, Leaf}
use Rattle.hp_arena.specs.Nodes.{end_from, is_end, links_of}
use Rattle.hp_arena.proofs.Fosters.{end-stop, end-go, end-none}
use Rattle.hp_arena.proofs.arena.end_after.Goals as goal

inner : (k : Kind) → ((id : ℕ) → k ≢ End id) → is_end k ≡ false
inner (End id) h = absurd (h id refl)
inner (Element id) h = refl
inner (Leaf number) h = refl

pub returns-in-End : goal.returns-in-End
returns-in-End c =
    sym (end-stop c.args.store.now.nodes (length c.args.store.now.nodes - c.loop.counter) c.loop.at (ap (λ n. is_end n.kind) (sym c.node_near-found.ensures) ∙ ap is_end c.in-End.is)) ∙ c.loop.invariant.same

pub loop-preserved : goal.loop-preserved
loop-preserved c =
    let nodes = c.args.store.now.nodes in
    let some : 0 < length c.args.store.now.nodes - c.loop.counter = omega (arith, c.loop-test.true, c.counts-end.ensures.nodes) in
    let less : length c.args.store.now.nodes - (c.loop.counter + 1) ≡ length c.args.store.now.nodes - c.loop.counter - 1 = omega arith in
    record {
      at_in = rw c.node_near-found.ensures (c.requires.closed.next c.loop.at c.loop.invariant.at_in);
      same =
          ap (λ m. end_from nodes (length nodes - (c.loop.counter + 1)) m.next) c.node_near-found.ensures
          ∙ ap (λ n. end_from nodes n ((links_of nodes).next c.loop.at)) less
          ∙ sym (end-go nodes (length nodes - c.loop.counter) c.loop.at (ap (λ m. is_end m.kind) (sym c.node_near-found.ensures) ∙ inner c.node_near-found.result.0.kind c.in_default.not-End) some)
          ∙ c.loop.invariant.same;
    }

pub returns : goal.returns
returns c =
    let none : length c.args.store.now.nodes - c.loop.counter ≡ 0 = omega (arith, c.loop-test.false, c.counts-end.ensures.nodes) in
    sym (ap (λ n. end_from c.args.store.now.nodes n c.loop.at) none ∙ end-none c.args.store.now.nodes c.loop.at) ∙ c.loop.invariant.same
