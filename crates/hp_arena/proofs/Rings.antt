-- The edits of links keep every node in a ring.
use Rattle.std.proofs.Common.{◌≡◌, ◌≢◌, ℕ, arith, sym, ap, ◌∙◌}
use Rattle.std.proofs.lemmas.Bool.Decides.{nat_tests}
use Rattle.hp_arena.specs.Ring.{Links, unlinked, inserted, spliced}

-- a node that comes back to itself over the node beside it
pub record Turns (l : Links) (s : ℕ) : Type 0 where
  pub after : l.prev (l.next s) ≡ s
  pub before : l.next (l.prev s) ≡ s

pub Turns-unlinked : (l : Links) (node s : ℕ) → Turns l node → Turns l s → Turns (unlinked l node) s
Turns-unlinked l node s n t = record {
  after = grind (arith, nat_tests, n.after, n.before, t.after, t.before);
  before = grind (arith, nat_tests, n.after, n.before, t.after, t.before);
}

pub Turns-inserted : (l : Links) (at node s : ℕ) → l.next node ≡ node → at ≢ node → Turns l at → Turns l node → Turns l s → Turns (inserted l at node) s
Turns-inserted l at node s alone h a n t = record {
  after = grind (arith, nat_tests, n.after, n.before, t.after, t.before, a.after, a.before);
  before = grind (arith, nat_tests, n.after, n.before, t.after, t.before, a.after, a.before);
}

-- a node that is alone stays so, where others are unlinked, put or moved
pub alone-unlinked : (l : Links) (node s : ℕ) → Turns l node → l.next s ≡ s → (unlinked l node).next s ≡ s
alone-unlinked l node s n h = grind (arith, nat_tests, n.after, n.before, h)

pub alone-inserted : (l : Links) (at node s : ℕ) → Turns l at → s ≢ node → at ≢ s → l.next s ≡ s → (inserted l at node).next s ≡ s
alone-inserted l at node s a h1 h2 h = let h3 : s ≢ l.prev at = λ e. h2 (sym a.before ∙ ap l.next (sym e) ∙ h) in grind (arith, nat_tests, h, h1, h3)

pub alone-spliced : (l : Links) (source target s : ℕ) → Turns l source → Turns l target → s ≢ source → s ≢ target → l.next s ≡ s → (spliced l source target).next s ≡ s
alone-spliced l source target s a b h1 h2 h =
    let h3 : s ≢ l.prev source = λ e. h1 (sym h ∙ ap l.next e ∙ a.before) in
    let h4 : s ≢ l.prev target = λ e. h2 (sym h ∙ ap l.next e ∙ b.before) in
    grind (arith, nat_tests, h, h1, h3, h4)
