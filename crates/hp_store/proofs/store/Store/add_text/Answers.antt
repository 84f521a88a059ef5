use Rattle.std.proofs.Common.{◌+◌, ◌-◌, ◌<◌, ◌^◌, List, set, length, arith, ap, sym, ◌∙◌, subst}
use Rattle.hp_store.specs.declared.part.Leaf.{Leaf as LeafOf}
use Rattle.hp_store.specs.Store.{Stored}
use Rattle.hp_store.specs.Lists.{leaf_at}
use Rattle.hp_store.specs.Leaves.{is_text_of, run_count, IsTextAdded}
use Rattle.hp_store.specs.Parts.{part_leaves, HasLeaf}
use Rattle.hp_store.specs.Whole.{seen, all_leaves}
use Rattle.hp_store.proofs.Laying.{count-leaves}
use Rattle.hp_store.proofs.Standing.{leaf-here, fits-here, last-held, part-held}
use Rattle.hp_store.proofs.Texts.{text-added}
use Rattle.hp_store.proofs.Whole.{IsSound-last_leaves, IsSound-part_leaves, leaves-last, leaves-part}
use Rattle.hp_store.proofs.store.Store.add_text.Goals as goal

pub add_text-requires-clause-here : goal.add_text-requires-clause-here
add_text-requires-clause-here c = record {
  from = c.if-self-number.true;
  to = omega (arith, c.requires.number_in, ap (λ (s : Stored). length s.leaves) c.self.view_is, count-leaves c.self.inside.parts.items c.self.inside.last c.self.invariant.laid);
}

pub add_text-requires-clause-is_text : goal.add_text-requires-clause-is_text
add_text-requires-clause-is_text c =
    let a = c.self.inside in
    let has : HasLeaf a.last c.args.number = record {
      from = c.if-self-number.true;
      to = omega (arith, c.requires.number_in, ap (λ (s : Stored). length s.leaves) c.self.view_is, count-leaves a.parts.items a.last c.self.invariant.laid);
    } in
    ap is_text_of (sym (ap (λ (s : Stored). leaf_at s.leaves c.args.number) (sym c.self.view_is) ∙ leaf-here a.parts.items a.last (length a.parts.items) a.last c.self.invariant.laid (last-held a.parts.items a.last) c.args.number has))
    ∙ c.requires.is_text

pub add_text-requires-clause-room : goal.add_text-requires-clause-room
add_text-requires-clause-room c =
    let a = c.self.inside in
    let has : HasLeaf a.last c.args.number = record {
      from = c.if-self-number.true;
      to = omega (arith, c.requires.number_in, ap (λ (s : Stored). length s.leaves) c.self.view_is, count-leaves a.parts.items a.last c.self.invariant.laid);
    } in
    subst (λ (l : LeafOf). run_count l + 1 < 2 ^ 63)
    (ap (λ (s : Stored). leaf_at s.leaves c.args.number) (sym c.self.view_is) ∙ leaf-here a.parts.items a.last (length a.parts.items) a.last c.self.invariant.laid (last-held a.parts.items a.last) c.args.number has)
    c.requires.room

pub invariant_of-self : goal.invariant_of-self
invariant_of-self c = IsSound-last_leaves c.self.inside c.add_text.new.self c.self.invariant c.add_text.ensures.kept

pub returns-then-self-number-clause-leaves : goal.returns-then-self-number-clause-leaves
returns-then-self-number-clause-leaves c =
    let a = c.self.inside in
    let q = c.add_text.new.self in
    let has : HasLeaf a.last c.args.number = record {
      from = c.if-self-number.true;
      to = omega (arith, c.requires.number_in, ap (λ (s : Stored). length s.leaves) c.self.view_is, count-leaves a.parts.items a.last c.self.invariant.laid);
    } in
    let more : LeafOf = leaf_at (part_leaves q) (c.args.number - a.last.before.leaves) in
    subst (λ (s : Stored). IsTextAdded s.leaves (all_leaves a.parts.items q) c.args.number c.args.text) c.self.view_is
    (text-added (seen a).leaves (all_leaves a.parts.items q) c.args.number (leaf_at (part_leaves a.last) (c.args.number - a.last.before.leaves)) more c.args.text
    (subst (λ (s : Stored). c.args.number < length s.leaves) (sym c.self.view_is) c.requires.number_in)
    (leaf-here a.parts.items a.last (length a.parts.items) a.last c.self.invariant.laid (last-held a.parts.items a.last) c.args.number has)
    c.add_text.ensures.leaf
    (ap (λ (s : Stored). s.leaves) (leaves-last a q c.args.number (λ (l : LeafOf). more) c.self.invariant c.if-self-number.true c.add_text.ensures.kept c.add_text.ensures.others)))

pub add_text-requires-2-clause-fits : goal.add_text-requires-2-clause-fits
add_text-requires-2-clause-fits c =
    let a = c.self.inside in
    let h : c.leaf_part-part.result < length a.parts.items = rw c.deref.ensures.value at (c.leaf_part-part.ensures.finished (omega (arith, c.if-self-number.false))) in
    let fits = fits-here a.parts.items a.last c.leaf_part-part.result c.index_mut.result.now c.self.invariant.laid (part-held a.parts.items a.last c.leaf_part-part.result c.index_mut.result.now h c.index_mut.ensures.value) c.self.invariant.fits in
    fits.leaves

pub add_text-requires-2-clause-is_text : goal.add_text-requires-2-clause-is_text
add_text-requires-2-clause-is_text c =
    let a = c.self.inside in
    let k = c.leaf_part-part.result in
    let p = c.index_mut.result.now in
    let h : k < length a.parts.items = rw c.deref.ensures.value at (c.leaf_part-part.ensures.finished (omega (arith, c.if-self-number.false))) in
    let held = part-held a.parts.items a.last k p h c.index_mut.ensures.value in
    let has : HasLeaf p c.args.number = subst (λ q. HasLeaf q c.args.number) (sym held) (rw c.deref.ensures.value at c.leaf_part-part.ensures.here) in
    ap is_text_of (sym (ap (λ (s : Stored). leaf_at s.leaves c.args.number) (sym c.self.view_is) ∙ leaf-here a.parts.items a.last k p c.self.invariant.laid held c.args.number has))
    ∙ c.requires.is_text

pub add_text-requires-2-clause-room : goal.add_text-requires-2-clause-room
add_text-requires-2-clause-room c =
    let a = c.self.inside in
    let k = c.leaf_part-part.result in
    let p = c.index_mut.result.now in
    let h : k < length a.parts.items = rw c.deref.ensures.value at (c.leaf_part-part.ensures.finished (omega (arith, c.if-self-number.false))) in
    let held = part-held a.parts.items a.last k p h c.index_mut.ensures.value in
    let has : HasLeaf p c.args.number = subst (λ q. HasLeaf q c.args.number) (sym held) (rw c.deref.ensures.value at c.leaf_part-part.ensures.here) in
    subst (λ (l : LeafOf). run_count l + 1 < 2 ^ 63)
    (ap (λ (s : Stored). leaf_at s.leaves c.args.number) (sym c.self.view_is) ∙ leaf-here a.parts.items a.last k p c.self.invariant.laid held c.args.number has)
    c.requires.room

pub invariant_of-self-2 : goal.invariant_of-self-2
invariant_of-self-2 c =
    let a = c.self.inside in
    let h : c.leaf_part-part.result < length a.parts.items = rw c.deref.ensures.value at (c.leaf_part-part.ensures.finished (omega (arith, c.if-self-number.false))) in
    IsSound-part_leaves a c.leaf_part-part.result c.index_mut.result.now c.add_text-2.new.self c.self.invariant h c.index_mut.ensures.value c.add_text-2.ensures.kept

pub returns-clause-leaves : goal.returns-clause-leaves
returns-clause-leaves c =
    let a = c.self.inside in
    let k = c.leaf_part-part.result in
    let p = c.index_mut.result.now in
    let q = c.add_text-2.new.self in
    let h : k < length a.parts.items = rw c.deref.ensures.value at (c.leaf_part-part.ensures.finished (omega (arith, c.if-self-number.false))) in
    let held = part-held a.parts.items a.last k p h c.index_mut.ensures.value in
    let has : HasLeaf p c.args.number = subst (λ r. HasLeaf r c.args.number) (sym held) (rw c.deref.ensures.value at c.leaf_part-part.ensures.here) in
    let more : LeafOf = leaf_at (part_leaves q) (c.args.number - p.before.leaves) in
    let is = leaves-part a k c.args.number p q (λ (l : LeafOf). more) c.self.invariant h c.index_mut.ensures.value has c.add_text-2.ensures.kept c.add_text-2.ensures.others in
    subst (λ (s : Stored). IsTextAdded s.leaves (all_leaves (set a.parts.items k q) a.last) c.args.number c.args.text) c.self.view_is
    (text-added (seen a).leaves (all_leaves (set a.parts.items k q) a.last) c.args.number (leaf_at (part_leaves p) (c.args.number - p.before.leaves)) more c.args.text
    (subst (λ (s : Stored). c.args.number < length s.leaves) (sym c.self.view_is) c.requires.number_in)
    (leaf-here a.parts.items a.last k p c.self.invariant.laid held c.args.number has)
    c.add_text-2.ensures.leaf
    (ap (λ (s : Stored). s.leaves) is))

pub returns-clause-lists : goal.returns-clause-lists
returns-clause-lists c =
    let a = c.self.inside in
    let k = c.leaf_part-part.result in
    let p = c.index_mut.result.now in
    let q = c.add_text-2.new.self in
    let h : k < length a.parts.items = rw c.deref.ensures.value at (c.leaf_part-part.ensures.finished (omega (arith, c.if-self-number.false))) in
    let held = part-held a.parts.items a.last k p h c.index_mut.ensures.value in
    let has : HasLeaf p c.args.number = subst (λ r. HasLeaf r c.args.number) (sym held) (rw c.deref.ensures.value at c.leaf_part-part.ensures.here) in
    let more : LeafOf = leaf_at (part_leaves q) (c.args.number - p.before.leaves) in
    let is = leaves-part a k c.args.number p q (λ (l : LeafOf). more) c.self.invariant h c.index_mut.ensures.value has c.add_text-2.ensures.kept c.add_text-2.ensures.others in
    is
    ∙ ap (λ (ls : List LeafOf). record (seen a) { leaves = ls }) (sym (ap (λ (s : Stored). s.leaves) is))
    ∙ ap (λ (s : Stored). record s { leaves = all_leaves (set a.parts.items k q) a.last }) c.self.view_is
