-- One part alone, before which nothing comes.
use Rattle.std.proofs.Common.{◌≡◌, ℕ, ◌-◌, ◌^◌, ◌<◌, zero, suc, List, [], ◌∷◌, ◌++◌, length, get_or, flat_map, ◌==◌, true, refl, arith, ap, sym, ◌∙◌, subst}
use Rattle.std.proofs.lemmas.Bool.Decides.{nat_tests}
use Rattle.hp_store.specs.declared.node.Counts.{Counts}
use Rattle.hp_store.specs.declared.node.Node.{Node}
use Rattle.hp_store.specs.declared.part.Part.{Part}
use Rattle.hp_store.specs.Store.{Element as ElementOf}
use Rattle.hp_store.specs.Numbers.{no_counts, counted, way}
use Rattle.hp_store.specs.Lists.{node_at, document, no_element}
use Rattle.hp_store.specs.Parts.{part_nodes, part_elements, part_leaves, AreLaid}
use Rattle.hp_store.specs.Whole.{all_nodes, own_elements, all_leaves}
use Rattle.hp_store.proofs.Listed.{node-raised}

-- a length that is tested
pub none-left : (len n : ℕ) → (len == 0) ≡ true → len ≡ n → n ≡ 0
none-left len n h is = grind (arith, nat_tests)

-- where there is no finished part
module _ (ps : List Part) (last : Part) (none : length ps ≡ 0) where
  pub no-parts : ps ≡ []
  no-parts = bare ps none where
    bare : (qs : List Part) → length qs ≡ 0 → qs ≡ []
    bare [] h = refl
    bare (q ∷ qs) h = absurd (omega (arith, h))

  pub bare-before : AreLaid no_counts (ps ++ last ∷ []) → last.before ≡ no_counts
  bare-before laid = let alone = subst (λ qs. AreLaid no_counts (qs ++ last ∷ [])) no-parts laid in alone.0

  pub bare-nodes : all_nodes ps last ≡ part_nodes last
  bare-nodes = ap (λ qs. flat_map part_nodes qs ++ part_nodes last) no-parts

  pub bare-elements : own_elements ps last ≡ part_elements last
  bare-elements = ap (λ qs. flat_map part_elements qs ++ part_elements last) no-parts

  pub bare-leaves : all_leaves ps last ≡ part_leaves last
  bare-leaves = ap (λ qs. flat_map part_leaves qs ++ part_leaves last) no-parts

  -- the node before another one
  pub bare-prev : (at : ℕ) → AreLaid no_counts (ps ++ last ∷ []) → at < length last.nodes.items → (node_at (all_nodes ps last) at).prev ≡ counted 0 (node_at last.nodes.items at).prev
  bare-prev at laid h =
      ap (λ ns. (node_at ns at).prev) bare-nodes
      ∙ ap (λ (n : Node). n.prev) (node-raised last.before last.nodes.items at h)
      ∙ ap (λ (b : Counts). counted b.nodes (node_at last.nodes.items at).prev) (bare-before laid)

-- the way to a number before which nothing comes
pub way-none : (b : Counts) (at : ℕ) → b ≡ no_counts → at < 2 ^ 32 → at ≡ way b.nodes at
way-none b at bare h = way-zero at h ∙ ap (λ (c : Counts). way c.nodes at) (sym bare) where
  way-zero : (n : ℕ) → n < 2 ^ 32 → n ≡ way 0 n
  way-zero n k = grind arith

-- an element that isn't the document stands behind it
pub element-shown : (es : List ElementOf) (id : ℕ) → 0 < id → get_or (document ∷ es) id no_element ≡ get_or es (id - 1) no_element
element-shown es zero h = absurd (omega (arith, h))
element-shown es (suc id) h = let back : id ≡ suc id - 1 = omega arith in ap (λ n. get_or es n no_element) back

-- a number that counts from nothing
pub counted-none : (n : ℕ) → n < 2 ^ 32 → counted 0 n ≡ n
counted-none n h = grind arith
