use Rattle.std.proofs.Common.{◌≡◌, ℕ, List, ap, sym, ◌∙◌, ◌==◌, not, bit_and, slice_index, arith}
use Rattle.hp_elements.specs.Names.{index_of}
use Rattle.hp_elements.specs.SetMasks.{masks_of}
use Rattle.hp_elements.proofs.EveryName.{index_below}
use Rattle.hp_elements.proofs.SetLemmas.{sets_agree}
use Rattle.hp_elements.proofs.sets.is_in.Goals as goal
use Rattle.hp_elements.proofs.sets.is_in.Goals.{in-Html, in-MathMl, in-Svg}

pub returns : goal.returns
unfolding masks_of
returns c =
    let sets : c.match-namespace.sets.now ≡ masks_of c.args.namespace =
    elim c.match-namespace.branch [
      | in-Html w ↦ ap (λ s. s.now) w.sets-is ∙ ap masks_of (sym w.in-Html.is)
      | in-MathMl w ↦ ap (λ s. s.now) w.sets-is ∙ ap masks_of (sym w.in-MathMl.is)
      | in-Svg w ↦ ap (λ s. s.now) w.sets-is ∙ ap masks_of (sym w.in-Svg.is)
    ] in
    ap (λ (rows : List ℕ). not (bit_and (slice_index rows c.index.result) c.mask.result == 0)) sets
    ∙ (ap (λ (i : ℕ). not (bit_and (slice_index (masks_of c.args.namespace) i) c.mask.result == 0)) c.index.ensures
    ∙ (ap (λ (bit : ℕ). not (bit_and (slice_index (masks_of c.args.namespace) (index_of c.args.name)) bit == 0)) c.mask.ensures ∙ sets_agree c.args.set c.args.namespace c.args.name))

pub bounds-sets-index : goal.bounds-sets-index
bounds-sets-index c = rw c.index.ensures (index_below c.args.name)

pub offset_bounds-sets-index : goal.offset_bounds-sets-index
offset_bounds-sets-index c = omega (arith, c.index.ensures, index_below c.args.name)
