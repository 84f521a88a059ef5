use Rattle.std.proofs.Common.{◌≡◌, ◌<◌, ◌∙◌, ℕ, zero, suc, true, List, [], ◌∷◌, ap, drop, length, slice_index_or, sym, arith}
use Rattle.hp_elements.specs.declared.tag.Tag.{Tag}
use Rattle.hp_control.specs.declared.element.FormattingEntry.{FormattingEntry}
use Rattle.hp_control.specs.declared.element.FormattingEntry.TheVariants.{Marker}
use Rattle.hp_adoption.specs.ArkPlans.{tally}
use Rattle.hp_adoption.proofs.ark.equal_entries.Goals as goal

ends_at : (tag : Tag) (es : List FormattingEntry) (k count earliest : ℕ) (e : FormattingEntry) → k < length es → e ≡ slice_index_or es k e → e ≡ Marker
    → tally tag (drop k es) count earliest ≡ record { count = count; earliest = earliest; ended = true }
ends_at tag [] k count earliest e h is m = absurd (omega (arith, h))
ends_at tag (x ∷ es) zero count earliest e h is m = ap (λ y. tally tag (y ∷ es) count earliest) (sym is ∙ m)
ends_at tag (x ∷ es) (suc k) count earliest e h is m = ends_at tag es k count earliest e (omega (arith, h)) is m

pub returns-in-Marker : goal.returns-in-Marker
returns-in-Marker c =
    let inside : c.loop-depth.depth < length c.args.list.now = omega arith in
    sym (ends_at c.args.tag.now c.args.list.now c.loop-depth.depth c.loop-depth.count c.loop-depth.earliest c.at.result.now inside c.at.ensures c.in-Marker.is)
    ∙ c.loop-depth.invariant.0
