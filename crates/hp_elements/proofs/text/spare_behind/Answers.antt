use Rattle.std.proofs.Common.{◌≡◌, ℕ, List, ◌+◌, ◌-◌, length, take, drop, true, false, refl, sym, ap, ◌∙◌, arith}
use Rattle.std.specs.Str.{bytes_eq}
use Rattle.std.proofs.lemmas.Slice.Eq.{bytes_eq-Decides}
use Rattle.hp_elements.proofs.TextLemmas.{behind_found}
use Rattle.hp_elements.proofs.text.spare_behind.Goals as goal

pub returns-then-eq-clause-text : goal.returns-then-eq-clause-text
returns-then-eq-clause-text c =
    behind_found c.args.bytes.now c.args.next.now c.as_bytes-next.result.now c.args.spare _ c.as_bytes-next.ensures.value c.requires c.if-next-spare.false refl (sym c.eq.ensures ∙ c.if-eq.true)

apart : true ≡ false → ⊥
apart e = cc

behind_other : (bs next bytes : List ℕ) (spare at : ℕ) → bytes ≡ next → at ≡ length bs - spare → bytes_eq (take (at + length bytes - at) (drop at bs)) bytes ≡ false → take (length next) (drop (length bs - spare) bs) ≡ next → ⊥
behind_other bs next bytes spare at v a h e =
    let count : at + length bytes - at ≡ length bytes = omega arith in
    let same : take (at + length bytes - at) (drop at bs) ≡ bytes =
    ap (λ (n : ℕ). take n (drop at bs)) count ∙ (ap (λ (n : ℕ). take (length bytes) (drop n bs)) a ∙ (ap (λ (xs : List ℕ). take (length xs) (drop (length bs - spare) bs)) v ∙ (e ∙ sym v))) in
    apart (sym ((bytes_eq-Decides _ bytes).1 same) ∙ h)

pub returns-else-eq-clause-other : goal.returns-else-eq-clause-other
returns-else-eq-clause-other c =
    behind_other c.args.bytes.now c.args.next.now c.as_bytes-next.result.now c.args.spare _ c.as_bytes-next.ensures.value refl (sym c.eq.ensures ∙ c.if-eq.false)
