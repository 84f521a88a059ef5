-- The first and the second element of a stack by their places.
use Rattle.std.specs.Prelude.{suc, ◌-◌, ◌<◌, ◌≤◌, ◌≡◌, List, [], ◌∷◌, length, slice_index_or, refl}
use Rattle.std.proofs.Common.{arith, ap, ◌∙◌}
use Rattle.hp_control.specs.declared.element.OpenElement.{OpenElement}
use Rattle.hp_elements.specs.KnownNames.{Body}
use Rattle.hp_control.specs.Acts.{first_id, second_id}
use Rattle.hp_control.specs.States.{is_named}
use Rattle.hp_views.specs.SecondPlans.{last_is_body}

pub first_at : (es : List OpenElement) (d : OpenElement) → 1 ≤ length es → (slice_index_or es (length es - 1) d).id ≡ first_id es
first_at [] d h = absurd (omega (arith, h))
first_at (e ∷ []) d h = refl
first_at (e ∷ f ∷ es) d h =
    let n : suc (suc (length es)) - 1 ≡ suc (suc (length es) - 1) = omega arith in
    ap (λ k. (slice_index_or (e ∷ f ∷ es) k d).id) n ∙ first_at (f ∷ es) d (omega arith)

pub second_at : (es : List OpenElement) (d : OpenElement) → 2 ≤ length es → (slice_index_or es (length es - 2) d).id ≡ second_id es
second_at [] d h = absurd (omega (arith, h))
second_at (e ∷ []) d h = absurd (omega (arith, h))
second_at (e ∷ f ∷ []) d h = refl
second_at (e ∷ f ∷ g ∷ es) d h =
    let n : suc (suc (suc (length es))) - 2 ≡ suc (suc (suc (length es)) - 2) = omega arith in
    ap (λ k. (slice_index_or (e ∷ f ∷ g ∷ es) k d).id) n ∙ second_at (f ∷ g ∷ es) d (omega arith)

pub first_none : (es : List OpenElement) → length es ≡ 0 → 0 ≡ first_id es
first_none [] h = refl
first_none (e ∷ es) h = absurd (omega (arith, h))

pub second_none : (es : List OpenElement) → length es < 2 → 0 ≡ second_id es
second_none [] h = refl
second_none (e ∷ []) h = refl
second_none (e ∷ f ∷ es) h = absurd (omega (arith, h))

pub last_body_at : (es : List OpenElement) (d : OpenElement) → 1 ≤ length es → is_named Body (slice_index_or es (length es - 1) d) ≡ last_is_body es
last_body_at [] d h = absurd (omega (arith, h))
last_body_at (e ∷ []) d h = refl
last_body_at (e ∷ f ∷ es) d h =
    let n : suc (suc (length es)) - 1 ≡ suc (suc (length es) - 1) = omega arith in
    ap (λ k. is_named Body (slice_index_or (e ∷ f ∷ es) k d)) n ∙ last_body_at (f ∷ es) d (omega arith)
