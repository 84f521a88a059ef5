-- The walk that resets the insertion mode, one own element further.
use Rattle.std.specs.Prelude.{ℕ, zero, suc, ◌+◌, ◌<◌, ◌≡◌, List, [], ◌∷◌, length, drop, Result}
use Rattle.std.proofs.Common.{arith, ap, sym, subst, ◌∙◌}
use Rattle.hp_elements.specs.declared.token.Mode.{Mode}
use Rattle.hp_control.specs.declared.change.Refusal.{Refusal}
use Rattle.hp_control.specs.declared.element.OpenElement.{OpenElement}
use Rattle.hp_control.specs.Faithful.{Split}
use Rattle.hp_control.specs.Plan.{Plan, Heard, gives}
use Rattle.hp_views.specs.declared.reset.Decides.TheVariants.{Nothing, Select, To}
use Rattle.hp_views.specs.ResetPlans.{decides_at, reset_by, reset_on, select_plan, to_mode}
use Rattle.hp_views.proofs.Carrying.{carries_as}
use Rattle.hp_views.specs.View.{Sight, Carries, sight, split_of}
use Rattle.hp_views.specs.declared.view.View.{View}

pub reset_passes : (v : Split) (k : ℕ) (xs : List OpenElement) → k < length xs → decides_at v (drop k xs) ≡ Nothing → reset_on v (drop (k + 1) xs) ≡ reset_on v (drop k xs)
reset_passes v k [] h e = absurd (omega (arith, h))
reset_passes v zero (x ∷ xs) h e = sym (ap (λ d. reset_by v xs d (reset_on v xs)) e)
reset_passes v (suc k) (x ∷ xs) h e =
    let n : suc k + 1 ≡ suc (k + 1) = omega arith in
    ap (λ j. reset_on v (drop j (x ∷ xs))) n ∙ reset_passes v k xs (omega (arith, h)) e

pub reset_selects : (v : Split) (k : ℕ) (xs : List OpenElement) → k < length xs → decides_at v (drop k xs) ≡ Select → select_plan v (drop (k + 1) xs) ≡ reset_on v (drop k xs)
reset_selects v k [] h e = absurd (omega (arith, h))
reset_selects v zero (x ∷ xs) h e = sym (ap (λ d. reset_by v xs d (reset_on v xs)) e)
reset_selects v (suc k) (x ∷ xs) h e =
    let n : suc k + 1 ≡ suc (k + 1) = omega arith in
    ap (λ j. select_plan v (drop j (x ∷ xs))) n ∙ reset_selects v k xs (omega (arith, h)) e

pub reset_goes : (v : Split) (k : ℕ) (xs : List OpenElement) (m : Mode) → k < length xs → decides_at v (drop k xs) ≡ To m → gives (to_mode v m) ≡ reset_on v (drop k xs)
reset_goes v k [] m h e = absurd (omega (arith, h))
reset_goes v zero (x ∷ xs) m h e = sym (ap (λ d. reset_by v xs d (reset_on v xs)) e)
reset_goes v (suc k) (x ∷ xs) m h e = reset_goes v k xs m (omega (arith, h)) e

-- the same view
pub carries_on : {B : Type 0} (heard : B → Heard) (a b : View B) (result : Result (Unit {0}) Refusal) (new : Sight) (p q : Split → Plan Split) → a ≡ b → p (split_of a) ≡ q (split_of a) → Carries result (sight heard a) new p → Carries result (sight heard b) new q
carries_on {B} heard a b result new p q e same k =
    let P : View B → Type 0 = λ v. Carries result (sight heard v) new q in
    subst P e (carries_as result (sight heard a) new p q same k)
