-- Popping no own element.
use Rattle.std.proofs.Common.{◌≡◌, ℕ, ◌-◌, min, List, length, drop, refl, ap, sym, ◌∙◌, arith}
use Rattle.std.specs.Prelude.{Option, Some, None}
use Rattle.hp_control.specs.declared.element.OpenElement.{OpenElement}
use Rattle.hp_control.specs.Faithful.{Page, Split}
use Rattle.hp_views.specs.StackPlans.{own_popped, own_popped_on}

none_popped : (page : Option Page) (es : List OpenElement) → es ≡ own_popped_on page 0 es
none_popped None es = refl
none_popped (Some p) es = let z : 0 ≡ min 0 (length es - 1) = omega arith in ap (λ (n : ℕ). drop n es) z

-- it leaves all as it is
pub popped_none : (k : ℕ) (v : Split) → k ≡ 0 → v ≡ own_popped k v
popped_none k v e =
    let f : v ≡ own_popped 0 v = ap (λ es. record v { change = record v.change { stack = es } }) (none_popped v.page v.change.stack) in
    f ∙ ap (λ (n : ℕ). own_popped n v) (sym e)
