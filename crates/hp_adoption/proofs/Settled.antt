-- An element is open where the walk down the stack finds it.
use Rattle.std.proofs.Common.{◌≡◌, ℕ, suc, ◌==◌, List, [], ◌∷◌, true, false, if◌then◌else◌, refl, sym, ◌∙◌}
use Rattle.std.specs.Prelude.{Option, None, Some, is_some}
use Rattle.std.specs.Option.{option_map}
use Rattle.hp_control.specs.declared.element.OpenElement.{OpenElement}
use Rattle.hp_control.specs.Walks.{open_at}
use Rattle.hp_views.specs.declared.walks.Walk.{Walk}
use Rattle.hp_views.specs.declared.walks.Walk.TheVariants.{Found, Stopped, PastAll}
use Rattle.hp_views.specs.Walks.{deeper, id_walk, is_found}

some_still : (o : Option ℕ) → is_some (option_map suc o) ≡ is_some o
some_still None = refl
some_still (Some n) = refl

found_still : (w : Walk) → is_found (deeper 1 w) ≡ is_found w
found_still (Found k) = refl
found_still Stopped = refl
found_still PastAll = refl

pub open_found : (id : ℕ) (es : List OpenElement) → is_some (open_at id es) ≡ is_found (id_walk id es)
open_found id [] = refl
open_found id (e ∷ es) =
    elim (e.id == id) as (λ b. is_some (if b then Some 0 else option_map suc (open_at id es)) ≡ is_found (if b then Found 0 else deeper 1 (id_walk id es))) [
      | true ↦ refl
      | false ↦ some_still (open_at id es) ∙ (open_found id es ∙ sym (found_still (id_walk id es)))
    ]
