-- No walk down a stack finds an id above the highest.
use Rattle.std.proofs.Common.{◌≡◌, ℕ, ◌<◌, ◌==◌, List, [], ◌∷◌, if◌then◌else◌, refl, ap, ◌∙◌, arith}
use Rattle.std.proofs.Math.Nat.{le-max_left, le-max_right}
use Rattle.std.proofs.lemmas.Bool.{ne_eqb}
use Rattle.hp_control.specs.declared.element.OpenElement.{OpenElement}
use Rattle.hp_control.specs.Standings.{highest_id}
use Rattle.hp_views.specs.declared.walks.Walk.TheVariants.{Found, PastAll}
use Rattle.hp_views.specs.Walks.{deeper, id_walk}

pub none_above : (id : ℕ) (es : List OpenElement) → highest_id es < id → id_walk id es ≡ PastAll
none_above id [] h = refl
none_above id (e ∷ es) h =
    let a = le-max_left e.id (highest_id es) in
    let b = le-max_right e.id (highest_id es) in
    ap (λ found. if found then Found 0 else deeper 1 (id_walk id es)) (ne_eqb e.id id (λ same. absurd (omega (arith, a, h, same))))
    ∙ ap (deeper 1) (none_above id es (omega (arith, b, h)))
