-- Which ids are open in a stack of which the highest id is known.
use Rattle.std.proofs.Common.{◌≡◌, ◌≢◌, ℕ, zero, suc, ◌<◌, ◌==◌, List, [], ◌∷◌, true, false, if◌then◌else◌, length, drop, drop-cons, get_or, refl, sym, ap, ◌∙◌, arith, ◌+◌}
use Rattle.std.specs.Prelude.{Option, None, Some, is_some}
use Rattle.std.specs.Option.{option_map}
use Rattle.std.proofs.Math.Nat.{le-max_left, le-max_right}
use Rattle.std.proofs.lemmas.Bool.{ne_eqb}
use Rattle.hp_control.specs.declared.element.OpenElement.{OpenElement}
use Rattle.hp_control.specs.Standings.{highest_id}
use Rattle.hp_control.specs.Walks.{open_at}

some_still : (o : Option ℕ) → is_some (option_map suc o) ≡ is_some o
some_still None = refl
some_still (Some n) = refl

-- one that is not the first is open where it is open below
pub open_below : (id : ℕ) (e : OpenElement) (es : List OpenElement) → (e.id == id) ≡ false → is_some (open_at id (e ∷ es)) ≡ is_some (open_at id es)
open_below id e es h = ap (λ b. is_some (if b then Some 0 else option_map suc (open_at id es))) h ∙ some_still (open_at id es)

-- and the first is
pub open_first : (id : ℕ) (e : OpenElement) (es : List OpenElement) → (e.id == id) ≡ true → is_some (open_at id (e ∷ es)) ≡ true
open_first id e es h = ap (λ b. is_some (if b then Some 0 else option_map suc (open_at id es))) h

-- none is open above the highest
pub none_above : (id : ℕ) (es : List OpenElement) → highest_id es < id → is_some (open_at id es) ≡ false
none_above id [] h = refl
none_above id (e ∷ es) h =
    let a = le-max_left e.id (highest_id es) in
    let b = le-max_right e.id (highest_id es) in
    open_below id e es (ne_eqb e.id id (λ same. absurd (omega (arith, a, h, same)))) ∙ none_above id es (omega (arith, b, h))

-- one that is open below a depth is open
pub open_somewhere : (id d : ℕ) (es : List OpenElement) (e : OpenElement) → d < length es → e ≡ get_or es d e → (e.id == id) ≡ true → is_some (open_at id es) ≡ true
open_somewhere id d [] e h at is = absurd (omega arith)
open_somewhere id zero (x ∷ xs) e h at is = open_first id x xs (ap (λ (y : OpenElement). y.id == id) (sym at) ∙ is)
open_somewhere id (suc d) (x ∷ xs) e h at is =
    elim (x.id == id) as (λ b. is_some (if b then Some 0 else option_map suc (open_at id xs)) ≡ true) [
      | true ↦ refl
      | false ↦ some_still (open_at id xs) ∙ open_somewhere id d xs e (omega arith) at is
    ]

-- where another stands at a depth, one is open from there down where it is open below
pub open_further : (id d : ℕ) (es : List OpenElement) (e : OpenElement) → d < length es → e ≡ get_or es d e → e.id ≢ id → is_some (open_at id (drop (d + 1) es)) ≡ is_some (open_at id (drop d es))
open_further id d es e h at other =
    let next : suc d ≡ d + 1 = omega arith in
    let down : drop d es ≡ e ∷ drop (d + 1) es = drop-cons es d e h ∙ (ap (λ y. y ∷ drop (suc d) es) (sym at) ∙ ap (λ (n : ℕ). e ∷ drop n es) next) in
    sym (ap (λ l. is_some (open_at id l)) down ∙ open_below id e (drop (d + 1) es) (ne_eqb e.id id other))
