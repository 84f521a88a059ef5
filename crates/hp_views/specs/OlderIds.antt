-- Older elements by their ids: an own one never has such an id, and none stands twice.
use Rattle.std.specs.Prelude.{◌≡◌, ℕ, zero, suc, ◌+◌, ◌-◌, ◌<◌, ◌≤◌, ◌==◌, Bool, true, false, if◌then◌else◌, List, [], ◌∷◌, ◌++◌, Option, Some, None, map, drop, length, refl}
use Rattle.std.specs.Option.{option_map, is_some}
use Rattle.std.proofs.Common.{ap, ◌∙◌, arith}
use Rattle.std.proofs.lemmas.Bool.{eqb-true, ne_eqb}
use Rattle.hp_elements.specs.declared.kinds.Kinds.TheVariants as kinds
use Rattle.hp_control.specs.declared.element.OpenElement.{OpenElement}
use Rattle.hp_control.specs.KindTests.{within}
use Rattle.hp_control.specs.States.{AreIds, IsNew}
use Rattle.hp_control.specs.Walks.{open_at, scope_at, scope_ends}
use Rattle.hp_control.specs.Apply.{shifted}
use Rattle.hp_views.specs.declared.walks.Walk.{Walk}
use Rattle.hp_views.specs.declared.walks.Walk.TheVariants.{Found, Stopped, PastAll}
use Rattle.hp_views.specs.OwnIds.{found_still, ids, own_number}
use Rattle.hp_views.specs.OwnWalks.{some_map}
use Rattle.hp_views.specs.Walks.{deeper, is_found, walk_of, id_scope_walk}

none_either : (b : Bool) (o : Option ℕ) → o ≡ None → (if b then None else option_map suc o) ≡ None
none_either true o h = refl
none_either false o h = ap (option_map suc) h

-- no older element has an own id
pub scope_older : (low next x : ℕ) (es : List OpenElement) → AreIds low next (ids es) → next ≤ x → scope_at x es ≡ None
scope_older low next x [] h l = refl
scope_older low next x (e ∷ es) h l =
    ap (λ b. if b then Some 0 else (if within scope_ends e then None else option_map suc (scope_at x es))) (ne_eqb e.id x (λ q. omega (arith, h.1, l, q)))
    ∙ none_either (within scope_ends e) (scope_at x es) (scope_older low next x es h.3 l)

-- whether an own element is in scope
pub scope_own : (n id : ℕ) (xs ys : List OpenElement) → scope_at (n + id) ys ≡ None → is_some (scope_at (n + id) (map (shifted n) xs ++ ys)) ≡ is_found (id_scope_walk id xs)
scope_own n id [] ys h = ap is_some h
scope_own n id (x ∷ xs) ys h =
    ap (λ b. is_some (if b then Some 0 else (if within scope_ends x then None else option_map suc (scope_at (n + id) (map (shifted n) xs ++ ys))))) (own_number n x.id id)
    ∙ elim (x.id == id) as (λ b. is_some (if b then Some 0 else (if within scope_ends x then None else option_map suc (scope_at (n + id) (map (shifted n) xs ++ ys)))) ≡ is_found (if b then Found 0 else (if within scope_ends x then Stopped else deeper 1 (id_scope_walk id xs)))) [
      | true ↦ refl
      | false ↦ elim (within scope_ends x) as (λ b. is_some (if b then None else option_map suc (scope_at (n + id) (map (shifted n) xs ++ ys))) ≡ is_found (if b then Stopped else deeper 1 (id_scope_walk id xs))) [
        | true ↦ refl
        | false ↦ some_map suc (scope_at (n + id) (map (shifted n) xs ++ ys)) ∙ (scope_own n id xs ys h ∙ found_still (id_scope_walk id xs))
      ]
    ]

-- an older element is in scope where no own end of a scope stands above it
abbrev pub scope_by : Walk → Bool → Bool
scope_by PastAll below = below
scope_by Stopped below = false
scope_by (Found k) below = false

scope_deeper : (w : Walk) (b : Bool) → scope_by w b ≡ scope_by (deeper 1 w) b
scope_deeper (Found k) b = refl
scope_deeper Stopped b = refl
scope_deeper PastAll b = refl

pub scope_below : (n i : ℕ) (xs ys : List OpenElement) → i < n → is_some (scope_at i (map (shifted n) xs ++ ys)) ≡ scope_by (walk_of kinds.Nothing scope_ends xs) (is_some (scope_at i ys))
scope_below n i [] ys l = refl
scope_below n i (x ∷ xs) ys l =
    ap (λ b. is_some (if b then Some 0 else (if within scope_ends x then None else option_map suc (scope_at i (map (shifted n) xs ++ ys))))) (ne_eqb (n + x.id) i (λ q. omega (arith, l, q)))
    ∙ elim (within scope_ends x) as (λ b. is_some (if b then None else option_map suc (scope_at i (map (shifted n) xs ++ ys))) ≡ scope_by (if b then Stopped else deeper 1 (walk_of kinds.Nothing scope_ends xs)) (is_some (scope_at i ys))) [
      | true ↦ refl
      | false ↦ some_map suc (scope_at i (map (shifted n) xs ++ ys)) ∙ (scope_below n i xs ys l ∙ scope_deeper (walk_of kinds.Nothing scope_ends xs) (is_some (scope_at i ys)))
    ]

-- an element in scope stands where it is open
suc_of : (o p : Option ℕ) (k : ℕ) → ((j : ℕ) → o ≡ Some j → p ≡ Some j) → option_map suc o ≡ Some k → option_map suc p ≡ Some k
suc_of None p k h e = absurd (cc)
suc_of (Some j) p k h e = ap (option_map suc) (h j refl) ∙ e

scope_step : (a b : Bool) (o p : Option ℕ) (k : ℕ) → ((j : ℕ) → o ≡ Some j → p ≡ Some j) → (if a then Some 0 else (if b then None else option_map suc o)) ≡ Some k → (if a then Some 0 else option_map suc p) ≡ Some k
scope_step true b o p k h e = e
scope_step false true o p k h e = absurd (cc)
scope_step false false o p k h e = suc_of o p k h e

pub scope_open : (i : ℕ) (es : List OpenElement) (k : ℕ) → scope_at i es ≡ Some k → open_at i es ≡ Some k
scope_open i [] k e = absurd (cc)
scope_open i (x ∷ xs) k e = scope_step (x.id == i) (within scope_ends x) (scope_at i xs) (open_at i xs) k (λ j. scope_open i xs j) e

open_short : (a : Bool) (o : Option ℕ) (n k : ℕ) → ((j : ℕ) → o ≡ Some j → j < n) → (if a then Some 0 else option_map suc o) ≡ Some k → k < suc n
open_short true o n k h e = let z : 0 ≡ k = cc in omega arith
open_short false None n k h e = absurd (cc)
open_short false (Some j) n k h e = let z : suc j ≡ k = cc in let l : j < n = h j refl in omega arith

pub open_within : (i : ℕ) (es : List OpenElement) (k : ℕ) → open_at i es ≡ Some k → k < length es
open_within i [] k e = absurd (cc)
open_within i (x ∷ xs) k e = open_short (x.id == i) (open_at i xs) (length xs) k (λ j. open_within i xs j) e

-- an open element has another id than one that is new
other_step : (x y i : ℕ) (a : Bool) (o : Option ℕ) (k : ℕ) → (y == i) ≡ a → (x ≡ y → ⊥) → ((j : ℕ) → o ≡ Some j → x ≡ i → ⊥) → (if a then Some 0 else option_map suc o) ≡ Some k → x ≡ i → ⊥
other_step x y i true o k m n h e q = n (let l : y ≡ i = eqb-true y i m in omega arith)
other_step x y i false None k m n h e q = absurd (cc)
other_step x y i false (Some j) k m n h e q = h j refl q

pub open_other : (x i : ℕ) (es : List OpenElement) (k : ℕ) → IsNew x (ids es) → open_at i es ≡ Some k → x ≡ i → ⊥
open_other x i [] k n e q = absurd (cc)
open_other x i (y ∷ ys) k n e q = other_step x y.id i (y.id == i) (open_at i ys) k refl n.0 (λ j. open_other x i ys j n.1) e q

pub new_drop : (x n : ℕ) (es : List OpenElement) → IsNew x (ids es) → IsNew x (ids (drop n es))
new_drop x zero es h = h
new_drop x (suc n) [] h = h
new_drop x (suc n) (e ∷ es) h = new_drop x n es h.1

-- what stands in a part stands in the whole, so much deeper
pub open_drop : (low next i n : ℕ) (es : List OpenElement) (k : ℕ) → AreIds low next (ids es) → open_at i (drop n es) ≡ Some k → open_at i es ≡ Some (n + k)
open_drop low next i zero es k h e = e ∙ ap Some (omega arith)
open_drop low next i (suc n) [] k h e = absurd (cc)
open_drop low next i (suc n) (x ∷ xs) k h e =
    ap (λ b. if b then Some 0 else option_map suc (open_at i xs)) (ne_eqb x.id i (open_other x.id i (drop n xs) k (new_drop x.id n xs h.2) e))
    ∙ (ap (option_map suc) (open_drop low next i n xs k h.3 e) ∙ ap Some (omega arith))

-- what is dropped doesn't stand in the rest, and what is left stands so much higher
gone_step : (x i : ℕ) (a : Bool) (o : Option ℕ) (d : ℕ) → (if a then Some 0 else option_map suc o) ≡ Some (suc d) → o ≡ Some d
gone_step x i true o d e = absurd (let z : 0 ≡ suc d = cc in omega (arith, z))
gone_step x i false None d e = absurd (cc)
gone_step x i false (Some j) d e = ap Some (let z : suc j ≡ suc d = cc in omega arith)

first_gone : (x i : ℕ) (a : Bool) (o : Option ℕ) → (x == i) ≡ a → (if a then Some 0 else option_map suc o) ≡ Some 0 → x ≡ i
first_gone x i true o m e = eqb-true x i m
first_gone x i false None m e = absurd (cc)
first_gone x i false (Some j) m e = absurd (let z : suc j ≡ 0 = cc in omega (arith, z))

absent : (x i : ℕ) (es : List OpenElement) (o : Option ℕ) → open_at i es ≡ o → IsNew x (ids es) → x ≡ i → o ≡ None
absent x i es None e n q = refl
absent x i es (Some k) e n q = absurd (open_other x i es k n e q)

pub open_gone : (low next i n : ℕ) (es : List OpenElement) (d : ℕ) → AreIds low next (ids es) → open_at i es ≡ Some d → d < n → open_at i (drop n es) ≡ None
open_gone low next i zero es d h e l = absurd (omega (arith, l))
open_gone low next i (suc n) [] d h e l = refl
open_gone low next i (suc n) (x ∷ xs) zero h e l = absent x.id i (drop n xs) (open_at i (drop n xs)) refl (new_drop x.id n xs h.2) (first_gone x.id i (x.id == i) (open_at i xs) refl e)
open_gone low next i (suc n) (x ∷ xs) (suc d) h e l = open_gone low next i n xs d h.3 (gone_step x.id i (x.id == i) (open_at i xs) d e) (omega (arith, l))

pub open_left : (i n : ℕ) (es : List OpenElement) (d : ℕ) → open_at i es ≡ Some d → n ≤ d → open_at i (drop n es) ≡ Some (d - n)
open_left i zero es d e l = e ∙ ap Some (omega arith)
open_left i (suc n) [] d e l = absurd (cc)
open_left i (suc n) (x ∷ xs) zero e l = absurd (omega (arith, l))
open_left i (suc n) (x ∷ xs) (suc d) e l = open_left i n xs d (gone_step x.id i (x.id == i) (open_at i xs) d e) (omega (arith, l)) ∙ ap Some (omega arith)

suc_plus : (n : ℕ) (o : Option ℕ) → option_map suc (option_map (λ k. n + k) o) ≡ option_map (λ k. suc n + k) o
suc_plus n None = refl
suc_plus n (Some k) = ap Some (omega arith)

zero_plus : (o : Option ℕ) → o ≡ option_map (λ k. 0 + k) o
zero_plus None = refl
zero_plus (Some k) = ap Some (omega arith)

-- an older element below own ones
pub open_below : (n i : ℕ) (xs ys : List OpenElement) → i < n → open_at i (map (shifted n) xs ++ ys) ≡ option_map (λ k. length xs + k) (open_at i ys)
open_below n i [] ys l = zero_plus (open_at i ys)
open_below n i (x ∷ xs) ys l =
    ap (λ b. if b then Some 0 else option_map suc (open_at i (map (shifted n) xs ++ ys))) (ne_eqb (n + x.id) i (λ q. omega (arith, l, q)))
    ∙ (ap (option_map suc) (open_below n i xs ys l) ∙ suc_plus (length xs) (open_at i ys))
