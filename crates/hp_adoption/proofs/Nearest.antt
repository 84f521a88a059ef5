-- What stands above a depth of a stack, and the last of those of a kind.
use Rattle.std.proofs.Common.{◌≡◌, ℕ, zero, suc, ◌+◌, ◌<◌, ◌≤◌, Bool, true, false, if◌then◌else◌, ◌||◌, List, [], ◌∷◌, Option, Some, None, length, take, drop, slice_get, get_or, ap, sym, refl, ◌∙◌, arith}
use Rattle.std.specs.List.{list_any}
use Rattle.std.specs.Option.{option_map}
use Rattle.hp_elements.specs.declared.kinds.Kinds.TheVariants as kinds
use Rattle.hp_elements.specs.declared.sets.SetName.TheVariants as sets
use Rattle.hp_control.specs.declared.element.OpenElement.{OpenElement}
use Rattle.hp_control.specs.Adoption.{Seat, nearer, furthest}
use Rattle.hp_control.specs.KindTests.{within}
use Rattle.hp_adoption.specs.AdoptPlans.{seat_at}
use Rattle.hp_adoption.specs.Turning.{seat_depth, last_by, last_within}

-- the item at a depth above another
pub split_at : {X : Type 0} (xs : List X) (d k : ℕ) (x : X) → k < d → d ≤ length xs → x ≡ get_or xs k x → drop k (take d xs) ≡ x ∷ drop (suc k) (take d xs)
split_at [] d k x h l e = absurd (omega arith)
split_at (y ∷ ys) zero k x h l e = absurd (omega arith)
split_at (y ∷ ys) (suc d) zero x h l e = ap (λ v. v ∷ take d ys) (sym e)
split_at (y ∷ ys) (suc d) (suc k) x h l e = split_at ys d k x (omega arith) (omega arith) e

-- whether there is one among those that are left, from an item further
pub any_passes : (p : OpenElement → Bool) (xs : List OpenElement) (d k : ℕ) (x : OpenElement) → k < d → d ≤ length xs → x ≡ get_or xs k x → list_any p (drop k (take d xs)) ≡ list_any p (take d xs) → p x ≡ false → list_any p (drop (k + 1) (take d xs)) ≡ list_any p (take d xs)
any_passes p xs d k x h l e n f =
    let rest = drop (suc k) (take d xs) in
    let next : k + 1 ≡ suc k = omega arith in
    let here : list_any p (drop k (take d xs)) ≡ list_any p rest = ap (list_any p) (split_at xs d k x h l e) ∙ ap (λ b. b || list_any p rest) f in
    ap (λ i. list_any p (drop i (take d xs))) next ∙ (sym here ∙ n)

pub any_here : (p : OpenElement → Bool) (xs : List OpenElement) (d k : ℕ) (x : OpenElement) → k < d → d ≤ length xs → x ≡ get_or xs k x → list_any p (drop k (take d xs)) ≡ list_any p (take d xs) → p x ≡ true → true ≡ list_any p (take d xs)
any_here p xs d k x h l e n t =
    let rest = drop (suc k) (take d xs) in
    let here : list_any p (drop k (take d xs)) ≡ true = ap (list_any p) (split_at xs d k x h l e) ∙ ap (λ b. b || list_any p rest) t in
    sym here ∙ n

-- none is left, from an item nearer
pub none_nearer : (p : OpenElement → Bool) (xs : List OpenElement) (d i j k : ℕ) (x : OpenElement) → j ≡ suc k → i ≡ k → k < d → d ≤ length xs → x ≡ get_or xs k x → last_within p (drop j (take d xs)) ≡ None → p x ≡ false → last_within p (drop i (take d xs)) ≡ None
none_nearer p xs d i j k x s t h l e n f =
    let rest = drop (suc k) (take d xs) in
    let none : last_within p rest ≡ None = ap (λ m. last_within p (drop m (take d xs))) (sym s) ∙ n in
    ap (λ m. last_within p (drop m (take d xs))) t
    ∙ (ap (last_within p) (split_at xs d k x h l e) ∙ (ap (λ b. last_by b (last_within p rest)) f ∙ ap (last_by false) none))

-- the last one of those that are left
pub last_here : (p : OpenElement → Bool) (xs rest : List OpenElement) (k : ℕ) (x : OpenElement) → drop k xs ≡ x ∷ rest → last_within p rest ≡ None → p x ≡ true → last_within p xs ≡ Some k
last_here p [] rest zero x e n h = absurd (cc)
last_here p [] rest (suc k) x e n h = absurd (cc)
last_here p (y ∷ ys) rest zero x e n h = ap (last_within p) e ∙ (ap (last_by (p x)) n ∙ ap (λ b. last_by b None) h)
last_here p (y ∷ ys) rest (suc k) x e n h = ap (last_by (p y)) (last_here p ys rest k x e n h)

pub last_found : (p : OpenElement → Bool) (xs : List OpenElement) (d j k : ℕ) (x : OpenElement) → j ≡ suc k → k < d → d ≤ length xs → x ≡ get_or xs k x → last_within p (drop j (take d xs)) ≡ None → p x ≡ true → last_within p (take d xs) ≡ Some k
last_found p xs d j k x s h l e n t =
    last_here p (take d xs) (drop (suc k) (take d xs)) k x (split_at xs d k x h l e) (ap (λ i. last_within p (drop i (take d xs))) (sym s) ∙ n) t

abbrev is_special : OpenElement → Bool
is_special e = within (kinds.Set sets.Special) e

seat_nearer : (e : OpenElement) (o : Option Seat) → seat_depth (nearer e o) ≡ last_by (is_special e) (seat_depth o)
seat_nearer e None = elim (is_special e) as (λ b. seat_depth (if b then Some (record { depth = 0; element = e }) else None) ≡ (if b then Some 0 else None)) [ true ↦ refl | false ↦ refl ]
seat_nearer e (Some seat) = refl

pub seat_last : (es : List OpenElement) → seat_depth (furthest es) ≡ last_within is_special es
seat_last [] = refl
seat_last (e ∷ es) = seat_nearer e (furthest es) ∙ ap (last_by (is_special e)) (seat_last es)

-- the furthest one is the item at its depth
abbrev IsSeat : List OpenElement → Option Seat → Type 0
IsSeat xs None = Unit {0}
IsSeat xs (Some seat) = slice_get xs seat.depth ≡ Some seat.element

seat_of : (e : OpenElement) (xs : List OpenElement) (o : Option Seat) → IsSeat xs o → IsSeat (e ∷ xs) (nearer e o)
seat_of e xs (Some seat) h = h
seat_of e xs None h = elim (is_special e) as (λ b. IsSeat (e ∷ xs) (if b then Some (record { depth = 0; element = e }) else None)) [ true ↦ refl | false ↦ tt ]

seated : (es : List OpenElement) (d : ℕ) → IsSeat es (furthest (take d es))
seated [] zero = tt
seated [] (suc d) = tt
seated (e ∷ es) zero = tt
seated (e ∷ es) (suc d) = seat_of e es (furthest (take d es)) (seated es d)

seat_same : (es : List OpenElement) (k : ℕ) (o : Option Seat) → IsSeat es o → seat_depth o ≡ Some k → o ≡ seat_at k es
seat_same es k None s e = absurd (cc)
seat_same es k (Some seat) s e =
    let at : seat.depth ≡ k = cc in
    sym (ap (option_map (λ x. record { depth = k; element = x })) (ap (slice_get es) (sym at) ∙ s) ∙ ap (λ n. Some (record { depth = n; element = seat.element })) (sym at))

pub furthest_at : (es : List OpenElement) (d k : ℕ) → seat_depth (furthest (take d es)) ≡ Some k → furthest (take d es) ≡ seat_at k es
furthest_at es d k e = seat_same es k (furthest (take d es)) (seated es d) e
