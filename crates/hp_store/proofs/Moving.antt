-- A list whose items are changed one after the other, each in its place.
use Rattle.std.proofs.Common.{◌≡◌, ◌+◌, ◌<◌, ◌++◌, ℕ, zero, suc, List, [], ◌∷◌, length, map, take, drop, get_or, set, ap, ap₂, refl, ◌∙◌, arith}

-- the next item is as it was
unchanged_next : {X : Type 0} (f : X → X) (xs : List X) (i : ℕ) (d : X) → i < length xs → get_or (map f (take i xs) ++ drop i xs) i d ≡ get_or xs i d
unchanged_next f [] i d h = absurd (omega arith)
unchanged_next f (x ∷ xs) zero d h = refl
unchanged_next f (x ∷ xs) (suc i) d h = unchanged_next f xs i d (omega arith)

pub next_is : {X : Type 0} (f : X → X) (xs now : List X) (i : ℕ) (d : X) → now ≡ map f (take i xs) ++ drop i xs → i < length xs → get_or now i d ≡ get_or xs i d
next_is f xs now i d now_is h = ap (λ l. get_or l i d) now_is ∙ unchanged_next f xs i d h

changed_next : {X : Type 0} (f : X → X) (xs : List X) (i : ℕ) (d : X) → i < length xs
    → set (map f (take i xs) ++ drop i xs) i (f (get_or (map f (take i xs) ++ drop i xs) i d)) ≡ map f (take (i + 1) xs) ++ drop (i + 1) xs
changed_next f [] i d h = absurd (omega arith)
changed_next f (x ∷ xs) zero d h = refl
changed_next f (x ∷ xs) (suc i) d h =
    let e : suc i + 1 ≡ suc (i + 1) = omega arith in
    rw e (ap (λ rest. f x ∷ rest) (changed_next f xs i d (omega arith)))

-- one more item was changed
pub changed_more : {X : Type 0} (f : X → X) (xs now : List X) (i : ℕ) (d y : X) → now ≡ map f (take i xs) ++ drop i xs → i < length xs → y ≡ f (get_or now i d)
    → set now i y ≡ map f (take (i + 1) xs) ++ drop (i + 1) xs
changed_more f xs now i d y now_is h changed =
    ap₂ (λ l v. set l i v) now_is (changed ∙ ap (λ l. f (get_or l i d)) now_is) ∙ changed_next f xs i d h
