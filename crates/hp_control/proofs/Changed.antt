-- A list whose items are changed one after the other, each in its place.
use Rattle.std.proofs.Common.{◌≡◌, ◌+◌, ◌<◌, ◌++◌, ℕ, zero, suc, List, [], ◌∷◌, length, map, take, drop, get_or, set, ap, ap₂, refl, sym, ◌∙◌, arith}
use Rattle.std.proofs.lemmas.List.{take_at, length-map}

changed_next : {X : Type 0} (f : X → X) (xs : List X) (i : ℕ) (d : X) → i < length xs
    → set (map f (take i xs) ++ drop i xs) i (f (get_or (map f (take i xs) ++ drop i xs) i d)) ≡ map f (take (i + 1) xs) ++ drop (i + 1) xs
changed_next f [] i d h = absurd (omega arith)
changed_next f (x ∷ xs) zero d h = refl
changed_next f (x ∷ xs) (suc i) d h =
    let e : suc i + 1 ≡ suc (i + 1) = omega arith in
    rw e (ap (λ rest. f x ∷ rest) (changed_next f xs i d (omega arith)))

-- one more item was changed
pub changed_more : {X : Type 0} (f : X → X) (xs now : List X) (i : ℕ) (d y : X) → now ≡ map f (take i xs) ++ drop i xs → i < length xs → y ≡ f (get_or now i d)
    → set now i y ≡ map f (take (i + 1) xs) ++ drop (i + 1) xs
changed_more f xs now i d y now_is h changed =
    ap₂ (λ l v. set l i v) now_is (changed ∙ ap (λ l. f (get_or l i d)) now_is) ∙ changed_next f xs i d h

-- a list whose items were changed all together, as a slice
pub changed_whole : {X : Type 0} (f : X → X) (xs now : List X) (len : ℕ) → now ≡ map f xs → len ≡ length xs → take len (now ++ drop (length now) xs) ≡ map f xs
changed_whole f xs now len now_is e = take_at now (drop (length now) xs) len (ap length now_is ∙ length-map xs f ∙ sym e) ∙ now_is
