-- A stack that is taken apart.
use Rattle.std.proofs.Common.{◌≡◌, ℕ, zero, suc, ◌+◌, ◌-◌, ◌<◌, ◌≤◌, List, [], ◌∷◌, ◌++◌, Option, Some, None, length, take, drop, slice_get, ap, sym, refl, ◌∙◌, arith, append_assoc}
use Rattle.std.specs.Option.{is_some, option_map}
use Rattle.std.proofs.lemmas.List.{drop-drop, drop-take, take-take, length-drop}

pub none_below : {X : Type 0} (xs : List X) (k : ℕ) → k < length xs → drop k xs ≡ [] → ⊥
none_below xs k h e = let n = length-drop k xs in let z : length (drop k xs) ≡ 0 = ap length e in omega (arith, h, n, z)

pub rest_below : {X : Type 0} (xs rest : List X) (k : ℕ) (x : X) → drop k xs ≡ x ∷ rest → rest ≡ drop (k + 1) xs
rest_below xs rest k x e = ap (drop 1) (sym e) ∙ drop-drop 1 k xs

pub head_below : {X : Type 0} (xs rest : List X) (k : ℕ) (x : X) → drop k xs ≡ x ∷ rest → slice_get xs k ≡ Some x
head_below [] rest zero x e = absurd (cc)
head_below [] rest (suc k) x e = absurd (cc)
head_below (y ∷ ys) rest zero x e = ap (λ l. slice_get l 0) e
head_below (y ∷ ys) rest (suc k) x e = head_below ys rest k x e

pub between_of : {X : Type 0} (xs : List X) (b d : ℕ) → b < d → take (d - b - 1) (drop (b + 1) xs) ≡ drop (b + 1) (take d xs)
between_of xs b d h =
    let e : b + 1 + (d - b - 1) ≡ d = omega (arith, h) in
    sym (drop-take (b + 1) (d - b - 1) xs) ∙ ap (λ n. drop (b + 1) (take n xs)) e

pub under_of : {X : Type 0} (xs : List X) (b d : ℕ) → b < d → drop 1 (drop (d - b - 1) (drop (b + 1) xs)) ≡ drop (d + 1) xs
under_of xs b d h =
    let e : b + 1 + (d - b - 1) + 1 ≡ d + 1 = omega (arith, h) in
    drop-drop 1 (d - b - 1) (drop (b + 1) xs) ∙ (drop-drop (d - b - 1 + 1) (b + 1) xs ∙ ap (λ n. drop n xs) (let f : b + 1 + (d - b - 1 + 1) ≡ d + 1 = omega (arith, h) in f))

pub above_of : {X : Type 0} (xs : List X) (b d : ℕ) → b ≤ d → take b xs ≡ take b (take d xs)
above_of xs b d h = sym (take-take b d xs h)

-- there is room for what is between, and for one more
pub between_fits : {X : Type 0} (xs rest : List X) (b d : ℕ) → b < d → d < length xs → rest ≡ drop (b + 1) xs → d - b - 1 ≤ length rest
between_fits xs rest b d h k e = let n = length-drop (b + 1) xs in let m = ap length e in omega (arith, h, k, n, m)

pub one_fits : {X : Type 0} (xs rest : List X) (b d : ℕ) → b < d → d < length xs → rest ≡ drop (b + 1) xs → 1 ≤ length (drop (d - b - 1) rest)
one_fits xs rest b d h k e = let n = length-drop (b + 1) xs in let m = ap length e in let o = length-drop (d - b - 1) rest in omega (arith, h, k, n, m, o)

-- parts put on a stack one after the other
pub piled : {X : Type 0} (above kept under : List X) (e : X) → above ++ e ∷ (kept ++ under) ≡ (above ++ e ∷ kept) ++ under
piled above kept under e = sym (append_assoc above (e ∷ kept) under)

-- the same question asked of a fact of the page and of what is seen of it
pub some_seen : {X Y : Type 0} (f : X → Y) (o : Option X) → is_some (option_map f o) ≡ is_some o
some_seen f None = refl
some_seen f (Some x) = refl
