-- Texts as lists of codes: whether one begins with another, and their order by codes.
use Rattle.std.specs.Prelude.{ℕ, ◌+◌, ◌==◌, ◌&&◌, nat_lt, Bool, true, false, List, [], ◌∷◌, if◌then◌else◌}

-- the text begins with the word
abbrev pub begins : List ℕ → List ℕ → Bool
begins text [] = true
begins [] (w ∷ ws) = false
begins (c ∷ cs) (w ∷ ws) = w == c && begins cs ws

-- the first text is the second, or comes before it where the codes decide from the front; the front of a text comes before it
abbrev pub is_upto : List ℕ → List ℕ → Bool
is_upto [] ys = true
is_upto (x ∷ xs) [] = false
is_upto (x ∷ xs) (y ∷ ys) = if x == y then is_upto xs ys else nat_lt x y

-- how many codes two texts have in common from the front
abbrev pub common : List ℕ → List ℕ → ℕ
common [] ys = 0
common (x ∷ xs) [] = 0
common (x ∷ xs) (y ∷ ys) = if x == y then 1 + common xs ys else 0
