-- An attribute that is put among others that stand in order.
use Rattle.std.proofs.Common.{◌≡◌, ℕ, suc, ◌+◌, ◌<◌, ◌≤◌, Bool, true, false, not, List, [], ◌∷◌, ◌++◌, take, drop, length, get_or, refl, ap, sym, ◌∙◌, append_assoc, add-one}
use Rattle.std.specs.Prelude.{Some}
use Rattle.std.specs.List.{insert}
use Rattle.std.proofs.lemmas.Bool.{true≢false}
use Rattle.std.proofs.lemmas.List.{map-append, drop_all}
use Rattle.std.proofs.Math.Seq.{drop-cons, take-suc}
use Rattle.hp_elements.specs.declared.tag.Attribute.{Attribute}
use Rattle.hp_print.specs.declared.attributes.Shown.{Shown}
use Rattle.hp_print.specs.Order.{comes_before, placed}
use Rattle.hp_print.specs.Shown.{attribute_of, attributes_of, follows}
use Rattle.hp_print.proofs.Stable.{placed_none, placed_here, placed_later}

not_true : (b : Bool) → not b ≡ true → b ≡ false
not_true true e = absurd (true≢false (sym e))
not_true false e = refl

not_false : (b : Bool) → not b ≡ false → b ≡ true
not_false true e = refl
not_false false e = absurd (true≢false e)

here : (xs : List Shown) (i : ℕ) (x : Shown) → i < length xs → get_or xs i x ≡ x → drop i xs ≡ x ∷ drop (suc i) xs
here xs i x lt is = drop-cons xs i x lt ∙ ap (λ y. y ∷ drop (suc i) xs) is

-- the attributes before a place, and those from there on with one more
abbrev pub placed_from : List Shown → ℕ → Shown → List Attribute
placed_from xs i shown = attributes_of (take i xs) ++ placed comes_before (attributes_of (drop i xs)) (attribute_of shown)

pub place_step : (xs : List Shown) (i : ℕ) (x shown : Shown) (whole : List Attribute) → i < length xs → get_or xs i x ≡ x → follows (Some x) shown ≡ true → whole ≡ placed_from xs i shown → whole ≡ placed_from xs (i + 1) shown
place_step xs i x shown whole lt is later passed =
    let apart : comes_before (attribute_of shown) (attribute_of x) ≡ false = not_true _ later in
    let one : take (suc i) xs ≡ take i xs ++ x ∷ [] = take-suc xs i x lt ∙ ap (λ y. take i xs ++ y ∷ []) is in
    rw add-one
    (passed
    ∙ ap (λ ys. attributes_of (take i xs) ++ placed comes_before (attributes_of ys) (attribute_of shown)) (here xs i x lt is)
    ∙ ap (λ ys. attributes_of (take i xs) ++ ys) (placed_later comes_before (attribute_of shown) (attribute_of x) (attributes_of (drop (suc i) xs)) apart)
    ∙ sym (append_assoc (attributes_of (take i xs)) (attribute_of x ∷ []) (placed comes_before (attributes_of (drop (suc i) xs)) (attribute_of shown)))
    ∙ ap (λ ys. ys ++ placed comes_before (attributes_of (drop (suc i) xs)) (attribute_of shown)) (sym (map-append attribute_of (take i xs) (x ∷ [])) ∙ ap attributes_of (sym one)))

inserted : (xs : List Shown) (i : ℕ) (shown : Shown) → attributes_of (take i xs) ++ attribute_of shown ∷ attributes_of (drop i xs) ≡ attributes_of (insert xs i shown)
inserted xs i shown = sym (map-append attribute_of (take i xs) (shown ∷ drop i xs))

pub place_here : (xs : List Shown) (i : ℕ) (x shown : Shown) (whole : List Attribute) → i < length xs → get_or xs i x ≡ x → follows (Some x) shown ≡ false → whole ≡ placed_from xs i shown → whole ≡ attributes_of (insert xs i shown)
place_here xs i x shown whole lt is first passed =
    let before : comes_before (attribute_of shown) (attribute_of x) ≡ true = not_false _ first in
    passed
    ∙ ap (λ ys. attributes_of (take i xs) ++ placed comes_before (attributes_of ys) (attribute_of shown)) (here xs i x lt is)
    ∙ ap (λ ys. attributes_of (take i xs) ++ ys) (placed_here comes_before (attribute_of shown) (attribute_of x) (attributes_of (drop (suc i) xs)) before)
    ∙ ap (λ ys. attributes_of (take i xs) ++ attribute_of shown ∷ attributes_of ys) (sym (here xs i x lt is))
    ∙ inserted xs i shown

pub place_end : (xs : List Shown) (i : ℕ) (shown : Shown) (whole : List Attribute) → length xs ≤ i → whole ≡ placed_from xs i shown → whole ≡ attributes_of (insert xs i shown)
place_end xs i shown whole past passed =
    let none : drop i xs ≡ [] = drop_all i xs past in
    passed
    ∙ ap (λ ys. attributes_of (take i xs) ++ placed comes_before (attributes_of ys) (attribute_of shown)) none
    ∙ ap (λ ys. attributes_of (take i xs) ++ ys) (placed_none comes_before (attribute_of shown))
    ∙ ap (λ ys. attributes_of (take i xs) ++ attribute_of shown ∷ attributes_of ys) (sym none)
    ∙ inserted xs i shown
