-- What walks give on short and on empty lists.
use Rattle.std.proofs.Common.{◌≡◌, ℕ, zero, suc, ◌+◌, ◌-◌, ◌<◌, ◌≤◌, List, [], ◌∷◌, true, false, length, drop, get_or, refl, sym, ap, ◌∙◌, arith}
use Rattle.std.proofs.lemmas.List.{length-drop, get_or-drop, drop_all}
use Rattle.hp_elements.specs.KnownNames as known
use Rattle.hp_control.specs.declared.element.OpenElement.{OpenElement}
use Rattle.hp_control.specs.declared.element.FormattingEntry.{FormattingEntry}
use Rattle.hp_control.specs.declared.element.FormattingEntry.TheVariants.{Marker, Element}
use Rattle.hp_control.specs.States.{is_named}
use Rattle.hp_control.specs.Walks.{second_is_body, cleared, cleared_by, is_last}

-- the second element by its place
pub second_at : (es : List OpenElement) (d : OpenElement) → 2 ≤ length es → second_is_body es ≡ is_named known.Body (get_or es (length es - 2) d)
second_at [] d h = absurd (omega arith)
second_at (e ∷ []) d h = absurd (omega arith)
second_at (e ∷ f ∷ []) d h = refl
second_at (e ∷ f ∷ g ∷ es) d h =
    let same : length (e ∷ f ∷ g ∷ es) - 2 ≡ suc (length (f ∷ g ∷ es) - 2) = omega arith in
    second_at (f ∷ g ∷ es) d (omega arith) ∙ ap (λ (n : ℕ). is_named known.Body (get_or (e ∷ f ∷ g ∷ es) n d)) (sym same)

-- there is none
pub second_none : (es : List OpenElement) → length es < 2 → second_is_body es ≡ false
second_none [] h = refl
second_none (e ∷ []) h = refl
second_none (e ∷ f ∷ es) h = absurd (omega arith)

pub cleared_nothing : (n : ℕ) → cleared_by n [] ≡ []
cleared_nothing zero = refl
cleared_nothing (suc n) = ap cleared (cleared_nothing n)

-- the second element of all stands above a depth
pub none_below : (es : List OpenElement) (k : ℕ) → length es < k + 2 → second_is_body (drop k es) ≡ false
none_below es k h = let shorter : length (drop k es) ≡ length es - k = length-drop k es in second_none (drop k es) (omega arith)

-- it stands there or below
pub some_below : (es : List OpenElement) (k at : ℕ) (e : OpenElement) → k + 2 ≤ length es → at + 2 ≡ length es → e ≡ get_or es at e → second_is_body (drop k es) ≡ is_named known.Body e
some_below es k at e h p v =
    let shorter : length (drop k es) ≡ length es - k = length-drop k es in
    let long : 2 ≤ length (drop k es) = omega arith in
    let same : k + (length (drop k es) - 2) ≡ at = omega arith in
    second_at (drop k es) e long
    ∙ (ap (is_named known.Body) (get_or-drop k es (length (drop k es) - 2) e)
    ∙ (ap (λ (n : ℕ). is_named known.Body (get_or es n e)) same ∙ ap (is_named known.Body) (sym v)))

-- each clearing takes an entry at least, where there is one
cleared_shorter : (es : List FormattingEntry) → length (cleared es) ≤ length es - 1
cleared_shorter [] = omega arith
cleared_shorter (Marker ∷ es) = omega arith
cleared_shorter (Element id tag ∷ es) = let h : length (cleared es) ≤ length es - 1 = cleared_shorter es in omega arith

cleared_by_shorter : (n : ℕ) (es : List FormattingEntry) → length (cleared_by n es) ≤ length es - n
cleared_by_shorter zero es = omega arith
cleared_by_shorter (suc n) es =
    let h : length (cleared_by n es) ≤ length es - n = cleared_by_shorter n es in
    let k : length (cleared (cleared_by n es)) ≤ length (cleared_by n es) - 1 = cleared_shorter (cleared_by n es) in
    omega arith

empty_short : (es : List FormattingEntry) → length es ≤ 0 → es ≡ []
empty_short [] h = refl
empty_short (e ∷ es) h = absurd (omega arith)

-- as many clearings as there are entries leave none
pub all_gone : (n : ℕ) (es : List FormattingEntry) → length es ≤ n → cleared_by n es ≡ []
all_gone n es h = let k : length (cleared_by n es) ≤ length es - n = cleared_by_shorter n es in empty_short (cleared_by n es) (omega arith)

-- whether something stands at a depth
pub none_left : (es : List OpenElement) (n : ℕ) → length es ≤ n → is_last (drop n es) ≡ true
none_left es n h = ap is_last (drop_all n es h)

pub some_left : (es : List OpenElement) (n : ℕ) → n < length es → is_last (drop n es) ≡ false
some_left [] n h = absurd (omega arith)
some_left (e ∷ es) zero h = refl
some_left (e ∷ es) (suc n) h = some_left es n (omega arith)
