-- Attributes that stand in order already.
use Rattle.std.proofs.Common.{◌≡◌, zero, suc, ◌+◌, Bool, true, false, not, ◌&&◌, List, [], ◌∷◌, ◌++◌, get_or, refl, sym, add-one, arith}
use Rattle.std.specs.Prelude.{Option, None, Some}
use Rattle.std.specs.List.Sorted.{IsSortedBy}
use Rattle.std.specs.Cmp.{IsStrictWeakOrder}
use Rattle.std.proofs.lemmas.Bool.{and_parts, true≢false}
use Rattle.std.proofs.lemmas.Cmp.{nat_list_cmp_total}
use Rattle.std.proofs.lemmas.List.Sorted.{ranks_by}
use Rattle.hp_elements.specs.declared.tag.Attribute.{Attribute}
use Rattle.hp_print.specs.declared.attributes.Shown.{Shown}
use Rattle.hp_print.specs.Order.{comes_before, in_order, printed_name, units}
use Rattle.hp_print.specs.Shown.{attribute_of, follows}
use Rattle.hp_print.proofs.Stable.{sort_places}

-- none comes before the one that it follows
unfoldable pub ordered : {X : Type 0} → (X → X → Bool) → List X → Bool
ordered lt [] = true
ordered lt (x ∷ []) = true
ordered lt (x ∷ y ∷ ys) = not (lt y x) && ordered lt (y ∷ ys)

not_true : (b : Bool) → not b ≡ true → b ≡ false
not_true true e = absurd (true≢false (sym e))
not_true false e = refl

ordered_sorted : {X : Type 0} (lt : X → X → Bool) (xs : List X) → ordered lt xs ≡ true → IsSortedBy lt xs
unfolding ordered
ordered_sorted lt [] e k d low high = absurd (omega arith)
ordered_sorted lt (x ∷ []) e k d low high = absurd (omega arith)
ordered_sorted lt (x ∷ y ∷ ys) e zero d low high = not_true (lt y x) (and_parts (not (lt y x)) (ordered lt (y ∷ ys)) e).0
ordered_sorted lt (x ∷ y ∷ ys) e (suc k) d low high =
    let rest : ordered lt (y ∷ ys) ≡ true = (and_parts (not (lt y x)) (ordered lt (y ∷ ys)) e).1 in
    let more : lt (get_or (y ∷ ys) (k + 1) d) (get_or (y ∷ ys) k d) ≡ false = ordered_sorted lt (y ∷ ys) rest k d (omega arith) (omega arith) in
    let next : lt (get_or (y ∷ ys) (suc k) d) (get_or (y ∷ ys) k d) ≡ false = rw add-one at more in rw (add-one (suc k)) next

-- what stands in order stays as it is
pub in_order_already : (attributes : List Attribute) → ordered comes_before attributes ≡ true → in_order attributes ≡ attributes
in_order_already attributes e =
    let order : IsStrictWeakOrder comes_before = ranks_by nat_list_cmp_total (λ (a : Attribute). units (printed_name a)) in
    sym (sort_places comes_before order attributes attributes (ordered_sorted comes_before attributes e) (λ z. refl))

-- the attribute that was looked at last
abbrev pub last : Option Shown → List Attribute
last None = []
last (Some shown) = attribute_of shown ∷ []

both_true : (p q : Bool) → p ≡ true → q ≡ true → (p && q) ≡ true
both_true p q e f = rw (e, f) refl

pub ordered_next : (before : Option Shown) (shown : Shown) (rest : List Attribute) → follows before shown ≡ true → ordered comes_before (attribute_of shown ∷ rest) ≡ true
    → ordered comes_before (last before ++ attribute_of shown ∷ rest) ≡ true
unfolding ordered
ordered_next None shown rest here more = more
ordered_next (Some first) shown rest here more = both_true (follows (Some first) shown) (ordered comes_before (attribute_of shown ∷ rest)) here more

pub ordered_last : (before : Option Shown) → ordered comes_before (last before ++ []) ≡ true
unfolding ordered
ordered_last None = refl
ordered_last (Some shown) = refl
