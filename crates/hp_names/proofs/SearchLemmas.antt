-- What the place of a text in a rising table says of the longest name, and of names that go on.
use Rattle.std.proofs.Common.{◌≡◌, ℕ, ◌+◌, ◌<◌, ◌≤◌, List, take, get_or, Bool, true, false, length, refl, arith, sym, None, Some, inl, inr}
use Rattle.std.proofs.lemmas.Bool.{cases_lt}
use Rattle.std.proofs.Math.Nat.{eq-or-lt_of_le}
use Rattle.std.proofs.lemmas.List.{get_or_default}
use Rattle.std.proofs.lemmas.List.Folds.{list_any_at, list_any_none}
use Rattle.hp_names.specs.Order.{begins, is_upto, common}
use Rattle.hp_names.specs.References.{Reference, rises}
use Rattle.hp_names.specs.Longest.{longest, found_of, goes_on, may_grow}
use Rattle.hp_names.specs.Search.{StandsAt}
use Rattle.hp_names.proofs.OrderLemmas.{upto_itself, upto-total, begins-upto, goes-on, begins-between, upto-ended, front-longer, front-shared, begins-within, begins-take, common-shorter}
use Rattle.hp_names.proofs.TableLemmas.{and_first, rises-pair, longest-same, longest-none, longest-found}

pub from-upto : (rs : List Reference) (i j : ℕ) (d : Reference) → rises rs ≡ true → i ≤ j → j < length rs → is_upto (get_or rs i d).name (get_or rs j d).name ≡ true
from-upto rs i j d r l m = elim (eq-or-lt_of_le l) [
  | inl same ↦ rw (sym same) (upto_itself (get_or rs i d).name)
  | inr below ↦ upto-total (get_or rs j d).name (get_or rs i d).name (rises-pair rs i j d r below m)
]

false_from : (b : Bool) → (b ≡ true → ⊥) → b ≡ false
false_from true h = absurd (h refl)
false_from false h = refl

same_from : (a b : Bool) → (a ≡ true → b ≡ true) → (b ≡ true → a ≡ true) → a ≡ b
same_from true b h k = sym (h refl)
same_from false b h k = sym (false_from b (λ e. let w : false ≡ true = k e in cc))

-- no name above the text is a front of it
above-none : (rs : List Reference) (text : List ℕ) (at : ℕ) → StandsAt rs text at → (k : ℕ) (d : Reference) → at ≤ k → k < length rs → begins text (get_or rs k d).name ≡ false
above-none rs text at s k d l m =
    false_from (begins text (get_or rs k d).name) (λ e.
    let u : is_upto (get_or rs k d).name text ≡ true = begins-upto text (get_or rs k d).name e in
    let v : is_upto (get_or rs k d).name text ≡ false = s.above k d l m in cc)

pub stands_first-none : (rs : List Reference) (text : List ℕ) → StandsAt rs text 0 → longest rs text ≡ None
stands_first-none rs text s = longest-none rs text None (λ k d l. above-none rs text 0 s k d (omega arith) l)

-- the last name up to the text is the longest where the text begins with it
pub stands-found : (rs : List Reference) (text : List ℕ) (at : ℕ) (d : Reference) → rises rs ≡ true → StandsAt rs text (at + 1)
    → begins text (get_or rs at d).name ≡ true → longest rs text ≡ Some (found_of (get_or rs at d))
stands-found rs text at d r s b =
    let l : at < length rs = let w = s.within in omega arith in
    longest-found rs at d text None l b tt
    (λ k m e. front-longer text (get_or rs k d).name (get_or rs at d).name e b (rises-pair rs k at d r m l))
    (λ k e m n. above-none rs text (at + 1) s k e (omega arith) n)

-- a name that the text begins with stands at or before the last name up to the text
upto-last : (rs : List Reference) (text : List ℕ) (at : ℕ) (d : Reference) → rises rs ≡ true → StandsAt rs text (at + 1)
    → (k : ℕ) → k < length rs → begins text (get_or rs k d).name ≡ true → is_upto (get_or rs k d).name (get_or rs at d).name ≡ true
upto-last rs text at d r s k m b =
    let l : at < length rs = let w = s.within in omega arith in
    elim (cases_lt k at) [
      | inl below ↦ upto-total (get_or rs at d).name (get_or rs k d).name (rises-pair rs k at d r below l)
      | inr from ↦ elim (eq-or-lt_of_le from) [
        | inl same ↦ rw (sym same) (upto_itself (get_or rs at d).name)
        | inr above ↦ let no : begins text (get_or rs k d).name ≡ false = above-none rs text (at + 1) s k d (omega arith) m in cc
      ]
    ]

-- otherwise each name that the text begins with is within what both have in common
pub stands-shared : (rs : List Reference) (text : List ℕ) (at : ℕ) (d : Reference) → rises rs ≡ true → StandsAt rs text (at + 1)
    → longest rs text ≡ longest rs (take (common (get_or rs at d).name text) text)
stands-shared rs text at d r s =
    let last : is_upto (get_or rs at d).name text ≡ true = s.upto at d (omega arith) in
    longest-same rs d text _ None (λ k m.
    same_from (begins text (get_or rs k d).name) _
    (λ b. begins-within text (get_or rs k d).name _ b
    (front-shared text (get_or rs at d).name (get_or rs k d).name b (upto-last rs text at d r s k m b) last))
    (begins-take text (get_or rs k d).name _))

-- and that is less than the text
pub stands-shorter : (rs : List Reference) (text : List ℕ) (at : ℕ) (d : Reference) → StandsAt rs text (at + 1)
    → common (get_or rs at d).name text < length (get_or rs at d).name → common (get_or rs at d).name text < length text
stands-shorter rs text at d s h = common-shorter text (get_or rs at d).name (s.upto at d (omega arith)) h

-- no name up to the text goes on after it
below-none : (rs : List Reference) (text : List ℕ) (at : ℕ) (d : Reference) → StandsAt rs text at → (k : ℕ) → k < at → goes_on text (get_or rs k d) ≡ false
below-none rs text at d s k m = upto-ended text (get_or rs k d).name (s.upto k d m)

-- the first name above the text goes on after it, or none does
pub stands-grows : (rs : List Reference) (text : List ℕ) (at : ℕ) (d : Reference) → rises rs ≡ true → StandsAt rs text at → at < length rs
    → may_grow rs text ≡ begins (get_or rs at d).name text
stands-grows rs text at d r s l = elim_bool (begins (get_or rs at d).name text)
    (λ b. list_any_at (goes_on text) rs at d l (goes-on text (get_or rs at d).name b (s.above at d (omega arith) l)))
    (λ b. list_any_none (goes_on text) rs (λ k e m.
    rw (get_or_default rs k e d m) (elim (cases_lt k at) [
      | inl below ↦ below-none rs text at d s k below
      | inr from ↦ false_from _ (λ g.
          let yes : begins (get_or rs at d).name text ≡ true = begins-between text (get_or rs at d).name (get_or rs k d).name
          (s.above at d (omega arith) l) (from-upto rs at k d r from m) (and_first _ _ g) in cc)
    ])))
  where
    elim_bool : {x : Bool} (b : Bool) → (b ≡ true → x ≡ true) → (b ≡ false → x ≡ false) → x ≡ b
    elim_bool true h k = h refl
    elim_bool false h k = k refl

pub stands-last-grows : (rs : List Reference) (text : List ℕ) (d : Reference) → StandsAt rs text (length rs) → may_grow rs text ≡ false
stands-last-grows rs text d s =
    list_any_none (goes_on text) rs (λ k e m. rw (get_or_default rs k e d m) (below-none rs text (length rs) d s k m))
