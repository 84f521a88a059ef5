-- A rising table: of two names the later one comes after the earlier one. What the longest name of a table depends on.
use Rattle.std.proofs.Common.{◌≡◌, ℕ, ◌<◌, suc, zero, List, [], ◌∷◌, get_or, Bool, true, false, ◌&&◌, not, length, refl, arith, cond, Option, None, Some}
use Rattle.std.proofs.lemmas.Bool.Decides.{nat_tests}
use Rattle.hp_names.specs.Order.{begins, is_upto}
use Rattle.hp_names.specs.References.{Reference, rises, rises_after}
use Rattle.hp_names.specs.Longest.{longest_after, longer_of, found_of}
use Rattle.hp_names.specs.declared.names.Found.{Found}
use Rattle.hp_names.proofs.OrderLemmas.{upto-total, upto-trans}

pub and_first : (x y : Bool) → (x && y) ≡ true → x ≡ true
and_first true y h = refl
and_first false y h = h

pub and_second : (x y : Bool) → (x && y) ≡ true → y ≡ true
and_second true y h = h
and_second false y h = cc

pub not_true : (x : Bool) → not x ≡ true → x ≡ false
not_true true h = cc
not_true false h = refl

by_absurd : (b : Bool) → (b ≡ true → ⊥) → b ≡ false
by_absurd true h = absurd (h refl)
by_absurd false h = refl

-- what comes after a name that comes after another comes after that one
after-trans : (xs ys zs : List ℕ) → is_upto ys xs ≡ false → is_upto zs ys ≡ false → is_upto zs xs ≡ false
after-trans xs ys zs h k =
    by_absurd (is_upto zs xs) (λ e.
    let u : is_upto zs ys ≡ true = upto-trans zs xs ys e (upto-total ys xs h) in cc)

rises_after-all : (r : Reference) (rs : List Reference) (k : ℕ) (d : Reference) → rises_after r rs ≡ true → k < length rs → is_upto (get_or rs k d).name r.name ≡ false
rises_after-all r [] k d h l = absurd (omega arith)
rises_after-all r (s ∷ rs) zero d h l = not_true _ (and_first _ _ h)
rises_after-all r (s ∷ rs) (suc k) d h l =
    after-trans r.name s.name (get_or rs k d).name (not_true _ (and_first _ _ h))
    (rises_after-all s rs k d (and_second _ _ h) (omega arith))

rises-tail : (r : Reference) (rs : List Reference) → rises_after r rs ≡ true → rises rs ≡ true
rises-tail r [] h = refl
rises-tail r (s ∷ rs) h = and_second _ _ h

-- of two names the later one comes after the earlier one
pub rises-pair : (rs : List Reference) (i j : ℕ) (d : Reference) → rises rs ≡ true → i < j → j < length rs → is_upto (get_or rs j d).name (get_or rs i d).name ≡ false
rises-pair [] i j d h l m = absurd (omega arith)
rises-pair (r ∷ rs) i zero d h l m = absurd (omega arith)
rises-pair (r ∷ rs) zero (suc j) d h l m = rises_after-all r rs j d h (omega arith)
rises-pair (r ∷ rs) (suc i) (suc j) d h l m = rises-pair rs i j d (rises-tail r rs h) (omega arith) (omega arith)

-- a text that begins with the same names of the table has the same longest one
pub longest-same : (rs : List Reference) (d : Reference) (text other : List ℕ) (best : Option Found)
    → ((k : ℕ) → k < length rs → begins text (get_or rs k d).name ≡ begins other (get_or rs k d).name)
    → longest_after best rs text ≡ longest_after best rs other
longest-same [] d text other best h = refl
longest-same (r ∷ rs) d text other best h =
    rw (h zero (omega arith)) (longest-same rs d text other _ (λ k l. h (suc k) (omega arith)))

-- where it begins with none of them, what was found stays
pub longest-none : (rs : List Reference) (text : List ℕ) (best : Option Found)
    → ((k : ℕ) (d : Reference) → k < length rs → begins text (get_or rs k d).name ≡ false) → longest_after best rs text ≡ best
longest-none [] text best h = refl
longest-none (r ∷ rs) text best h =
    rw (h zero r (omega arith)) (longest-none rs text best (λ k d l. h (suc k) d (omega arith)))

-- what was found, if anything, is shorter than this
abbrev pub IsBelow : Option Found → ℕ → Type 0
IsBelow None n = Unit {0}
IsBelow (Some f) n = f.length < n

longer_of-below : (best : Option Found) (f : Found) → IsBelow best f.length → longer_of best f ≡ f
longer_of-below None f h = refl
longer_of-below (Some g) f h = grind (arith, nat_tests)

IsBelow-cond : (b : Bool) (f g : Found) (n : ℕ) → f.length < n → g.length < n → IsBelow (Some (cond b f g)) n
IsBelow-cond true f g n h k = h
IsBelow-cond false f g n h k = k

IsBelow-longer : (best : Option Found) (f : Found) (n : ℕ) → IsBelow best n → f.length < n → IsBelow (Some (longer_of best f)) n
IsBelow-longer None f n h k = k
IsBelow-longer (Some g) f n h k = IsBelow-cond _ g f n h k

IsBelow-next : (b : Bool) (best : Option Found) (r : Reference) (n : ℕ) → IsBelow best n → (b ≡ true → length r.name < n)
    → IsBelow (cond b (Some (longer_of best (found_of r))) best) n
IsBelow-next true best r n h k = IsBelow-longer best (found_of r) n h (k refl)
IsBelow-next false best r n h k = h

-- a name that the text begins with, where those before it are shorter and none after it fits
pub longest-found : (rs : List Reference) (at : ℕ) (d : Reference) (text : List ℕ) (best : Option Found) → at < length rs
    → begins text (get_or rs at d).name ≡ true → IsBelow best (length (get_or rs at d).name)
    → ((k : ℕ) → k < at → begins text (get_or rs k d).name ≡ true → length (get_or rs k d).name < length (get_or rs at d).name)
    → ((k : ℕ) (e : Reference) → at < k → k < length rs → begins text (get_or rs k e).name ≡ false)
    → longest_after best rs text ≡ Some (found_of (get_or rs at d))
longest-found [] at d text best l b s f g = absurd (omega arith)
longest-found (r ∷ rs) zero d text best l b s f g =
    rw (b, longer_of-below best (found_of r) s) (longest-none rs text _ (λ k e m. g (suc k) e (omega arith) (omega arith)))
longest-found (r ∷ rs) (suc at) d text best l b s f g =
    longest-found rs at d text _ (omega arith) b (IsBelow-next (begins text r.name) best r _ s (f zero (omega arith)))
    (λ k m. f (suc k) (omega arith)) (λ k e m n. g (suc k) e (omega arith) (omega arith))
