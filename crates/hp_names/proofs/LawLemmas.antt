-- The longest name of a table is the longest one that the text begins with; and it stays so where no name goes on after the text.
use Rattle.std.proofs.Common.{◌≡◌, ℕ, ◌≤◌, List, [], ◌∷◌, ◌++◌, get_or, Bool, true, false, ◌&&◌, ◌||◌, nat_lt, nat_le, length, refl, arith, cond, sym, ap, Option, None, Some, append_assoc, subst}
use Rattle.std.specs.Prelude.{All, Contains}
use Rattle.std.specs.Bool.{OnFalse}
use Rattle.std.proofs.lemmas.List.{append-nil}
use Rattle.std.proofs.lemmas.Bool.Decides.{nat_tests}
use Rattle.std.proofs.lemmas.List.Elements.{All-push, All-nil, Contains-append_left, Contains-append_right}
use Rattle.hp_names.specs.Order.{begins}
use Rattle.hp_names.specs.References.{Reference}
use Rattle.hp_names.specs.Longest.{longest, longest_after, longer_of, found_of, IsLongest, goes_on, may_grow}
use Rattle.hp_names.specs.declared.names.Found.{Found}

one : (r : Reference) → Contains (r ∷ []) r
one r = (0, omega arith, refl)

within-trans : (text : List ℕ) (n m : ℕ) (ps : List Reference) → n ≤ m → All (λ q. begins text q.name ≡ true → length q.name ≤ n) ps
    → All (λ q. begins text q.name ≡ true → length q.name ≤ m) ps
within-trans text n m ps l h = λ k d in' b. let s = h k d in' b in omega arith

-- one more name
next-none : (ps : List Reference) (text : List ℕ) (r : Reference) → IsLongest ps text None → begins text r.name ≡ true → IsLongest (ps ++ r ∷ []) text (Some (found_of r))
next-none ps text r h b = (
  r,
  Contains-append_right ps (r ∷ []) r (one r),
  b,
  refl,
  All-push (λ q. begins text q.name ≡ true → length q.name ≤ length r.name) ps r
      (λ k d l e. let no : begins text (get_or ps k d).name ≡ false = h k d l in absurd cc) (λ e. omega arith),
)

next-longer : (ps : List Reference) (text : List ℕ) (r : Reference) (best : Found) (b : Bool) → nat_le (length r.name) best.length ≡ b → IsLongest ps text (Some best)
    → begins text r.name ≡ true → IsLongest (ps ++ r ∷ []) text (Some (cond b best (found_of r)))
next-longer ps text r best true t (q, among, fits, is, bound) e = (
  q,
  Contains-append_left ps (r ∷ []) q among,
  fits,
  is,
  All-push (λ p. begins text p.name ≡ true → length p.name ≤ length q.name) ps r bound
      (λ f. let same : best.length ≡ length q.name = ap (λ (x : Found). x.length) is in grind (arith, nat_tests)),
)
next-longer ps text r best false t (q, among, fits, is, bound) e = (
  r,
  Contains-append_right ps (r ∷ []) r (one r),
  e,
  refl,
  All-push (λ p. begins text p.name ≡ true → length p.name ≤ length r.name) ps r
      (within-trans text (length q.name) (length r.name) ps (let same : best.length ≡ length q.name = ap (λ (x : Found). x.length) is in grind (arith, nat_tests)) bound)
      (λ f. omega arith),
)

next : (ps : List Reference) (text : List ℕ) (r : Reference) (best : Option Found) (b : Bool) → begins text r.name ≡ b → IsLongest ps text best
    → IsLongest (ps ++ r ∷ []) text (cond b (Some (longer_of best (found_of r))) best)
next ps text r None false e h = All-push (λ q. begins text q.name ≡ false) ps r h e
next ps text r (Some best) false e (q, among, fits, is, bound) = (
  q,
  Contains-append_left ps (r ∷ []) q among,
  fits,
  is,
  All-push (λ p. begins text p.name ≡ true → length p.name ≤ length q.name) ps r bound (λ f. absurd cc),
)
next ps text r None true e h = next-none ps text r h e
next ps text r (Some best) true e h = next-longer ps text r best _ refl h e

rest : (ps rs : List Reference) (text : List ℕ) (best : Option Found) → IsLongest ps text best → IsLongest (ps ++ rs) text (longest_after best rs text)
rest ps [] text best h = let P : List Reference → Type 0 = λ x. IsLongest x text best in subst P (sym (append-nil ps)) h
rest ps (r ∷ rs) text best h =
    let P : List Reference → Type 0 = λ x. IsLongest x text (longest_after best (r ∷ rs) text) in
    subst P (append_assoc ps (r ∷ []) rs) (rest (ps ++ r ∷ []) rs text _ (next ps text r best _ refl h))

pub longest-IsLongest : (table : List Reference) (text : List ℕ) → IsLongest table text (longest table text)
longest-IsLongest table text = rest [] table text None (All-nil (λ r. begins text r.name ≡ false))

-- a text after which this name doesn't go on begins with it, or doesn't, whatever follows
pub begins-decided : (text more word : List ℕ) → (begins word text && nat_lt (length text) (length word)) ≡ false → begins (text ++ more) word ≡ begins text word
begins-decided text more [] h = refl
begins-decided [] more (w ∷ ws) h = absurd (grind (arith, nat_tests))
begins-decided (c ∷ cs) more (w ∷ ws) h =
    let later : (begins ws cs && nat_lt (length cs) (length ws)) ≡ false → begins (cs ++ more) ws ≡ begins cs ws = begins-decided cs more ws in
    grind (arith, nat_tests)

pub or_first : (x y : Bool) → (x || y) ≡ false → x ≡ false
or_first true y h = h
or_first false y h = refl

pub or_second : (x y : Bool) → (x || y) ≡ false → y ≡ false
or_second true y h = cc
or_second false y h = h

pub longest-decided : (table : List Reference) (text more : List ℕ) (best : Option Found) → may_grow table text ≡ false
    → longest_after best table (text ++ more) ≡ longest_after best table text
longest-decided [] text more best h = refl
longest-decided (r ∷ rs) text more best h =
    rw (begins-decided text more r.name (or_first (goes_on text r) _ h)) (longest-decided rs text more _ (or_second (goes_on text r) _ h))

pub OnFalse-from : (b : Bool) (P : Type 0) → (b ≡ false → P) → OnFalse b P
OnFalse-from true P h = tt
OnFalse-from false P h = h refl
