-- One entry more, and the last tally raised.
use Rattle.std.proofs.Common.{◌≡◌, ◌≢◌, ◌+◌, ◌-◌, ◌<◌, ◌≤◌, ◌++◌, ◌==◌, ◌&&◌, ◌||◌, ◌^◌, ℕ, List, [], ◌∷◌, Bool, true, false, cond, length, count_by, nat_lt, min, refl, sym, ap, subst, ◌∙◌, arith, rules, zero, suc}
use Rattle.std.proofs.lemmas.List.Recursion.{is_count_by}
use Rattle.std.proofs.lemmas.List.Sums.{count_by-le-length}
use Rattle.std.specs.List.{list_all}
use Rattle.hp_board.specs.Calls.{AreNumbered, IsBoardOf}
use Rattle.hp_board.specs.Desk.{Desk, SamePage}
use Rattle.hp_board.specs.Tallies.{IsRaised}
use Rattle.hp_board.specs.declared.journal.Entry.{Entry}
use Rattle.hp_board.specs.declared.tally.Tally.{Tally}
use Rattle.hp_workers.specs.Turns.{StaysOf}

first_true : (a b : Bool) → (a && b) ≡ true → a ≡ true
first_true true b e = refl
first_true false b e = e

second_true : (a b : Bool) → (a && b) ≡ true → b ≡ true
second_true true b e = e
second_true false b e = absurd cc

both_true : (a b : Bool) → a ≡ true → b ≡ true → (a && b) ≡ true
both_true true true p q = refl
both_true true false p q = absurd cc
both_true false b p q = absurd cc

later_by : (b : Bool) (m n k : ℕ) → m ≡ n + k → cond b (1 + m) m ≡ cond b (1 + n) n + k
later_by true m n k e = omega (arith, e)
later_by false m n k e = e

-- one where it is so
abbrev one_if : Bool → ℕ
one_if b = cond b 1 0

only_one : (b : Bool) → cond b (1 + 0) 0 ≡ 0 + cond b 1 0
only_one true = refl
only_one false = refl

none_split : (b : Bool) (n : ℕ) → cond b (1 + n) n ≡ 0 → (b ≡ false) × (n ≡ 0)
none_split true n e = absurd (omega (arith, e))
none_split false n e = (refl, e)

module _ {X : Type 0} where
  abbrev many : (X → Bool) → List X → ℕ
  many p [] = 0
  many p (x ∷ xs) = cond (p x) (1 + many p xs) (many p xs)

  many_is : (p : X → Bool) (xs : List X) → many p xs ≡ count_by p xs
  many_is p xs = is_count_by (many p) p refl (λ y ys. refl) xs

  many_push : (p : X → Bool) (xs : List X) (y : X) → many p (xs ++ y ∷ []) ≡ many p xs + cond (p y) 1 0
  many_push p [] y = only_one (p y)
  many_push p (x ∷ xs) y = later_by (p x) (many p (xs ++ y ∷ [])) (many p xs) (cond (p y) 1 0) (many_push p xs y)

  pub count_push : (p : X → Bool) (xs : List X) (y : X) → count_by p (xs ++ y ∷ []) ≡ count_by p xs + cond (p y) 1 0
  count_push p xs y = sym (many_is p (xs ++ y ∷ [])) ∙ (many_push p xs y ∙ ap (λ n. n + cond (p y) 1 0) (many_is p xs))

  none_first : (p : X → Bool) (x : X) (xs : List X) → count_by p (x ∷ xs) ≡ 0 → (p x ≡ false) × (count_by p xs ≡ 0)
  none_first p x xs e =
      let r = none_split (p x) (many p xs) (many_is p (x ∷ xs) ∙ e) in
      (r.0, sym (many_is p xs) ∙ r.1)

  pub all_push : (p : X → Bool) (xs : List X) (y : X) → list_all p xs ≡ true → p y ≡ true → list_all p (xs ++ y ∷ []) ≡ true
  all_push p [] y all one = both_true (p y) true one refl
  all_push p (x ∷ xs) y all one = both_true (p x) (list_all p (xs ++ y ∷ [])) (first_true (p x) (list_all p xs) all) (all_push p xs y (second_true (p x) (list_all p xs) all) one)

  all_split : (p : X → Bool) (xs : List X) (y : X) → list_all p (xs ++ y ∷ []) ≡ true → (list_all p xs ≡ true) × (p y ≡ true)
  all_split p [] y all = (refl, first_true (p y) true all)
  all_split p (x ∷ xs) y all =
      let rest = all_split p xs y (second_true (p x) (list_all p (xs ++ y ∷ [])) all) in
      (both_true (p x) (list_all p xs) (first_true (p x) (list_all p (xs ++ y ∷ [])) all) rest.0, rest.1)

-- the tally says as many entries as the journal has with its number
abbrev is_counted : List Entry → Tally → Bool
is_counted journal t = t.entries == count_by (λ (e : Entry). e.worker == t.worker) journal

same_numbers : (a b : ℕ) → (a == b) ≡ true → a ≡ b
same_numbers a b e = grind (arith, e)

-- tallies of others stay counted
others_stay : (journal : List Entry) (e : Entry) (others : List Tally) → e.worker ≡ 64 → count_by (λ (t : Tally). t.worker == 64) others ≡ 0 → list_all (is_counted journal) others ≡ true
    → list_all (is_counted (journal ++ e ∷ [])) others ≡ true
others_stay journal e [] by none all = refl
others_stay journal e (t ∷ ts) by none all =
    let apart = none_first (λ (t : Tally). t.worker == 64) t ts none in
    let mine = first_true (is_counted journal t) (list_all (is_counted journal) ts) all in
    let other : (e.worker == t.worker) ≡ false = differ e.worker t.worker by apart.0 in
    let same : count_by (λ (x : Entry). x.worker == t.worker) (journal ++ e ∷ []) ≡ count_by (λ (x : Entry). x.worker == t.worker) journal =
    count_push (λ (x : Entry). x.worker == t.worker) journal e ∙ ap (λ b. count_by (λ (x : Entry). x.worker == t.worker) journal + cond b 1 0) other ∙ plus_none (count_by (λ (x : Entry). x.worker == t.worker) journal) in
    both_true (is_counted (journal ++ e ∷ []) t) (list_all (is_counted (journal ++ e ∷ [])) ts) (ap (λ n. t.entries == n) same ∙ mine) (others_stay journal e ts by apart.1 (second_true (is_counted journal t) (list_all (is_counted journal) ts) all))
  where
    differ : (a b : ℕ) → a ≡ 64 → (b == 64) ≡ false → (a == b) ≡ false
    differ a b x y = grind (arith, x, y)

    plus_none : (n : ℕ) → n + 0 ≡ n
    plus_none n = omega arith

-- the raised tally is counted
main_stays : (journal : List Entry) (e : Entry) (tally later : Tally) → e.worker ≡ tally.worker → IsRaised tally later → length journal < 2 ^ 64 - 1 → is_counted journal tally ≡ true → is_counted (journal ++ e ∷ []) later ≡ true
main_stays journal e tally later by raised short mine =
    let was : tally.entries ≡ count_by (λ (x : Entry). x.worker == tally.worker) journal = same_numbers tally.entries _ mine in
    let few = count_by-le-length (λ (x : Entry). x.worker == tally.worker) journal in
    let test : (e.worker == tally.worker) ≡ true = grind (arith, by) in
    let now : count_by (λ (x : Entry). x.worker == tally.worker) (journal ++ e ∷ []) ≡ count_by (λ (x : Entry). x.worker == tally.worker) journal + 1 =
    count_push (λ (x : Entry). x.worker == tally.worker) journal e ∙ ap (λ b. count_by (λ (x : Entry). x.worker == tally.worker) journal + cond b 1 0) test in
    let is : later.entries ≡ count_by (λ (x : Entry). x.worker == tally.worker) (journal ++ e ∷ []) = omega (arith, raised.entries, was, few, now, short) in
    let moved : later.entries ≡ count_by (λ (x : Entry). x.worker == later.worker) (journal ++ e ∷ []) = subst (λ w. later.entries ≡ count_by (λ (x : Entry). x.worker == w) (journal ++ e ∷ [])) (sym raised.worker) is in
    equal_is later.entries _ moved
  where
    equal_is : (a b : ℕ) → a ≡ b → (a == b) ≡ true
    equal_is a b e = grind (arith, e)

length_same : (xs : List Tally) (a b : Tally) → length (xs ++ b ∷ []) ≡ length (xs ++ a ∷ [])
length_same [] a b = refl
length_same (x ∷ xs) a b = ap (λ n. suc n) (length_same xs a b)

or_true : (b : Bool) → (b || true) ≡ true
or_true true = refl
or_true false = refl

-- main made one step, and its tally is last
pub stays_push : (desk new : Desk) (tally later : Tally) (e : Entry) → SamePage desk new → new.journal ≡ desk.journal ++ e ∷ [] → e.worker ≡ tally.worker → IsRaised tally later → tally.worker ≡ 64 → length desk.journal < 2 ^ 64 - 1
    → StaysOf desk tally new later
stays_push desk new tally later e page journal by raised main short others text cuts o =
    let same : (w : ℕ) → count_by (λ (t : Tally). t.worker == w) (others ++ later ∷ []) ≡ count_by (λ (t : Tally). t.worker == w) (others ++ tally ∷ []) = λ w.
    count_push (λ (t : Tally). t.worker == w) others later ∙ (ap (λ v. count_by (λ (t : Tally). t.worker == w) others + cond (v == w) 1 0) raised.worker ∙ sym (count_push (λ (t : Tally). t.worker == w) others tally)) in
    let is64 : (tally.worker == 64) ≡ true = grind (arith, main) in
    let none : count_by (λ (t : Tally). t.worker == 64) others ≡ 0 = omega (arith, o.numbered.main, count_push (λ (t : Tally). t.worker == 64) others tally, ap one_if is64) in
    let parts = all_split (is_counted desk.journal) others tally o.counted in
    let by64 : e.worker ≡ 64 = by ∙ main in
    let borne : (nat_lt e.worker desk.workers || (e.worker == 64)) ≡ true = rw by64 (or_true (nat_lt 64 desk.workers)) in
    record {
      text = page.text ∙ o.text;
      cuts = page.cuts ∙ o.cuts;
      numbered = rw page.workers (record {
        each = λ w less. same w ∙ o.numbered.each w less;
        main = same 64 ∙ o.numbered.main;
        count = length_same others tally later ∙ o.numbered.count;
      });
      borne = rw (page.workers, journal) (all_push (λ (x : Entry). nat_lt x.worker desk.workers || (x.worker == 64)) desk.journal e o.borne borne);
      counted = rw journal (all_push (is_counted (desk.journal ++ e ∷ [])) others later (others_stay desk.journal e others by64 none parts.0) (main_stays desk.journal e tally later by raised short parts.1));
    }

-- entries by some of the workers are by some of more workers
pub borne_by_more : (few more : ℕ) (journal : List Entry) → few ≤ more → list_all (λ (e : Entry). nat_lt e.worker few || (e.worker == 64)) journal ≡ true → list_all (λ (e : Entry). nat_lt e.worker more || (e.worker == 64)) journal ≡ true
borne_by_more few more [] small all = refl
borne_by_more few more (e ∷ es) small all =
    both_true (nat_lt e.worker more || (e.worker == 64)) (list_all (λ (x : Entry). nat_lt x.worker more || (x.worker == 64)) es)
    (or_more (nat_lt e.worker few) (nat_lt e.worker more) (e.worker == 64) (λ is. grind (arith, is, small)) (first_true (nat_lt e.worker few || (e.worker == 64)) (list_all (λ (x : Entry). nat_lt x.worker few || (x.worker == 64)) es) all))
    (borne_by_more few more es small (second_true (nat_lt e.worker few || (e.worker == 64)) (list_all (λ (x : Entry). nat_lt x.worker few || (x.worker == 64)) es) all))
  where
    or_more : (a b c : Bool) → (a ≡ true → b ≡ true) → (a || c) ≡ true → (b || c) ≡ true
    or_more true b c up is = ap (λ x. x || c) (up refl)
    or_more false b true up is = or_true b
    or_more false b false up is = absurd cc
