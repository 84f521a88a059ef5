-- What ends a text that is searched by whole vectors.
use Rattle.std.proofs.Common.{◌≡◌, ℕ, ◌<◌, ◌≤◌, List, [], ◌∷◌, suc, zero, length, take, drop, get_or, refl, sym, ◌∙◌, ap, subst, arith, Bool, true, false, ◌&&◌, ◌||◌, not, Option, None, Some}
use Rattle.std.specs.Prelude.{◌==◌}
use Rattle.std.specs.Option.{unwrap_or}
use Rattle.std.specs.List.{list_all}
use Rattle.std.proofs.lemmas.Bool.{and_from}
use Rattle.memchr.specs.Find.{IsFirstByte, is_byte3}
use Rattle.hp_tokens.specs.Reading.{PassesFrom}
use Rattle.hp_tokens.specs.Plain.{none_of, whole_raw_stops}

-- n bytes fail the test, and there the list ends or a byte that passes stands
record StopsAt (test : ℕ → Bool) (xs : List ℕ) (n : ℕ) : Type 0 where
  within : n ≤ length xs
  before : (k : ℕ) → k < n → test (get_or xs k 0) ≡ false
  stop : n < length xs → test (get_or xs n 0) ≡ true

no_pass : (b : Bool) → (b ≡ true → ⊥) → b ≡ false
no_pass true h = absurd (h refl)
no_pass false h = refl

-- where the first byte that passes stands, or the end
first_stops : (test : ℕ → Bool) (xs : List ℕ) (r : Option ℕ) → IsFirstByte test xs r → StopsAt test xs (unwrap_or r (length xs))
first_stops test xs None h = record {
  within = omega arith;
  before = λ k lt. no_pass (test (get_or xs k 0)) (h k (omega arith) lt);
  stop = λ lt. absurd (omega (arith, lt));
}
first_stops test xs (Some n) h = record {
  within = omega (arith, h.0.high);
  before = λ k lt. no_pass (test (get_or xs k 0)) (h.0.before k (omega arith) lt);
  stop = λ lt. h.1;
}

stops_at : (test : ℕ → Bool) (xs : List ℕ) (n m : ℕ) (r : Option ℕ) → IsFirstByte test xs r → length xs ≡ n → m ≡ unwrap_or r n → StopsAt test xs m
stops_at test xs n m r h size is =
    let P : ℕ → Type 0 = λ k. StopsAt test xs k in
    subst P (ap (λ (k : ℕ). unwrap_or r k) size ∙ sym is) (first_stops test xs r h)

pub all_from : (p : ℕ → Bool) (n : ℕ) (xs : List ℕ) → n ≤ length xs → ((k : ℕ) → k < n → p (get_or xs k 0) ≡ true) → list_all p (take n xs) ≡ true
all_from p zero xs within h = refl
all_from p (suc n) [] within h = absurd (omega (arith, within))
all_from p (suc n) (x ∷ xs) within h =
    and_from (p x) _ (h 0 (omega arith)) (all_from p n xs (omega (arith, within)) (λ k lt. h (suc k) (omega (arith, lt))))

-- the tests of a search in the order of a list of stops
pass3 : (a b c : Bool) → (c || b || a) ≡ false → (not a && (not b && (not c && true))) ≡ true
pass3 a b true h = cc
pass3 a true false h = cc
pass3 true false false h = cc
pass3 false false false h = refl

stop3 : (a b c : Bool) → (c || b || a) ≡ true → (not a && (not b && (not c && true))) ≡ false
stop3 true b c h = refl
stop3 false true c h = refl
stop3 false false true h = refl
stop3 false false false h = cc

-- `<`, CR or U+0000
raw_passes : (xs : List ℕ) (n : ℕ) → StopsAt (is_byte3 60 13 0) xs n → PassesFrom (none_of whole_raw_stops) xs 0 n
raw_passes xs n first = record {
  within = first.within;
  passes = all_from (none_of whole_raw_stops) n xs first.within (λ k lt.
      let x : ℕ = get_or xs k 0 in pass3 (x == 0) (x == 13) (x == 60) (first.before k lt));
  end = λ lt. let x : ℕ = get_or xs n 0 in stop3 (x == 0) (x == 13) (x == 60) (first.stop lt);
}

-- counted from a place of a text
pub from-place : (p : ℕ → Bool) (text xs : List ℕ) (at n : ℕ) → xs ≡ drop at text → PassesFrom p xs 0 n → PassesFrom p text at n
from-place p text xs at n is run =
    let P : List ℕ → Type 0 = λ ys. (n ≤ length ys) × (list_all p (take n ys) ≡ true) × (n < length ys → p (get_or ys n 0) ≡ false) in
    let moved : (n ≤ length (drop at text)) × (list_all p (take n (drop at text)) ≡ true) × (n < length (drop at text) → p (get_or (drop at text) n 0) ≡ false) =
    subst P is (run.within, run.passes, run.end) in
    record { within = moved.0; passes = moved.1; end = moved.2 }

-- what a search found
pub raw-found : (text xs : List ℕ) (at m : ℕ) (r : Option ℕ) → xs ≡ drop at text → IsFirstByte (is_byte3 60 13 0) xs r
    → m ≡ unwrap_or r (length xs) → PassesFrom (none_of whole_raw_stops) text at m
raw-found text xs at m r cut found is =
    from-place (none_of whole_raw_stops) text xs at m cut (raw_passes xs m (stops_at (is_byte3 60 13 0) xs (length xs) m r found refl is))
