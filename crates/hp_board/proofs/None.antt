-- Tests on all statuses before a chunk.
use Rattle.std.proofs.Common.{◌≡◌, ◌+◌, ◌<◌, ◌≤◌, ℕ, zero, suc, List, [], ◌∷◌, length, take, drop, Bool, true, false, not, ◌&&◌, refl, subst, arith}
use Rattle.std.specs.List.{list_all}
use Rattle.hp_board.specs.declared.journal.Status.{Status}
use Rattle.hp_board.specs.Machine.{at, none, is_first}

-- what is false of each status before a chunk
pub none-take : (p : Status → Bool) (ss : List Status) (n : ℕ) → n ≤ length ss → ((k : ℕ) → k < n → p (at ss k) ≡ false) → none p (take n ss) ≡ true
none-take p ss zero l each = refl
none-take p [] (suc n) l each = refl
none-take p (s ∷ ss) (suc n) l each =
    let here : p s ≡ false = each 0 (omega arith) in
    rw here (none-take p ss n (omega arith) (λ k small. each (suc k) (omega arith)))

pub none-all : (p : Status → Bool) (ss : List Status) → ((k : ℕ) → k < length ss → p (at ss k) ≡ false) → none p ss ≡ true
none-all p [] each = refl
none-all p (s ∷ ss) each =
    let here : p s ≡ false = each 0 (omega arith) in
    rw here (none-all p ss (λ k small. each (suc k) (omega arith)))

-- what is true of each status before a chunk
pub all-take : (p : Status → Bool) (ss : List Status) (n : ℕ) → n ≤ length ss → ((k : ℕ) → k < n → p (at ss k) ≡ true) → list_all p (take n ss) ≡ true
all-take p ss zero l each = refl
all-take p [] (suc n) l each = refl
all-take p (s ∷ ss) (suc n) l each =
    let here : p s ≡ true = each 0 (omega arith) in
    rw here (all-take p ss n (omega arith) (λ k small. each (suc k) (omega arith)))

not_true : (a b : Bool) → (not a && b) ≡ true → a ≡ false
not_true true b e = cc
not_true false b e = refl

after_true : (a b : Bool) → (not a && b) ≡ true → b ≡ true
after_true true b e = cc
after_true false b e = e

-- one status more
pub none-more : (p : Status → Bool) (ss : List Status) (n : ℕ) → n < length ss → none p (take n ss) ≡ true → p (at ss n) ≡ false → none p (take (suc n) ss) ≡ true
none-more p [] n l before here = refl
none-more p (s ∷ ss) zero l before here = rw here refl
none-more p (s ∷ ss) (suc n) l before here =
    let first : p s ≡ false = not_true (p s) (none p (take n ss)) before in
    let rest : none p (take n ss) ≡ true = after_true (p s) (none p (take n ss)) before in
    rw first (none-more p ss n (omega arith) rest here)

-- the first behind some of which none passes
pub first-behind : (p : Status → Bool) (ss : List Status) (n k : ℕ) → n ≤ length ss → none p (take n ss) ≡ true → is_first p (drop n ss) k ≡ true → is_first p ss (n + k) ≡ true
first-behind p ss zero k l before first =
    let same : k ≡ 0 + k = omega arith in
    subst (λ (i : ℕ). is_first p ss i ≡ true) same first
first-behind p [] (suc n) k l before first = absurd (omega arith)
first-behind p (s ∷ ss) (suc n) k l before first =
    let here : p s ≡ false = not_true (p s) (none p (take n ss)) before in
    let rest : none p (take n ss) ≡ true = after_true (p s) (none p (take n ss)) before in
    let same : suc (n + k) ≡ suc n + k = omega arith in
    subst (λ (i : ℕ). is_first p (s ∷ ss) i ≡ true) same (rw here (first-behind p ss n k (omega arith) rest first))

-- none passes, before a place and behind it
pub none-joined : (p : Status → Bool) (ss : List Status) (n : ℕ) → none p (take n ss) ≡ true → none p (drop n ss) ≡ true → none p ss ≡ true
none-joined p ss zero before behind = behind
none-joined p [] (suc n) before behind = refl
none-joined p (s ∷ ss) (suc n) before behind =
    let here : p s ≡ false = not_true (p s) (none p (take n ss)) before in
    let rest : none p (take n ss) ≡ true = after_true (p s) (none p (take n ss)) before in
    rw here (none-joined p ss n rest behind)
