-- How true answers are read, and that a walk ends within its list.
use Rattle.std.specs.Prelude.{◌≡◌, ℕ, suc, ◌+◌, ◌-◌, ◌<◌, ◌≤◌, ◌^◌, Bool, true, false, ◌&&◌, if◌then◌else◌, nat_le, nat_lt, List, [], ◌∷◌, Option, Some, None, length, drop, refl}
use Rattle.std.specs.Option.{option_map, is_some}
use Rattle.std.proofs.Common.{ap, ◌∙◌, arith}
use Rattle.std.proofs.lemmas.Bool.{le-leb, lt-ltb}
use Rattle.std.proofs.lemmas.List.{length-drop}
use Rattle.hp_elements.specs.declared.kinds.Kinds.{Kinds}
use Rattle.hp_control.specs.declared.element.OpenElement.{OpenElement}
use Rattle.hp_control.specs.declared.question.Answer.TheVariants as answer
use Rattle.hp_control.specs.declared.question.EntryKind.TheVariants.{Closed, Hidden, InScope}
use Rattle.hp_control.specs.KindTests.{within}
use Rattle.hp_control.specs.Walks.{reach, run_of, open_at, scope_at}
use Rattle.hp_control.specs.Truth.{yes_or_no, depth_answer, kind_of, pointer_answer, away_or}
use Rattle.hp_views.specs.declared.walks.Walk.{Walk}
use Rattle.hp_views.specs.declared.walks.Walk.TheVariants.{Found, Stopped, PastAll}
use Rattle.hp_views.specs.Asking.{is_yes, depth_from, count_in, pointed_in, pointed_at}
use Rattle.hp_views.specs.ListPlans.{is_there}
use Rattle.hp_views.specs.StackPlans.{is_pointed}
use Rattle.hp_views.specs.Walks.{walk_of, run_walk, deeper}

pub yes_read : (b : Bool) → is_yes (yes_or_no b) ≡ b
yes_read true = refl
yes_read false = refl

kind_there : (a b : Bool) → is_there (if a then (if b then InScope else Hidden) else Closed) ≡ true
kind_there true true = refl
kind_there true false = refl
kind_there false b = refl

pub listed_read : (o : Option ℕ) (stack : List OpenElement) → is_there (kind_of o stack) ≡ is_some o
listed_read None stack = refl
listed_read (Some id) stack = kind_there (is_some (open_at id stack)) (is_some (scope_at id stack))

one_more : (b d : Bool) (o : Option ℕ) (n k : ℕ) → ((j : ℕ) → o ≡ Some j → j < n) → (if b then Some 0 else (if d then None else option_map suc o)) ≡ Some k → k < suc n
one_more true d o n k h e = let z : 0 ≡ k = cc in omega arith
one_more false true o n k h e = cc
one_more false false None n k h e = cc
one_more false false (Some j) n k h e = let z : suc j ≡ k = cc in let l : j < n = h j refl in omega arith

pub reach_within : (goals stops : Kinds) (xs : List OpenElement) (k : ℕ) → reach goals stops xs ≡ Some k → k < length xs
reach_within goals stops [] k e = cc
reach_within goals stops (x ∷ xs) k e = one_more (within goals x) (within stops x) (reach goals stops xs) (length xs) k (λ j. reach_within goals stops xs j) e

pub depth_back : (depth n : ℕ) (o : Option ℕ) → ((k : ℕ) → o ≡ Some k → k < n - depth) → n < 2 ^ 60 → depth_from depth (depth_answer depth o) ≡ o
depth_back depth n None short l = refl
depth_back depth n (Some k) short l =
    let h : k < n - depth = short k refl in
    let a : nat_le depth (depth + k) ≡ true = le-leb depth (depth + k) (omega arith) in
    let b : nat_lt (depth + k) (2 ^ 60) ≡ true = lt-ltb (depth + k) (2 ^ 60) (omega arith) in
    let c : depth + k - depth ≡ k = omega arith in
    ap (λ t. if t && nat_lt (depth + k) (2 ^ 60) then Some (depth + k - depth) else None) a
    ∙ (ap (λ t. if t then Some (depth + k - depth) else None) b ∙ ap Some c)

-- a true depth is read as itself
pub depth_read : (goals stops : Kinds) (st : List OpenElement) (depth : ℕ) → length st < 2 ^ 60 → depth_from depth (depth_answer depth (reach goals stops (drop depth st))) ≡ reach goals stops (drop depth st)
depth_read goals stops st depth short = depth_back depth (length st) (reach goals stops (drop depth st)) (λ k r. let l : k < length (drop depth st) = reach_within goals stops (drop depth st) k r in omega (arith, length-drop depth st)) short

run_step : (b : Bool) (k n : ℕ) → k ≤ n → (if b then suc k else 0) ≤ suc n
run_step true k n h = omega arith
run_step false k n h = omega arith

pub run_within : (names : Kinds) (xs : List OpenElement) → run_of names xs ≤ length xs
run_within names [] = omega arith
run_within names (x ∷ xs) = run_step (within names x) (run_of names xs) (length xs) (run_within names xs)

-- a true count is read as itself
pub count_read : (names : Kinds) (st : List OpenElement) (depth : ℕ) → length st < 2 ^ 60 → count_in (answer.Count (run_of names (drop depth st))) ≡ run_of names (drop depth st)
count_read names st depth short =
    let l : run_of names (drop depth st) ≤ length (drop depth st) = run_within names (drop depth st) in
    ap (λ t. if t then run_of names (drop depth st) else 0) (lt-ltb (run_of names (drop depth st)) (2 ^ 60) (omega (arith, length-drop depth st)))

pub pointed_read : (depth : ℕ) (o : Option ℕ) → is_pointed (pointed_at depth o) ≡ true
pointed_read depth None = refl
pointed_read depth (Some k) = refl

away_read : (depth : ℕ) (o : Option ℕ) → is_pointed (pointed_in depth (away_or depth o)) ≡ true
away_read depth None = refl
away_read depth (Some k) = pointed_read depth (depth_from depth (answer.Depth (depth + k)))

-- whether the form pointer points anywhere
pub form_read : (depth : ℕ) (o : Option ℕ) (st : List OpenElement) → is_pointed (pointed_in depth (pointer_answer depth o st)) ≡ is_some o
form_read depth None st = refl
form_read depth (Some id) st = away_read depth (scope_at id st)

deeper_within : (w : Walk) (n k : ℕ) → ((j : ℕ) → w ≡ Found j → j < n) → deeper 1 w ≡ Found k → k < suc n
deeper_within (Found j) n k h e = let z : 1 + j ≡ k = cc in let l : j < n = h j refl in omega arith
deeper_within Stopped n k h e = cc
deeper_within PastAll n k h e = cc

pub step_within : (b d : Bool) (w : Walk) (n k : ℕ) → ((j : ℕ) → w ≡ Found j → j < n) → (if b then Found 0 else (if d then Stopped else deeper 1 w)) ≡ Found k → k < suc n
step_within true d w n k h e = let z : 0 ≡ k = cc in omega arith
step_within false true w n k h e = cc
step_within false false w n k h e = deeper_within w n k h e

pub walk_within : (goals stops : Kinds) (xs : List OpenElement) (k : ℕ) → walk_of goals stops xs ≡ Found k → k < length xs
walk_within goals stops [] k e = cc
walk_within goals stops (x ∷ xs) k e = step_within (within goals x) (within stops x) (walk_of goals stops xs) (length xs) k (λ j. walk_within goals stops xs j) e

run_found : (b : Bool) (w : Walk) (n k : ℕ) → ((j : ℕ) → w ≡ Found j → j < n) → (if b then deeper 1 w else Found 0) ≡ Found k → k < suc n
run_found true w n k h e = deeper_within w n k h e
run_found false w n k h e = let z : 0 ≡ k = cc in omega arith

pub run_walk_within : (names : Kinds) (xs : List OpenElement) (k : ℕ) → run_walk names xs ≡ Found k → k < length xs
run_walk_within names [] k e = cc
run_walk_within names (x ∷ xs) k e = run_found (within names x) (run_walk names xs) (length xs) k (λ j. run_walk_within names xs j) e
