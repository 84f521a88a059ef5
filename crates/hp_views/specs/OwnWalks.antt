-- A walk over own items that stand on older ones: by where it ends among the own ones.
use Rattle.std.specs.Prelude.{◌≡◌, ℕ, suc, ◌+◌, ◌≤◌, Bool, true, false, if◌then◌else◌, List, [], ◌∷◌, ◌++◌, Option, Some, None, length, map, drop, refl}
use Rattle.std.specs.Option.{option_map, is_some}
use Rattle.std.specs.List.{drop-map}
use Rattle.std.specs.Str.{bytes_eq}
use Rattle.std.proofs.Common.{ap, ◌∙◌, arith}
use Rattle.std.proofs.lemmas.List.{drop-append-le, length-map}
use Rattle.hp_elements.specs.declared.kinds.Kinds.{Kinds}
use Rattle.hp_elements.specs.declared.kinds.Kinds.TheVariants as kinds
use Rattle.hp_control.specs.declared.element.OpenElement.{OpenElement}
use Rattle.hp_control.specs.declared.element.FormattingEntry.{FormattingEntry}
use Rattle.hp_control.specs.declared.element.FormattingEntry.TheVariants.{Marker, Element}
use Rattle.hp_control.specs.KindTests.{within}
use Rattle.hp_control.specs.Walks.{seen, reach, run_of, cleared, last_named}
use Rattle.hp_control.specs.Apply.{shifted, shifted_entry}
use Rattle.hp_views.specs.declared.walks.Walk.{Walk}
use Rattle.hp_views.specs.declared.walks.Walk.TheVariants.{Found, Stopped, PastAll}
use Rattle.hp_views.specs.Walks.{deeper, walk_of, run_walk, entry_walk, marker_of}

-- seen, by the walk over the own ones and by what is seen below
abbrev pub seen_by : Walk → Bool → Bool
seen_by (Found k) below = true
seen_by Stopped below = false
seen_by PastAll below = below

abbrev pub reach_by : Walk → ℕ → Option ℕ → Option ℕ
reach_by (Found k) n below = Some k
reach_by Stopped n below = None
reach_by PastAll n below = option_map (λ k. n + k) below

abbrev pub run_by : Walk → ℕ → ℕ → ℕ
run_by (Found k) n below = k
run_by Stopped n below = n + below
run_by PastAll n below = n + below

suc_twice : (n : ℕ) (o : Option ℕ) → option_map suc (option_map (λ k. n + k) o) ≡ option_map (λ k. suc n + k) o
suc_twice n None = refl
suc_twice n (Some k) = ap Some (omega arith)

reach_deeper : (w : Walk) (n : ℕ) (o : Option ℕ) → option_map suc (reach_by w n o) ≡ reach_by (deeper 1 w) (suc n) o
reach_deeper (Found k) n o = ap Some (omega arith)
reach_deeper Stopped n o = refl
reach_deeper PastAll n o = suc_twice n o

same_option : (o : Option ℕ) → o ≡ option_map (λ k. 0 + k) o
same_option None = refl
same_option (Some k) = ap Some (omega arith)

pub reach_own : (n : ℕ) (goals stops : Kinds) (xs ys : List OpenElement) → reach goals stops (map (shifted n) xs ++ ys) ≡ reach_by (walk_of goals stops xs) (length xs) (reach goals stops ys)
reach_own n goals stops [] ys = same_option (reach goals stops ys)
reach_own n goals stops (x ∷ xs) ys =
    elim (within goals x) as (λ b. (if b then Some 0 else (if within stops x then None else option_map suc (reach goals stops (map (shifted n) xs ++ ys)))) ≡ reach_by (if b then Found 0 else (if within stops x then Stopped else deeper 1 (walk_of goals stops xs))) (suc (length xs)) (reach goals stops ys)) [
      | true ↦ refl
      | false ↦ elim (within stops x) as (λ b. (if b then None else option_map suc (reach goals stops (map (shifted n) xs ++ ys))) ≡ reach_by (if b then Stopped else deeper 1 (walk_of goals stops xs)) (suc (length xs)) (reach goals stops ys)) [
        | true ↦ refl
        | false ↦ ap (option_map suc) (reach_own n goals stops xs ys) ∙ reach_deeper (walk_of goals stops xs) (length xs) (reach goals stops ys)
      ]
    ]

pub some_map : (f : ℕ → ℕ) (o : Option ℕ) → is_some (option_map f o) ≡ is_some o
some_map f None = refl
some_map f (Some k) = refl

some_by : (w : Walk) (n : ℕ) (o : Option ℕ) → is_some (reach_by w n o) ≡ seen_by w (is_some o)
some_by (Found k) n o = refl
some_by Stopped n o = refl
some_by PastAll n o = some_map (λ k. n + k) o

pub seen_own : (n : ℕ) (goals stops : Kinds) (xs ys : List OpenElement) → seen goals stops (map (shifted n) xs ++ ys) ≡ seen_by (walk_of goals stops xs) (seen goals stops ys)
seen_own n goals stops xs ys = ap is_some (reach_own n goals stops xs ys) ∙ some_by (walk_of goals stops xs) (length xs) (reach goals stops ys)

run_deeper : (w : Walk) (n k : ℕ) → suc (run_by w n k) ≡ run_by (deeper 1 w) (suc n) k
run_deeper (Found j) n k = omega arith
run_deeper Stopped n k = omega arith
run_deeper PastAll n k = omega arith

pub run_own : (n : ℕ) (names : Kinds) (xs ys : List OpenElement) → run_of names (map (shifted n) xs ++ ys) ≡ run_by (run_walk names xs) (length xs) (run_of names ys)
run_own n names [] ys = omega arith
run_own n names (x ∷ xs) ys =
    elim (within names x) as (λ b. (if b then suc (run_of names (map (shifted n) xs ++ ys)) else 0) ≡ run_by (if b then deeper 1 (run_walk names xs) else Found 0) (suc (length xs)) (run_of names ys)) [
      | true ↦ ap suc (run_own n names xs ys) ∙ run_deeper (run_walk names xs) (length xs) (run_of names ys)
      | false ↦ refl
    ]

-- a walk without a stop doesn't stop
abbrev pub is_stopped : Walk → Bool
is_stopped (Found k) = false
is_stopped Stopped = true
is_stopped PastAll = false

stopped_deeper : (w : Walk) → is_stopped (deeper 1 w) ≡ is_stopped w
stopped_deeper (Found k) = refl
stopped_deeper Stopped = refl
stopped_deeper PastAll = refl

pub never_stopped : (goals : Kinds) (xs : List OpenElement) → is_stopped (walk_of goals kinds.Nothing xs) ≡ false
never_stopped goals [] = refl
never_stopped goals (x ∷ xs) =
    elim (within goals x) as (λ b. is_stopped (if b then Found 0 else deeper 1 (walk_of goals kinds.Nothing xs)) ≡ false) [
      | true ↦ refl
      | false ↦ stopped_deeper (walk_of goals kinds.Nothing xs) ∙ never_stopped goals xs
    ]

some_deeper : (w : Walk) (b : Bool) → seen_by w b ≡ seen_by (deeper 1 w) b
some_deeper (Found k) b = refl
some_deeper Stopped b = refl
some_deeper PastAll b = refl

-- an entry of that name after the last marker
pub listed_own : (n : ℕ) (name : List ℕ) (xs ys : List FormattingEntry) → is_some (last_named name (map (shifted_entry n) xs ++ ys)) ≡ seen_by (entry_walk name xs) (is_some (last_named name ys))
listed_own n name [] ys = refl
listed_own n name (Marker ∷ xs) ys = refl
listed_own n name (Element id tag ∷ xs) ys =
    elim (bytes_eq name tag.name) as (λ b. is_some (if b then Some (n + id) else last_named name (map (shifted_entry n) xs ++ ys)) ≡ seen_by (if b then Found 0 else deeper 1 (entry_walk name xs)) (is_some (last_named name ys))) [
      | true ↦ refl
      | false ↦ listed_own n name xs ys ∙ some_deeper (entry_walk name xs) (is_some (last_named name ys))
    ]

-- the list after a clearing, by where the last own marker stands
abbrev pub cleared_with : Walk → List FormattingEntry → List FormattingEntry → List FormattingEntry
cleared_with (Found k) own older = drop (k + 1) own ++ older
cleared_with Stopped own older = cleared older
cleared_with PastAll own older = cleared older

cleared_deeper : (w : Walk) (e : FormattingEntry) (es older : List FormattingEntry) → cleared_with w es older ≡ cleared_with (deeper 1 w) (e ∷ es) older
cleared_deeper (Found k) e es older = ap (λ n. drop n (e ∷ es) ++ older) (let h : suc (k + 1) ≡ 1 + k + 1 = omega arith in h)
cleared_deeper Stopped e es older = refl
cleared_deeper PastAll e es older = refl

pub cleared_own : (n : ℕ) (xs ys : List FormattingEntry) → cleared (map (shifted_entry n) xs ++ ys) ≡ cleared_with (marker_of xs) (map (shifted_entry n) xs) ys
cleared_own n [] ys = refl
cleared_own n (Marker ∷ xs) ys = refl
cleared_own n (Element id tag ∷ xs) ys = cleared_own n xs ys ∙ cleared_deeper (marker_of xs) (Element (n + id) tag) (map (shifted_entry n) xs) ys

-- own items taken off the top
pub drop_own : {X : Type 0} (f : X → X) (k : ℕ) (xs ys : List X) → k ≤ length xs → drop k (map f xs ++ ys) ≡ map f (drop k xs) ++ ys
drop_own f k xs ys h = drop-append-le k (map f xs) ys (rw length-map h) ∙ ap (λ l. l ++ ys) (drop-map f k xs)

-- all own items taken off, and some of those below
pub drop_below : {X : Type 0} (f : X → X) (k : ℕ) (xs ys : List X) → drop (length xs + k) (map f xs ++ ys) ≡ drop k ys
drop_below f k [] ys = ap (λ n. drop n ys) (omega arith)
drop_below f k (x ∷ xs) ys = ap (λ n. drop n (f x ∷ (map f xs ++ ys))) (let h : suc (length xs) + k ≡ suc (length xs + k) = omega arith in h) ∙ drop_below f k xs ys
