-- A table of numbers that names each kind's first row gives the acts that the rows say.
use Rattle.std.proofs.Common.{◌≡◌, ℕ, ◌+◌, ◌<◌, List, [], ◌∷◌, ◌++◌, length, map, get_or, Option, None, Some, IfSome, unwrap_or, slice_get, zero, suc, Bool, true, false, ◌&&◌, ltb, leb, ◌≤◌, subst, refl, ap, sym, ◌∙◌, arith, add-zero, zero-add, lt_of_lt_of_le}
use Rattle.std.specs.Prelude.{if◌then◌else◌}
use Rattle.std.specs.List.{list_all}
use Rattle.std.proofs.lemmas.Bool.{and_parts, leb-true, ltb-true}
use Rattle.std.proofs.lemmas.Option.{IfSome_then}
use Rattle.std.proofs.lemmas.List.{get_or-append-add, map-append, length-map}
use Rattle.hp_elements.specs.declared.token.Kind.{Kind}
use Rattle.hp_elements.specs.declared.token.Mode.{Mode}
use Rattle.hp_elements.specs.Rules.{Row, is_for, first_for, plan_for, acts_from, acts_of, acts_for, acts_numbered, goes_later, go_later, rows_end}
use Rattle.hp_elements.specs.declared.act.Act.{Act}
use Rattle.hp_elements.specs.Placing.{place_of, every_kind, numbers}
use Rattle.hp_elements.proofs.PlaceLemmas.{value_at, place_below, passes_at}

-- the first row for a token has the acts that the rows say
first_acts : (rows after : List Row) (token : Kind) → first_for rows token < length rows → get_or (map acts_of (rows ++ after)) (first_for rows token) [] ≡ acts_for rows token
first_acts [] after token below = absurd (omega arith)
first_acts (row ∷ rows) after token below = go (is_for row.tokens token) below (first_acts rows after token)
  where
    go : (b : Bool) → (if b then 0 else (1 + first_for rows token)) < length (row ∷ rows) → (first_for rows token < length rows → get_or (map acts_of (rows ++ after)) (first_for rows token) [] ≡ acts_for rows token) → get_or (acts_of row ∷ map acts_of (rows ++ after)) (if b then 0 else (1 + first_for rows token)) [] ≡ acts_from 0 (if b then row.plan else plan_for rows token)
    go true below rest = refl
    go false below rest = get_or-append-add (acts_of row ∷ []) (map acts_of (rows ++ after)) (first_for rows token) [] ∙ rest (omega arith)

-- and it has them also behind other rows
numbered_acts : (before rows after : List Row) (token : Kind) → first_for rows token < length rows → acts_numbered (before ++ (rows ++ after)) (length before + first_for rows token) ≡ acts_for rows token
numbered_acts before rows after token below =
    ap (λ acts. get_or acts (length before + first_for rows token) []) (map-append acts_of before (rows ++ after))
    ∙ ap (λ n. get_or (map acts_of before ++ map acts_of (rows ++ after)) (n + first_for rows token) []) (sym (length-map before acts_of))
    ∙ get_or-append-add (map acts_of before) (map acts_of (rows ++ after)) (first_for rows token) []
    ∙ first_acts rows after token below

-- the row that a table of numbers gives a token
pub row_at : (table : List ℕ) (before rows after : List Row) → table ≡ numbers (length before) rows → list_all (λ n. ltb n (length before + length rows)) table ≡ true → (token : Kind) → acts_numbered (before ++ (rows ++ after)) (get_or table (place_of token) 0) ≡ acts_for rows token
row_at table before rows after same small token =
    let at : get_or table (place_of token) 0 ≡ length before + first_for rows token =
    ap (λ t. get_or t (place_of token) 0) same ∙ value_at (λ k. length before + first_for rows k) token 0 in
    let within : length table ≡ length every_kind = ap (λ t. length t) same ∙ length-map every_kind (λ k. length before + first_for rows k) in
    let in_table : place_of token < length table = rw within (place_below token) in
    let small_at : ltb (get_or table (place_of token) 0) (length before + length rows) ≡ true = passes_at _ table (place_of token) 0 in_table small in
    let below : get_or table (place_of token) 0 < length before + length rows = ltb-true _ _ small_at in
    ap (acts_numbered (before ++ (rows ++ after))) at ∙ numbered_acts before rows after token (omega arith)

-- what a look-up in the table of a token's mode gives
pub row_along : (rows_of : Mode → Option (List Row)) (all : List Row) (table : List ℕ) (mode present : Mode) (token : Kind) (result number place : ℕ) → mode ≡ present → result ≡ number → number ≡ get_or table place 0 → place ≡ place_of token → acts_numbered all (get_or table (place_of token) 0) ≡ acts_for (unwrap_or (rows_of present) []) token → acts_numbered all result ≡ acts_for (unwrap_or (rows_of mode) []) token
row_along rows_of all table mode present token result number place is same read placed here =
    ap (acts_numbered all) (same ∙ read ∙ ap (λ p. get_or table p 0) placed) ∙ here ∙ ap (λ m. acts_for (unwrap_or (rows_of m) []) token) (sym is)

passes_or : {X : Type 0} (p : X → Bool) (xs : List X) (i : ℕ) (d : X) → p d ≡ true → list_all p xs ≡ true → p (get_or xs i d) ≡ true
passes_or p [] i d here h = here
passes_or p (x ∷ xs) zero d here h = (and_parts (p x) (list_all p xs) h).0
passes_or p (x ∷ xs) (suc i) d here h = passes_or p xs i d here (and_parts (p x) (list_all p xs) h).1

later_at : (acts : List Act) (start at : ℕ) → go_later start acts ≡ true → IfSome (slice_get acts at) (λ act. goes_later (start + at) act ≡ true)
later_at [] start at h = tt
later_at (act ∷ acts) start zero h = rw add-zero (and_parts (goes_later start act) (go_later (start + 1) acts) h).0
later_at (act ∷ acts) start (suc at) h =
    let same : start + 1 + at ≡ start + suc at = omega arith in
    subst (λ (n : ℕ). IfSome (slice_get acts at) (λ act. goes_later n act ≡ true)) same (later_at acts (start + 1) at (and_parts (goes_later start act) (go_later (start + 1) acts) h).1)

-- each test goes on behind its own place
pub later_numbered : (all : List Row) (number at : ℕ) → rows_end all ≡ true → IfSome (slice_get (acts_numbered all number) at) (λ act. goes_later at act ≡ true)
later_numbered all number at h =
    let parts = and_parts (go_later 0 (acts_numbered all number)) (leb (length (acts_numbered all number)) 8) (passes_or (λ acts. go_later 0 acts && leb (length acts) 8) (map acts_of all) number [] refl h) in
    subst (λ (n : ℕ). IfSome (slice_get (acts_numbered all number) at) (λ act. goes_later n act ≡ true)) (zero-add at) (later_at (acts_numbered all number) 0 at parts.0)

short_at : {X : Type 0} (xs : List X) (at : ℕ) → IfSome (slice_get xs at) (λ x. at < length xs)
short_at {X} [] at = tt
short_at {X} (x ∷ xs) zero = omega arith
short_at {X} (x ∷ xs) (suc at) = go (slice_get xs at) (short_at xs at)
  where
    go : (o : Option X) → IfSome o (λ x. at < length xs) → IfSome o (λ x. suc at < suc (length xs))
    go None h = tt
    go (Some x) h = omega arith

-- and no row has an act past the eighth
pub short_numbered : (all : List Row) (number at : ℕ) → rows_end all ≡ true → IfSome (slice_get (acts_numbered all number) at) (λ act. at < 8)
short_numbered all number at h =
    let parts = and_parts (go_later 0 (acts_numbered all number)) (leb (length (acts_numbered all number)) 8) (passes_or (λ acts. go_later 0 acts && leb (length acts) 8) (map acts_of all) number [] refl h) in
    let few : length (acts_numbered all number) ≤ 8 = leb-true _ _ parts.1 in
    IfSome_then (slice_get (acts_numbered all number) at) (short_at (acts_numbered all number) at) (λ x below. lt_of_lt_of_le below few)
