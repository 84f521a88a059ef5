-- Own elements and entries by their ids: those of an older state are below its next one, so that none is found among them.
use Rattle.std.specs.Prelude.{◌≡◌, ℕ, zero, suc, ◌+◌, ◌<◌, ◌≤◌, ◌==◌, Bool, true, false, ◌||◌, if◌then◌else◌, List, [], ◌∷◌, ◌++◌, Option, Some, None, map, take, drop, length, refl}
use Rattle.std.specs.Option.{option_map}
use Rattle.std.specs.List.{take-map}
use Rattle.std.proofs.Common.{sym, ap, ◌∙◌, append_assoc, arith}
use Rattle.std.proofs.lemmas.Bool.{eq-eqb, eqb-true, ne_eqb}
use Rattle.std.proofs.lemmas.List.{length-map, map-append, take-append-le}
use Rattle.hp_control.specs.declared.element.OpenElement.{OpenElement}
use Rattle.hp_control.specs.declared.element.FormattingEntry.{FormattingEntry}
use Rattle.hp_control.specs.declared.element.FormattingEntry.TheVariants.{Marker, Element}
use Rattle.hp_control.specs.States.{AreIds, entry_ids}
use Rattle.hp_control.specs.Walks.{open_at, has_entry, cleared, cleared_by}
use Rattle.hp_control.specs.Acts.{without, without_entry}
use Rattle.hp_control.specs.Apply.{shifted, shifted_entry}
use Rattle.hp_views.specs.declared.walks.Walk.{Walk}
use Rattle.hp_views.specs.declared.walks.Walk.TheVariants.{Found, Stopped, PastAll}
use Rattle.hp_views.specs.OwnWalks.{drop_own}
use Rattle.hp_views.specs.Reading.{step_within}
use Rattle.hp_views.specs.Walks.{deeper, is_found, id_walk, id_entry_walk}

abbrev pub ids : List OpenElement → List ℕ
ids es = map (λ e. e.id) es

-- own ids are told apart as their numbers are
same_number : (n a b : ℕ) (c : Bool) → (a == b) ≡ c → ((n + a) == (n + b)) ≡ c
same_number n a b true h = let e : a ≡ b = eqb-true a b h in eq-eqb (n + a) (n + b) (omega arith)
same_number n a b false h = ne_eqb (n + a) (n + b) (λ e. let z : true ≡ false = sym (eq-eqb a b (omega arith)) ∙ h in cc)

pub own_number : (n a b : ℕ) → ((n + a) == (n + b)) ≡ (a == b)
own_number n a b = same_number n a b (a == b) refl

-- where a walk by an id found it
abbrev pub found_at : Walk → Option ℕ
found_at (Found k) = Some k
found_at Stopped = None
found_at PastAll = None

found_deeper : (w : Walk) → option_map suc (found_at w) ≡ found_at (deeper 1 w)
found_deeper (Found k) = ap Some (omega arith)
found_deeper Stopped = refl
found_deeper PastAll = refl

pub found_still : (w : Walk) → is_found w ≡ is_found (deeper 1 w)
found_still (Found k) = refl
found_still Stopped = refl
found_still PastAll = refl

pub ids_drop : (low next n : ℕ) (es : List OpenElement) → AreIds low next (ids es) → AreIds low next (ids (drop n es))
ids_drop low next zero es h = h
ids_drop low next (suc n) [] h = h
ids_drop low next (suc n) (e ∷ es) h = ids_drop low next n es h.3

-- no older element has an own id
pub open_older : (low next x : ℕ) (es : List OpenElement) → AreIds low next (ids es) → next ≤ x → open_at x es ≡ None
open_older low next x [] h l = refl
open_older low next x (e ∷ es) h l =
    ap (λ b. if b then Some 0 else option_map suc (open_at x es)) (ne_eqb e.id x (λ q. omega (arith, h.1, l, q)))
    ∙ ap (option_map suc) (open_older low next x es h.3 l)

pub open_own : (n id : ℕ) (xs ys : List OpenElement) → open_at (n + id) ys ≡ None → open_at (n + id) (map (shifted n) xs ++ ys) ≡ found_at (id_walk id xs)
open_own n id [] ys h = h
open_own n id (x ∷ xs) ys h =
    ap (λ b. if b then Some 0 else option_map suc (open_at (n + id) (map (shifted n) xs ++ ys))) (own_number n x.id id)
    ∙ elim (x.id == id) as (λ b. (if b then Some 0 else option_map suc (open_at (n + id) (map (shifted n) xs ++ ys))) ≡ found_at (if b then Found 0 else deeper 1 (id_walk id xs))) [
      | true ↦ refl
      | false ↦ ap (option_map suc) (open_own n id xs ys h) ∙ found_deeper (id_walk id xs)
    ]

-- an own element out of mid-list
pub without_own : (n k : ℕ) (xs ys : List OpenElement) → k < length xs → without k (map (shifted n) xs ++ ys) ≡ map (shifted n) (without k xs) ++ ys
without_own n k xs ys h =
    let f : OpenElement → OpenElement = shifted n in
    let fits : k ≤ length (map f xs) = (let e : length (map f xs) ≡ length xs = length-map xs f in omega (arith, h, e)) in
    ap (λ l. l ++ drop (k + 1) (map f xs ++ ys)) (take-append-le k (map f xs) ys fits ∙ take-map f k xs)
    ∙ (ap (λ l. map f (take k xs) ++ l) (drop_own f (k + 1) xs ys (omega (arith, h)))
    ∙ (sym (append_assoc (map f (take k xs)) (map f (drop (k + 1) xs)) ys)
    ∙ ap (λ l. l ++ ys) (sym (map-append f (take k xs) (drop (k + 1) xs)))))

pub id_within : (id : ℕ) (xs : List OpenElement) (k : ℕ) → id_walk id xs ≡ Found k → k < length xs
id_within id [] k e = cc
id_within id (x ∷ xs) k e = step_within (x.id == id) false (id_walk id xs) (length xs) k (λ j. id_within id xs j) e

-- entries
pub has_found : (id : ℕ) (xs : List FormattingEntry) → has_entry id xs ≡ is_found (id_entry_walk id xs)
has_found id [] = refl
has_found id (Marker ∷ xs) = has_found id xs ∙ found_still (id_entry_walk id xs)
has_found id (Element other tag ∷ xs) =
    elim (other == id) as (λ b. (b || has_entry id xs) ≡ is_found (if b then Found 0 else deeper 1 (id_entry_walk id xs))) [
      | true ↦ refl
      | false ↦ has_found id xs ∙ found_still (id_entry_walk id xs)
    ]

pub entries_cleared : (low next : ℕ) (es : List FormattingEntry) → AreIds low next (entry_ids es) → AreIds low next (entry_ids (cleared es))
entries_cleared low next [] h = h
entries_cleared low next (Marker ∷ es) h = h
entries_cleared low next (Element id tag ∷ es) h = entries_cleared low next es h.3

pub entries_cleared_by : (low next n : ℕ) (es : List FormattingEntry) → AreIds low next (entry_ids es) → AreIds low next (entry_ids (cleared_by n es))
entries_cleared_by low next zero es h = h
entries_cleared_by low next (suc n) es h = entries_cleared low next (cleared_by n es) (entries_cleared_by low next n es h)

-- no older entry has an own id
pub no_older_entry : (low next x : ℕ) (es : List FormattingEntry) → AreIds low next (entry_ids es) → next ≤ x → without_entry x es ≡ es
no_older_entry low next x [] h l = refl
no_older_entry low next x (Marker ∷ es) h l = ap (λ r. Marker ∷ r) (no_older_entry low next x es h l)
no_older_entry low next x (Element id tag ∷ es) h l =
    ap (λ b. if b then es else Element id tag ∷ without_entry x es) (ne_eqb id x (λ q. omega (arith, h.1, l, q)))
    ∙ ap (λ r. Element id tag ∷ r) (no_older_entry low next x es h.3 l)

-- the own list without the entry that a walk found
abbrev pub without_found : Walk → List FormattingEntry → List FormattingEntry
without_found (Found k) es = take k es ++ drop (k + 1) es
without_found Stopped es = es
without_found PastAll es = es

found_later : (w : Walk) (e : FormattingEntry) (es : List FormattingEntry) → e ∷ without_found w es ≡ without_found (deeper 1 w) (e ∷ es)
found_later (Found k) e es =
    let one : 1 + k ≡ suc k = omega arith in
    let two : suc k + 1 ≡ suc (k + 1) = omega arith in
    sym (ap (λ n. take n (e ∷ es) ++ drop (n + 1) (e ∷ es)) one ∙ ap (λ n. e ∷ (take k es ++ drop n (e ∷ es))) two)
found_later Stopped e es = refl
found_later PastAll e es = refl

pub entry_own : (n id : ℕ) (xs ys : List FormattingEntry) → without_entry (n + id) ys ≡ ys → without_entry (n + id) (map (shifted_entry n) xs ++ ys) ≡ map (shifted_entry n) (without_found (id_entry_walk id xs) xs) ++ ys
entry_own n id [] ys h = h
entry_own n id (Marker ∷ xs) ys h =
    ap (λ r. Marker ∷ r) (entry_own n id xs ys h)
    ∙ ap (λ l. map (shifted_entry n) l ++ ys) (found_later (id_entry_walk id xs) Marker xs)
entry_own n id (Element other tag ∷ xs) ys h =
    ap (λ b. if b then map (shifted_entry n) xs ++ ys else Element (n + other) tag ∷ without_entry (n + id) (map (shifted_entry n) xs ++ ys)) (own_number n other id)
    ∙ elim (other == id) as (λ b. (if b then map (shifted_entry n) xs ++ ys else Element (n + other) tag ∷ without_entry (n + id) (map (shifted_entry n) xs ++ ys)) ≡ map (shifted_entry n) (without_found (if b then Found 0 else deeper 1 (id_entry_walk id xs)) (Element other tag ∷ xs)) ++ ys) [
      | true ↦ refl
      | false ↦ ap (λ r. Element (n + other) tag ∷ r) (entry_own n id xs ys h) ∙ ap (λ l. map (shifted_entry n) l ++ ys) (found_later (id_entry_walk id xs) (Element other tag) xs)
    ]
