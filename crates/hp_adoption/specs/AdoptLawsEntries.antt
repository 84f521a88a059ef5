-- Own entries on older ones: by their ids they are found and edited in the whole list as in the own one.
use Rattle.std.specs.Prelude.{◌≡◌, ℕ, suc, ◌+◌, ◌<◌, ◌≤◌, ◌==◌, Bool, true, false, ◌||◌, if◌then◌else◌, List, [], ◌∷◌, ◌++◌, length, Option, Some, None, map, take, drop, slice_get, refl}
use Rattle.std.specs.Option.{option_map, is_some}
use Rattle.std.specs.List.{take-map}
use Rattle.std.specs.Str.{bytes_eq}
use Rattle.std.proofs.Common.{sym, subst, ap, ◌∙◌, append_assoc, arith}
use Rattle.std.proofs.lemmas.Bool.{ne_eqb}
use Rattle.std.proofs.lemmas.List.{length-map, length-drop, map-append, take-append-le}
use Rattle.hp_control.specs.declared.element.FormattingEntry.{FormattingEntry}
use Rattle.hp_control.specs.declared.element.FormattingEntry.TheVariants.{Marker, Element}
use Rattle.hp_control.specs.States.{ControlState, AreIds, entry_ids}
use Rattle.hp_control.specs.Walks.{has_entry, last_named, cleared_by}
use Rattle.hp_control.specs.Adoption.{Spot, lower, find_name, find_id, spliced, spliced_at, edit_at}
use Rattle.hp_control.specs.Apply.{applied, shifted_entry}
use Rattle.hp_control.specs.Faithful.{Split, state_over, StandsOn}
use Rattle.hp_views.specs.declared.walks.Walk.{Walk}
use Rattle.hp_views.specs.declared.walks.Walk.TheVariants.{Found, Stopped, PastAll}
use Rattle.hp_views.specs.OwnIds.{own_number, entries_cleared_by}
use Rattle.hp_views.specs.OwnWalks.{drop_own}
use Rattle.hp_views.specs.Quiet.{paged_part}
use Rattle.hp_views.specs.Walks.{deeper, entry_walk}

-- what is left of the older list
abbrev pub older_list : ControlState → Split → List FormattingEntry
older_list s v = cleared_by v.change.cuts s.formatting

-- the list of the whole state
pub whole_list : (s : ControlState) (v : Split) → (state_over v s).formatting ≡ map (shifted_entry s.next) v.change.formatting ++ older_list s v
whole_list s v = paged_part v.page (λ c. c.formatting) (applied v.change s) (λ p c. refl)

pub older_entries : (s : ControlState) (v : Split) → StandsOn s v → AreIds 1 s.next (entry_ids (older_list s v))
older_entries s v st = entries_cleared_by 1 s.next v.change.cuts s.formatting st.older.list_ids

-- a spot by its id in the whole state
abbrev pub lifted : ℕ → Spot → Spot
lifted n spot = record { depth = spot.depth; id = n + spot.id; tag = spot.tag }

lower_lifted : (n : ℕ) (o : Option Spot) → option_map lower (option_map (lifted n) o) ≡ option_map (lifted n) (option_map lower o)
lower_lifted n None = refl
lower_lifted n (Some spot) = refl

-- none of the entries has an own id
abbrev pub HasNoOwn : ℕ → List FormattingEntry → Type 0
HasNoOwn n ys = (id : ℕ) → find_id (n + id) ys ≡ None

find_older : (n x : ℕ) (ys : List FormattingEntry) → AreIds 1 n (entry_ids ys) → n ≤ x → find_id x ys ≡ None
find_older n x [] h l = refl
find_older n x (Marker ∷ ys) h l = ap (option_map lower) (find_older n x ys h l)
find_older n x (Element i tag ∷ ys) h l =
    ap (λ b. if b then Some (record { depth = 0; id = i; tag = tag }) else option_map lower (find_id x ys)) (ne_eqb i x (λ q. omega (arith, h.1, l, q)))
    ∙ ap (option_map lower) (find_older n x ys h.3 l)

pub none_own : (s : ControlState) (v : Split) → StandsOn s v → HasNoOwn s.next (older_list s v)
none_own s v st = λ id. find_older s.next (s.next + id) (older_list s v) (older_entries s v st) (omega arith)

pub find_own : (n id : ℕ) (xs ys : List FormattingEntry) → find_id (n + id) ys ≡ None → find_id (n + id) (map (shifted_entry n) xs ++ ys) ≡ option_map (lifted n) (find_id id xs)
find_own n id [] ys h = h
find_own n id (Marker ∷ xs) ys h = ap (option_map lower) (find_own n id xs ys h) ∙ lower_lifted n (find_id id xs)
find_own n id (Element i tag ∷ xs) ys h =
    ap (λ b. if b then Some (record { depth = 0; id = n + i; tag = tag }) else option_map lower (find_id (n + id) (map (shifted_entry n) xs ++ ys))) (own_number n i id)
    ∙ elim (i == id) as (λ b. (if b then Some (record { depth = 0; id = n + i; tag = tag }) else option_map lower (find_id (n + id) (map (shifted_entry n) xs ++ ys))) ≡ option_map (lifted n) (if b then Some (record { depth = 0; id = i; tag = tag }) else option_map lower (find_id id xs))) [
      | true ↦ refl
      | false ↦ ap (option_map lower) (find_own n id xs ys h) ∙ lower_lifted n (find_id id xs)
    ]

-- whether there is an entry of this id
some_lower : (o : Option Spot) → is_some (option_map lower o) ≡ is_some o
some_lower None = refl
some_lower (Some spot) = refl

some_lifted : (n : ℕ) (o : Option Spot) → is_some (option_map (lifted n) o) ≡ is_some o
some_lifted n None = refl
some_lifted n (Some spot) = refl

pub some_entry : (id : ℕ) (xs : List FormattingEntry) → is_some (find_id id xs) ≡ has_entry id xs
some_entry id [] = refl
some_entry id (Marker ∷ xs) = some_lower (find_id id xs) ∙ some_entry id xs
some_entry id (Element i tag ∷ xs) =
    elim (i == id) as (λ b. is_some (if b then Some (record { depth = 0; id = i; tag = tag }) else option_map lower (find_id id xs)) ≡ (b || has_entry id xs)) [
      | true ↦ refl
      | false ↦ some_lower (find_id id xs) ∙ some_entry id xs
    ]

pub entry_own : (n id : ℕ) (xs ys : List FormattingEntry) → find_id (n + id) ys ≡ None → is_some (find_id (n + id) (map (shifted_entry n) xs ++ ys)) ≡ has_entry id xs
entry_own n id xs ys h = ap is_some (find_own n id xs ys h) ∙ (some_lifted n (find_id id xs) ∙ some_entry id xs)

-- an older id is that of no own entry
has_below : (n id : ℕ) (xs ys : List FormattingEntry) → id < n → has_entry id (map (shifted_entry n) xs ++ ys) ≡ has_entry id ys
has_below n id [] ys l = refl
has_below n id (Marker ∷ xs) ys l = has_below n id xs ys l
has_below n id (Element i tag ∷ xs) ys l =
    ap (λ b. b || has_entry id (map (shifted_entry n) xs ++ ys)) (ne_eqb (n + i) id (λ q. omega (arith, l, q)))
    ∙ has_below n id xs ys l

pub entry_below : (n id : ℕ) (xs ys : List FormattingEntry) → id < n → is_some (find_id id (map (shifted_entry n) xs ++ ys)) ≡ has_entry id ys
entry_below n id xs ys l = some_entry id (map (shifted_entry n) xs ++ ys) ∙ has_below n id xs ys l

-- what is found is there
lowered : (o : Option Spot) (spot : Spot) (n : ℕ) → ((p : Spot) → o ≡ Some p → p.depth < n) → option_map lower o ≡ Some spot → spot.depth < suc n
lowered None spot n h e = absurd (cc)
lowered (Some p) spot n h e =
    let q : lower p ≡ spot = cc in
    let d : suc p.depth ≡ spot.depth = ap (λ (x : Spot). x.depth) q in
    let l : p.depth < n = h p refl in
    omega (arith, d, l)

here_or_lower : (b : Bool) (here spot : Spot) (o : Option Spot) (n : ℕ) → here.depth ≡ 0 → ((p : Spot) → o ≡ Some p → p.depth < n) → (if b then Some here else option_map lower o) ≡ Some spot → spot.depth < suc n
here_or_lower true here spot o n z h e =
    let q : here ≡ spot = cc in
    let d : here.depth ≡ spot.depth = ap (λ (x : Spot). x.depth) q in
    omega (arith, d, z)
here_or_lower false here spot o n z h e = lowered o spot n h e

find_within : (id : ℕ) (xs : List FormattingEntry) (spot : Spot) → find_id id xs ≡ Some spot → spot.depth < length xs
find_within id [] spot e = absurd (cc)
find_within id (Marker ∷ xs) spot e = lowered (find_id id xs) spot (length xs) (λ p. find_within id xs p) e
find_within id (Element i tag ∷ xs) spot e = here_or_lower (i == id) (record { depth = 0; id = i; tag = tag }) spot (find_id id xs) (length xs) refl (λ p. find_within id xs p) e

-- edits
splice_own : {X : Type 0} (f : X → X) (k j : ℕ) (ms xs ys : List X) → k + j ≤ length xs → spliced k j (map f ms) (map f xs ++ ys) ≡ map f (spliced k j ms xs) ++ ys
splice_own f k j ms xs ys h =
    let within : k ≤ length xs = omega (arith, h) in
    let inside : k ≤ length (map f xs) = (let e = length-map xs f in omega (arith, within, e)) in
    let rest : j ≤ length (drop k xs) = omega (arith, h, length-drop k xs) in
    let front : take k (map f xs ++ ys) ≡ map f (take k xs) = take-append-le k (map f xs) ys inside ∙ take-map f k xs in
    let back : drop j (drop k (map f xs ++ ys)) ≡ map f (drop j (drop k xs)) ++ ys = ap (drop j) (drop_own f k xs ys within) ∙ drop_own f j (drop k xs) ys rest in
    ap (λ l. l ++ (map f ms ++ drop j (drop k (map f xs ++ ys)))) front
    ∙ (ap (λ l. map f (take k xs) ++ (map f ms ++ l)) back
    ∙ simp (map-append, append_assoc))

edit_found : (n j : ℕ) (ms xs ys : List FormattingEntry) (o : Option Spot) → ((spot : Spot) → o ≡ Some spot → spot.depth + j ≤ length xs) → spliced_at (option_map (lifted n) o) j (map (shifted_entry n) ms) (map (shifted_entry n) xs ++ ys) ≡ map (shifted_entry n) (spliced_at o j ms xs) ++ ys
edit_found n j ms xs ys None l = refl
edit_found n j ms xs ys (Some spot) l = splice_own (shifted_entry n) spot.depth j ms xs ys (l spot refl)

pub edit_own : (n id j : ℕ) (ms xs ys : List FormattingEntry) → j ≤ 1 → find_id (n + id) ys ≡ None → edit_at (n + id) j (map (shifted_entry n) ms) (map (shifted_entry n) xs ++ ys) ≡ map (shifted_entry n) (edit_at id j ms xs) ++ ys
edit_own n id j ms xs ys l h =
    ap (λ o. spliced_at o j (map (shifted_entry n) ms) (map (shifted_entry n) xs ++ ys)) (find_own n id xs ys h)
    ∙ edit_found n j ms xs ys (find_id id xs) (λ spot e. (let w : spot.depth < length xs = find_within id xs spot e in omega (arith, w, l)))

-- ## By a name

-- an entry that is no marker
abbrev pub IsEntry : Option FormattingEntry → Type 0
IsEntry (Some (Element id tag)) = Unit {0}
IsEntry (Some Marker) = ⊥
IsEntry None = ⊥

there_later : (w : Walk) (x : FormattingEntry) (xs : List FormattingEntry) (k : ℕ) → ((j : ℕ) → w ≡ Found j → IsEntry (slice_get xs j)) → deeper 1 w ≡ Found k → IsEntry (slice_get (x ∷ xs) k)
there_later (Found j) x xs k h e =
    let z : 1 + j ≡ k = cc in
    let y : suc j ≡ k = omega (arith, z) in
    let P : ℕ → Type 0 = λ i. IsEntry (slice_get (x ∷ xs) i) in
    subst P y (h j refl)
there_later Stopped x xs k h e = absurd (cc)
there_later PastAll x xs k h e = absurd (cc)

there_step : (b : Bool) (w : Walk) (x : FormattingEntry) (xs : List FormattingEntry) (k : ℕ) → IsEntry (Some x) → ((j : ℕ) → w ≡ Found j → IsEntry (slice_get xs j)) → (if b then Found 0 else deeper 1 w) ≡ Found k → IsEntry (slice_get (x ∷ xs) k)
there_step true w x xs k i h e =
    let z : 0 ≡ k = cc in
    let P : ℕ → Type 0 = λ j. IsEntry (slice_get (x ∷ xs) j) in
    subst P z i
there_step false w x xs k i h e = there_later w x xs k h e

pub entry_there : (name : List ℕ) (xs : List FormattingEntry) (k : ℕ) → entry_walk name xs ≡ Found k → IsEntry (slice_get xs k)
entry_there name [] k e = absurd (cc)
entry_there name (Marker ∷ xs) k e = absurd (cc)
entry_there name (Element id tag ∷ xs) k e = there_step (bytes_eq name tag.name) (entry_walk name xs) (Element id tag) xs k tt (λ j. entry_there name xs j) e

-- the spot of an own entry in the whole list, and one seen from above the own entries
abbrev pub spot_of : ℕ → ℕ → Option FormattingEntry → Option Spot
spot_of n k (Some (Element id tag)) = Some (record { depth = k; id = n + id; tag = tag })
spot_of n k (Some Marker) = None
spot_of n k None = None

abbrev pub sunk : ℕ → Spot → Spot
sunk n spot = record { depth = n + spot.depth; id = spot.id; tag = spot.tag }

abbrev pub found_by : ℕ → List FormattingEntry → Walk → Option Spot → Option Spot
found_by n xs (Found k) below = spot_of n k (slice_get xs k)
found_by n xs Stopped below = None
found_by n xs PastAll below = option_map (sunk (length xs)) below

spot_lower : (n k : ℕ) (o : Option FormattingEntry) → option_map lower (spot_of n k o) ≡ spot_of n (suc k) o
spot_lower n k None = refl
spot_lower n k (Some Marker) = refl
spot_lower n k (Some (Element id tag)) = refl

sunk_lower : (n : ℕ) (o : Option Spot) → option_map lower (option_map (sunk n) o) ≡ option_map (sunk (suc n)) o
sunk_lower n None = refl
sunk_lower n (Some spot) = ap (λ d. Some (record { depth = d; id = spot.id; tag = spot.tag })) (let h : suc (n + spot.depth) ≡ suc n + spot.depth = omega arith in h)

sunk_none : (o : Option Spot) → o ≡ option_map (sunk 0) o
sunk_none None = refl
sunk_none (Some spot) = ap (λ d. Some (record { depth = d; id = spot.id; tag = spot.tag })) (let h : spot.depth ≡ 0 + spot.depth = omega arith in h)

found_lower : (n : ℕ) (x : FormattingEntry) (xs : List FormattingEntry) (w : Walk) (o : Option Spot) → option_map lower (found_by n xs w o) ≡ found_by n (x ∷ xs) (deeper 1 w) o
found_lower n x xs (Found k) o = spot_lower n k (slice_get xs k) ∙ ap (λ j. spot_of n j (slice_get (x ∷ xs) j)) (let h : suc k ≡ 1 + k = omega arith in h)
found_lower n x xs Stopped o = refl
found_lower n x xs PastAll o = sunk_lower (length xs) o

pub name_own : (n : ℕ) (name : List ℕ) (xs ys : List FormattingEntry) → find_name name (map (shifted_entry n) xs ++ ys) ≡ found_by n xs (entry_walk name xs) (find_name name ys)
name_own n name [] ys = sunk_none (find_name name ys)
name_own n name (Marker ∷ xs) ys = refl
name_own n name (Element id tag ∷ xs) ys =
    elim (bytes_eq name tag.name) as (λ b. (if b then Some (record { depth = 0; id = n + id; tag = tag }) else option_map lower (find_name name (map (shifted_entry n) xs ++ ys))) ≡ found_by n (Element id tag ∷ xs) (if b then Found 0 else deeper 1 (entry_walk name xs)) (find_name name ys)) [
      | true ↦ refl
      | false ↦ ap (option_map lower) (name_own n name xs ys) ∙ found_lower n (Element id tag) xs (entry_walk name xs) (find_name name ys)
    ]

pub whole_name : (s : ControlState) (v : Split) (name : List ℕ) → find_name name (state_over v s).formatting ≡ found_by s.next v.change.formatting (entry_walk name v.change.formatting) (find_name name (older_list s v))
whole_name s v name = ap (find_name name) (whole_list s v) ∙ name_own s.next name v.change.formatting (older_list s v)

-- the id of a spot
abbrev pub id_in : Option Spot → Option ℕ
id_in = option_map (λ spot. spot.id)

id_lower : (o : Option Spot) → id_in (option_map lower o) ≡ id_in o
id_lower None = refl
id_lower (Some spot) = refl

pub named_id : (name : List ℕ) (ys : List FormattingEntry) → last_named name ys ≡ id_in (find_name name ys)
named_id name [] = refl
named_id name (Marker ∷ ys) = refl
named_id name (Element id tag ∷ ys) =
    elim (bytes_eq name tag.name) as (λ b. (if b then Some id else last_named name ys) ≡ id_in (if b then Some (record { depth = 0; id = id; tag = tag }) else option_map lower (find_name name ys))) [
      | true ↦ refl
      | false ↦ named_id name ys ∙ sym (id_lower (find_name name ys))
    ]

-- an older entry of a name has an older id
lower_below : (o : Option Spot) (spot : Spot) (n : ℕ) → ((p : Spot) → o ≡ Some p → p.id < n) → option_map lower o ≡ Some spot → spot.id < n
lower_below None spot n h e = absurd (cc)
lower_below (Some p) spot n h e =
    let q : lower p ≡ spot = cc in
    let d : p.id ≡ spot.id = ap (λ (x : Spot). x.id) q in
    let l : p.id < n = h p refl in
    omega (arith, d, l)

here_or_below : (b : Bool) (here spot : Spot) (o : Option Spot) (n : ℕ) → here.id < n → ((p : Spot) → o ≡ Some p → p.id < n) → (if b then Some here else option_map lower o) ≡ Some spot → spot.id < n
here_or_below true here spot o n l h e =
    let q : here ≡ spot = cc in
    let d : here.id ≡ spot.id = ap (λ (x : Spot). x.id) q in
    omega (arith, d, l)
here_or_below false here spot o n l h e = lower_below o spot n h e

pub name_below : (n : ℕ) (name : List ℕ) (ys : List FormattingEntry) (spot : Spot) → AreIds 1 n (entry_ids ys) → find_name name ys ≡ Some spot → spot.id < n
name_below n name [] spot h e = absurd (cc)
name_below n name (Marker ∷ ys) spot h e = absurd (cc)
name_below n name (Element id tag ∷ ys) spot h e = here_or_below (bytes_eq name tag.name) (record { depth = 0; id = id; tag = tag }) spot (find_name name ys) n h.1 (λ p. name_below n name ys p h.3) e
