-- Reconstruction: its plan does to a view what the act does to the whole state.
use Rattle.std.specs.Prelude.{◌≡◌, ℕ, zero, suc, ◌+◌, ◌<◌, ◌≤◌, ◌==◌, Bool, true, false, ◌||◌, if◌then◌else◌, List, [], ◌∷◌, ◌++◌, length, Option, Some, None, Result, Ok, Err, map, drop, slice_get, slice_set, refl}
use Rattle.std.specs.Option.{is_some, option_map}
use Rattle.std.proofs.Common.{sym, subst, ap, ◌∙◌, arith, length-set}
use Rattle.std.proofs.lemmas.Bool.{lt-ltb, ne_eqb}
use Rattle.hp_elements.specs.declared.tag.Tag.{Tag}
use Rattle.hp_control.specs.declared.edit.Place.{Place}
use Rattle.hp_control.specs.declared.element.OpenElement.{OpenElement}
use Rattle.hp_control.specs.declared.element.FormattingEntry.{FormattingEntry}
use Rattle.hp_control.specs.declared.element.FormattingEntry.TheVariants.{Marker, Element}
use Rattle.hp_control.specs.declared.question.Answer.{Answer}
use Rattle.hp_control.specs.declared.question.Crossing.{Crossing}
use Rattle.hp_control.specs.declared.question.Crossing.TheVariants.{X2}
use Rattle.hp_control.specs.declared.question.Question.{Question}
use Rattle.hp_control.specs.States.{ControlState, AreIds, entry_ids}
use Rattle.hp_control.specs.Walks.{open_at, is_quiet, cleared_by}
use Rattle.hp_control.specs.Truth.{answer_of}
use Rattle.hp_control.specs.Apply.{applied, shifted, shifted_entry}
use Rattle.hp_control.specs.Outcome.{becomes, touches, after}
use Rattle.hp_control.specs.Acts.{insert}
use Rattle.hp_control.specs.Adoption.{renewed_entry, spliced, stale, relist, renew_entry, renew, renew_down, reconstruct}
use Rattle.hp_control.specs.Faithful.{Split, state_over, StandsOn, IsDone, IsSaid, Matches, Faithful, said_first, touches_after}
use Rattle.hp_control.specs.Plan.{Plan, gives, crosses, asks, followed_by, end_by}
use Rattle.hp_views.specs.declared.walks.Walk.{Walk}
use Rattle.hp_views.specs.declared.walks.Walk.TheVariants.{Found, Stopped, PastAll}
use Rattle.hp_views.specs.InsertLaws.{insert_faithful}
use Rattle.hp_views.specs.ListPlans.{with_entries}
use Rattle.hp_views.specs.OwnIds.{found_at, open_own, entries_cleared_by}
use Rattle.hp_views.specs.OwnWalks.{some_map}
use Rattle.hp_views.specs.PlacePlans.{place_plan, insert_at, insert_plan}
use Rattle.hp_views.specs.PopLaws.{nothing_popped}
use Rattle.hp_views.specs.Quiet.{quiet, own_touch, paged_part}
use Rattle.hp_views.specs.Reading.{step_within, yes_read}
use Rattle.hp_views.specs.RemoveLaws.{none_older, own_id_new}
use Rattle.hp_views.specs.StackLaws.{full_stack}
use Rattle.hp_views.specs.Walks.{deeper, id_walk, is_found}
use Rattle.hp_adoption.specs.Following.{matches_then}
use Rattle.hp_adoption.specs.ReconPlans.{is_settled, stale_walk, relisted, renew_on, renew_plan, renew_down_plan, recon_older, recon_below, recon_on, reconstruct_plan}

-- the list of the whole state: own entries on what is left of the older ones
pub full_list : (s : ControlState) (v : Split) → (state_over v s).formatting ≡ map (shifted_entry s.next) v.change.formatting ++ cleared_by v.change.cuts s.formatting
full_list s v = paged_part v.page (λ c. c.formatting) (applied v.change s) (λ p c. refl)

-- an own entry in the place of another
relist_own : (n k : ℕ) (e : FormattingEntry) (xs ys : List FormattingEntry) → k < length xs → map (shifted_entry n) (slice_set xs k e) ++ ys ≡ spliced k 1 (shifted_entry n e ∷ []) (map (shifted_entry n) xs ++ ys)
relist_own n k e [] ys h = absurd (omega (arith, h))
relist_own n zero e (x ∷ xs) ys h = refl
relist_own n (suc k) e (x ∷ xs) ys h = ap (λ l. shifted_entry n x ∷ l) (relist_own n k e xs ys (omega (arith, h)))

pub entry_own_at : (n k : ℕ) (xs ys : List FormattingEntry) → k < length xs → slice_get (map (shifted_entry n) xs ++ ys) k ≡ option_map (shifted_entry n) (slice_get xs k)
entry_own_at n k [] ys h = absurd (omega (arith, h))
entry_own_at n zero (x ∷ xs) ys h = refl
entry_own_at n (suc k) (x ∷ xs) ys h = entry_own_at n k xs ys (omega (arith, h))

entry_past_own : (n m : ℕ) (xs ys : List FormattingEntry) → slice_get (map (shifted_entry n) xs ++ ys) (length xs + m) ≡ slice_get ys m
entry_past_own n m [] ys = ap (slice_get ys) (let e : 0 + m ≡ m = omega arith in e)
entry_past_own n m (x ∷ xs) ys =
    ap (slice_get (shifted_entry n x ∷ (map (shifted_entry n) xs ++ ys))) (let e : suc (length xs) + m ≡ suc (length xs + m) = omega arith in e)
    ∙ entry_past_own n m xs ys

relist_done : (s : ControlState) (v : Split) (depth id : ℕ) (tag : Tag) → StandsOn s v → depth < length v.change.formatting → IsDone s v (relisted depth tag v) (relist depth (s.next + id) tag (state_over v s))
relist_done s v depth id tag st h =
    own_touch s v (relisted depth tag v) (renewed_entry (s.next + id)) (becomes (record (state_over v s) { formatting = spliced depth 1 (Element (state_over v s).next tag ∷ []) (state_over v s).formatting })) (own_id_new s id)
    (quiet s v (with_entries (slice_set v.change.formatting depth (Element v.change.made tag)) v.change) (λ c. record c { formatting = spliced depth 1 (Element c.next tag ∷ []) c.formatting }) st refl (λ p c. refl)
    (ap (λ l. record (applied v.change s) { formatting = l }) (relist_own s.next depth (Element v.change.made tag) v.change.formatting (cleared_by v.change.cuts s.formatting) h)))

renew_case : (s : ControlState) (v : Split) (fostering : Bool) (depth : ℕ) (o : Option FormattingEntry) → StandsOn s v → depth < length v.change.formatting → IsSaid v.page (renew_entry fostering (option_map (shifted_entry s.next) o) depth (state_over v s)) → Matches s v (end_by (answer_of s) (renew_on fostering depth v o)) (renew_entry fostering (option_map (shifted_entry s.next) o) depth (state_over v s))
renew_case s v fostering depth None st h u = nothing_popped s v st
renew_case s v fostering depth (Some Marker) st h u = nothing_popped s v st
renew_case s v fostering depth (Some (Element id tag)) st h u =
    matches_then s v (gives (relisted depth tag v)) (insert_plan fostering tag) (relist depth (s.next + id) tag) (insert fostering tag) st u
    (relist_done s v depth id tag st h) (λ w e d t. insert_faithful fostering tag s w d.stands refl t)

-- the element of an own entry is made anew
renew_way : (s : ControlState) (v : Split) (fostering : Bool) (depth : ℕ) → StandsOn s v → depth < length v.change.formatting → IsSaid v.page (renew fostering depth (state_over v s)) → Matches s v (end_by (answer_of s) (renew_plan fostering depth v)) (renew fostering depth (state_over v s))
renew_way s v fostering depth st h u =
    let e = ap (λ l. slice_get l depth) (full_list s v) ∙ entry_own_at s.next depth v.change.formatting (cleared_by v.change.cuts s.formatting) h in
    let P : Option FormattingEntry → Type 0 = λ o. IsSaid v.page (renew_entry fostering o depth (state_over v s)) → Matches s v (end_by (answer_of s) (renew_plan fostering depth v)) (renew_entry fostering o depth (state_over v s)) in
    subst P (sym e) (renew_case s v fostering depth (slice_get v.change.formatting depth) st h) u

abbrev list_in : Result Split Crossing → List FormattingEntry
list_in (Ok w) = w.change.formatting
list_in (Err crossing) = []

insert_keeps : (says : Question → Answer) (p : Plan Place) (tag : Tag) (v w : Split) → end_by says (followed_by p (λ q. gives (insert_at tag v q))) ≡ Ok w → w.change.formatting ≡ v.change.formatting
insert_keeps says (gives x) tag v w e = sym (ap list_in e)
insert_keeps says (crosses x) tag v w e = absurd (cc)
insert_keeps says (asks q go) tag v w e = insert_keeps says (go (says q)) tag v w e

keeps_on : (says : Question → Answer) (v w : Split) (fostering : Bool) (depth : ℕ) (o : Option FormattingEntry) → end_by says (renew_on fostering depth v o) ≡ Ok w → length w.change.formatting ≡ length v.change.formatting
keeps_on says v w fostering depth None e = sym (ap (λ r. length (list_in r)) e)
keeps_on says v w fostering depth (Some Marker) e = sym (ap (λ r. length (list_in r)) e)
keeps_on says v w fostering depth (Some (Element id tag)) e =
    ap length (insert_keeps says (place_plan fostering (relisted depth tag v)) tag (relisted depth tag v) w e)
    ∙ length-set v.change.formatting depth (Element v.change.made tag)

renew_keeps : (says : Question → Answer) (v w : Split) (fostering : Bool) (depth : ℕ) → end_by says (renew_plan fostering depth v) ≡ Ok w → length w.change.formatting ≡ length v.change.formatting
renew_keeps says v w fostering depth e = keeps_on says v w fostering depth (slice_get v.change.formatting depth) e

-- those of so many own entries
pub down_way : (s : ControlState) (fostering : Bool) (count : ℕ) (v : Split) → StandsOn s v → count ≤ length v.change.formatting → IsSaid v.page (renew_down fostering count (state_over v s)) → Matches s v (end_by (answer_of s) (renew_down_plan fostering count v)) (renew_down fostering count (state_over v s))
down_way s fostering zero v st h u = nothing_popped s v st
down_way s fostering (suc d) v st h u =
    let c = state_over v s in
    matches_then s v (renew_plan fostering d v) (renew_down_plan fostering d) (renew fostering d) (renew_down fostering d) st u
    (renew_way s v fostering d st (omega (arith, h)) (said_first v.page (renew fostering d c) (renew_down fostering d (renew fostering d c).control) u))
    (λ w e done t. down_way s fostering d w done.stands (let k = renew_keeps (answer_of s) v w fostering d e in omega (arith, h, k)) t)

-- how many entries are made anew, by where the own list ends them
abbrev stale_by : Walk → ℕ → ℕ → ℕ
stale_by (Found k) n below = k
stale_by Stopped n below = n + below
stale_by PastAll n below = n + below

stale_deeper : (w : Walk) (n below : ℕ) → suc (stale_by w n below) ≡ stale_by (deeper 1 w) (suc n) below
stale_deeper (Found k) n below = omega arith
stale_deeper Stopped n below = omega arith
stale_deeper PastAll n below = omega arith

some_found : (w : Walk) → is_some (found_at w) ≡ is_found w
some_found (Found k) = refl
some_found Stopped = refl
some_found PastAll = refl

stale_full : (n : ℕ) (so sr : List OpenElement) → ((id : ℕ) → open_at (n + id) sr ≡ None) → (xs ys : List FormattingEntry) → stale (map (shifted n) so ++ sr) (map (shifted_entry n) xs ++ ys) ≡ stale_by (stale_walk so xs) (length xs) (stale (map (shifted n) so ++ sr) ys)
stale_full n so sr none [] ys = omega arith
stale_full n so sr none (Marker ∷ xs) ys = refl
stale_full n so sr none (Element id tag ∷ xs) ys =
    let full = map (shifted n) so ++ sr in
    ap (λ b. if b then 0 else suc (stale full (map (shifted_entry n) xs ++ ys))) (ap is_some (open_own n id so sr (none id)) ∙ some_found (id_walk id so))
    ∙ elim (is_found (id_walk id so)) as (λ b. (if b then 0 else suc (stale full (map (shifted_entry n) xs ++ ys))) ≡ stale_by (if b then Found 0 else deeper 1 (stale_walk so xs)) (suc (length xs)) (stale full ys)) [
      | true ↦ refl
      | false ↦ ap suc (stale_full n so sr none xs ys) ∙ stale_deeper (stale_walk so xs) (length xs) (stale full ys)
    ]

stale_within : (so : List OpenElement) (xs : List FormattingEntry) (k : ℕ) → stale_walk so xs ≡ Found k → k < length xs
stale_within so [] k e = cc
stale_within so (x ∷ xs) k e = step_within (is_settled so x) false (stale_walk so xs) (length xs) k (λ j. stale_within so xs j) e

-- what is open below is open
open_below : (id : ℕ) (xs sr : List OpenElement) → is_some (open_at id sr) ≡ true → is_some (open_at id (xs ++ sr)) ≡ true
open_below id [] sr h = h
open_below id (x ∷ xs) sr h =
    elim (x.id == id) as (λ b. is_some (if b then Some 0 else option_map suc (open_at id (xs ++ sr))) ≡ true) [
      | true ↦ refl
      | false ↦ some_map suc (open_at id (xs ++ sr)) ∙ open_below id xs sr h
    ]

-- an older element is none of the own ones
pub open_skip : (n id : ℕ) (xs sr : List OpenElement) → id < n → is_some (open_at id (map (shifted n) xs ++ sr)) ≡ is_some (open_at id sr)
open_skip n id [] sr h = refl
open_skip n id (x ∷ xs) sr h =
    ap (λ b. is_some (if b then Some 0 else option_map suc (open_at id (map (shifted n) xs ++ sr)))) (ne_eqb (n + x.id) id (λ q. omega (arith, h, q)))
    ∙ (some_map suc (open_at id (map (shifted n) xs ++ sr)) ∙ open_skip n id xs sr h)

quiet_stale : (n : ℕ) (so sr : List OpenElement) (ys : List FormattingEntry) → is_quiet sr ys ≡ true → stale (map (shifted n) so ++ sr) ys ≡ 0
quiet_stale n so sr [] h = refl
quiet_stale n so sr (Marker ∷ es) h = refl
quiet_stale n so sr (Element id tag ∷ es) h = ap (λ b. if b then 0 else suc (stale (map (shifted n) so ++ sr) es)) (open_below id (map (shifted n) so) sr h)

loud_stale : (n : ℕ) (so sr : List OpenElement) (ys : List FormattingEntry) → AreIds 1 n (entry_ids ys) → is_quiet sr ys ≡ false → (m : ℕ) × (stale (map (shifted n) so ++ sr) ys ≡ suc m)
loud_stale n so sr [] a h = absurd (cc)
loud_stale n so sr (Marker ∷ es) a h = absurd (cc)
loud_stale n so sr (Element id tag ∷ es) a h = (stale (map (shifted n) so ++ sr) es, ap (λ b. if b then 0 else suc (stale (map (shifted n) so ++ sr) es)) (open_skip n id so sr a.1 ∙ h))

-- an entry of an older state that is made anew
record OlderEntry (n m : ℕ) (ys : List FormattingEntry) : Type 0 where
  id : ℕ
  tag : Tag
  there : slice_get ys m ≡ Some (Element id tag)
  below : id < n

older_step : (n m id : ℕ) (tag : Tag) (stack : List OpenElement) (es : List FormattingEntry) (b : Bool) → id < n → ((k : ℕ) → k < stale stack es → OlderEntry n k es) → m < (if b then 0 else suc (stale stack es)) → OlderEntry n m (Element id tag ∷ es)
older_step n m id tag stack es true l next h = absurd (omega (arith, h))
older_step n zero id tag stack es false l next h = record { id = id; tag = tag; there = refl; below = l }
older_step n (suc m) id tag stack es false l next h = let r = next m (omega (arith, h)) in record { id = r.id; tag = r.tag; there = r.there; below = r.below }

older_at : (n : ℕ) (stack : List OpenElement) (ys : List FormattingEntry) (m : ℕ) → AreIds 1 n (entry_ids ys) → m < stale stack ys → OlderEntry n m ys
older_at n stack [] m a h = absurd (omega (arith, h))
older_at n stack (Marker ∷ es) m a h = absurd (omega (arith, h))
older_at n stack (Element id tag ∷ es) m a h = older_step n m id tag stack es (is_some (open_at id stack)) a.1 (λ k. older_at n stack es k a.3) h

older_touched : (s : ControlState) (fostering : Bool) (d : ℕ) (c : ControlState) (id : ℕ) (tag : Tag) → id < s.next → touches s X2 (after (renew_entry fostering (Some (Element id tag)) d c) (renew_down fostering d (renew_entry fostering (Some (Element id tag)) d c).control)) ≡ true
older_touched s fostering d c id tag l =
    let first = relist d id tag c in
    let second = insert fostering tag first.control in
    let rest = renew_down fostering d second.control in
    let t : touches s X2 first ≡ true = ap (λ b. b || false) (lt-ltb id s.next l) in
    touches_after s X2 (after first second) rest
    ∙ ap (λ b. b || touches s X2 rest) (touches_after s X2 first second ∙ ap (λ b. b || touches s X2 second) t)

older_anew : (s : ControlState) (fostering : Bool) (d : ℕ) (c : ControlState) (id : ℕ) (tag : Tag) → slice_get c.formatting d ≡ Some (Element id tag) → id < s.next → touches s X2 (renew_down fostering (suc d) c) ≡ true
older_anew s fostering d c id tag e l =
    let P : Option FormattingEntry → Type 0 = λ o. touches s X2 (after (renew_entry fostering o d c) (renew_down fostering d (renew_entry fostering o d c).control)) ≡ true in
    subst P (sym e) (older_touched s fostering d c id tag l)

-- what is left of the older stack and list
abbrev sr_of : ControlState → Split → List OpenElement
sr_of s v = drop v.change.popped s.stack

abbrev ys_of : ControlState → Split → List FormattingEntry
ys_of s v = cleared_by v.change.cuts s.formatting

abbrev stale_older : ControlState → Split → ℕ
stale_older s v = stale (map (shifted s.next) v.change.stack ++ sr_of s v) (ys_of s v)

ids_older : (s : ControlState) (v : Split) → StandsOn s v → AreIds 1 s.next (entry_ids (ys_of s v))
ids_older s v st = entries_cleared_by 1 s.next v.change.cuts s.formatting st.older.list_ids

loud_way : (s : ControlState) (v : Split) (fostering : Bool) → StandsOn s v → is_quiet (sr_of s v) (ys_of s v) ≡ false → touches s X2 (renew_down fostering (length v.change.formatting + stale_older s v) (state_over v s)) ≡ true
loud_way s v fostering st q =
    let n = length v.change.formatting in
    let a = ids_older s v st in
    let r = loud_stale s.next v.change.stack (sr_of s v) (ys_of s v) a q in
    let total : n + stale_older s v ≡ suc (n + r.0) = (let e = r.1 in omega (arith, e)) in
    let o = older_at s.next (map (shifted s.next) v.change.stack ++ sr_of s v) (ys_of s v) r.0 a (let e = r.1 in omega (arith, e)) in
    let P : ℕ → Type 0 = λ k. touches s X2 (renew_down fostering k (state_over v s)) ≡ true in
    subst P (sym total) (older_anew s fostering (n + r.0) (state_over v s) o.id o.tag
    (ap (λ l. slice_get l (n + r.0)) (full_list s v) ∙ (entry_past_own s.next r.0 v.change.formatting (ys_of s v) ∙ o.there)) o.below)

older_way : (s : ControlState) (v : Split) (fostering : Bool) (b : Bool) → StandsOn s v → is_quiet (sr_of s v) (ys_of s v) ≡ b → IsSaid v.page (renew_down fostering (length v.change.formatting + stale_older s v) (state_over v s)) → Matches s v (end_by (answer_of s) (recon_older fostering v b)) (renew_down fostering (length v.change.formatting + stale_older s v) (state_over v s))
older_way s v fostering true st q u =
    let n = length v.change.formatting in
    let z = quiet_stale s.next v.change.stack (sr_of s v) (ys_of s v) q in
    let e : n + stale_older s v ≡ n = omega (arith, z) in
    let P : ℕ → Type 0 = λ k. IsSaid v.page (renew_down fostering k (state_over v s)) → Matches s v (end_by (answer_of s) (renew_down_plan fostering n v)) (renew_down fostering k (state_over v s)) in
    subst P (sym e) (down_way s fostering n v st (let l : n ≤ n = omega arith in l)) u
older_way s v fostering false st q u = loud_way s v fostering st q

below_way : (s : ControlState) (v : Split) (fostering : Bool) → StandsOn s v → IsSaid v.page (renew_down fostering (length v.change.formatting + stale_older s v) (state_over v s)) → Matches s v (end_by (answer_of s) (recon_below fostering v)) (renew_down fostering (length v.change.formatting + stale_older s v) (state_over v s))
below_way s v fostering st u =
    let q = is_quiet (sr_of s v) (ys_of s v) in
    let P : Bool → Type 0 = λ b. Matches s v (end_by (answer_of s) (recon_older fostering v b)) (renew_down fostering (length v.change.formatting + stale_older s v) (state_over v s)) in
    subst P (sym (yes_read q)) (older_way s v fostering q st refl u)

recon_way : (s : ControlState) (v : Split) (fostering : Bool) (w : Walk) → StandsOn s v → stale_walk v.change.stack v.change.formatting ≡ w → IsSaid v.page (renew_down fostering (stale_by w (length v.change.formatting) (stale_older s v)) (state_over v s)) → Matches s v (end_by (answer_of s) (recon_on fostering v w)) (renew_down fostering (stale_by w (length v.change.formatting) (stale_older s v)) (state_over v s))
recon_way s v fostering (Found k) st e u = down_way s fostering k v st (let l = stale_within v.change.stack v.change.formatting k e in omega (arith, l)) u
recon_way s v fostering Stopped st e u = below_way s v fostering st u
recon_way s v fostering PastAll st e u = below_way s v fostering st u

pub reconstruct_faithful : (fostering : Bool) → Faithful (reconstruct_plan fostering) (reconstruct fostering)
reconstruct_faithful fostering = λ s v st fit u.
    let c = state_over v s in
    let full = map (shifted s.next) v.change.stack ++ sr_of s v in
    let e = ap (λ es. stale es c.formatting) (full_stack s v) ∙ (ap (stale full) (full_list s v) ∙ stale_full s.next v.change.stack (sr_of s v) (λ id. none_older s v id st) v.change.formatting (ys_of s v)) in
    let P : ℕ → Type 0 = λ k. IsSaid v.page (renew_down fostering k c) → Matches s v (end_by (answer_of s) (reconstruct_plan fostering v)) (renew_down fostering k c) in
    subst P (sym e) (recon_way s v fostering (stale_walk v.change.stack v.change.formatting) st refl) u
