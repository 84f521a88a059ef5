-- A turn whose entry, if there is one, is older (13.2.6.4.7).
use Rattle.std.specs.Prelude.{◌≡◌, ℕ, suc, ◌+◌, ◌<◌, ◌==◌, Bool, true, false, not, ◌||◌, if◌then◌else◌, List, [], ◌∷◌, ◌++◌, length, Option, Some, None, map, take, slice_get, refl}
use Rattle.std.specs.Option.{is_some, option_map}
use Rattle.std.specs.List.{list_any}
use Rattle.std.proofs.Common.{sym, subst, ap, ◌∙◌, arith}
use Rattle.std.proofs.lemmas.Bool.{lt-ltb}
use Rattle.std.proofs.lemmas.List.Folds.{list_any-append}
use Rattle.std.proofs.Math.Bool.{or-true}
use Rattle.hp_control.specs.declared.element.OpenElement.{OpenElement}
use Rattle.hp_control.specs.declared.question.Crossing.TheVariants.{X1}
use Rattle.hp_control.specs.declared.question.EntryKind.{EntryKind}
use Rattle.hp_control.specs.declared.question.EntryKind.TheVariants as kind
use Rattle.hp_control.specs.KindTests.{within}
use Rattle.hp_control.specs.States.{ControlState}
use Rattle.hp_control.specs.Truth.{answer_of, kind_at, kind_of}
use Rattle.hp_control.specs.Walks.{open_at, scope_at, scope_ends}
use Rattle.hp_control.specs.Adoption.{Spot, Seat, Hidden, left, between, find_name, hides, furthest, block_case, open_case, entry_case, turn_in, turn, goes_on}
use Rattle.hp_control.specs.Apply.{shifted}
use Rattle.hp_control.specs.Faithful.{Split, state_over, StandsOn, IsSaid}
use Rattle.hp_control.specs.Outcome.{is_touch, touches}
use Rattle.hp_control.specs.Plan.{crosses, end_by}
use Rattle.hp_views.specs.declared.walks.Walk.{Walk}
use Rattle.hp_views.specs.declared.walks.Walk.TheVariants.{Found, Stopped, PastAll}
use Rattle.hp_views.specs.OlderIds.{open_below}
use Rattle.hp_views.specs.OwnWalks.{some_map}
use Rattle.hp_views.specs.StackLaws.{full_stack}
use Rattle.hp_views.specs.Walks.{entry_walk}
use Rattle.hp_adoption.specs.AdoptLawsBlock.{older_stack}
use Rattle.hp_adoption.specs.AdoptLawsEntries.{older_list, older_entries, sunk, found_by, whole_name, entry_there, id_in, named_id, name_below}
use Rattle.hp_adoption.specs.AdoptLawsOwn.{MatchesTurn, MeansTurn, walk_means, stays_means, entry_means, hides_on}
use Rattle.hp_adoption.specs.AdoptPlans.{stays, kind_turn, turn_on, turn_plan}

-- an open element is in scope where no end of a scope stands above it
scope_more : (b d : Bool) (o p : Option ℕ) (x : OpenElement) (xs : List OpenElement) (k : ℕ) → within scope_ends x ≡ d → ((j : ℕ) → o ≡ Some j → is_some p ≡ not (hides (take j xs))) → (if b then Some 0 else option_map suc o) ≡ Some k → is_some (if b then Some 0 else (if d then None else option_map suc p)) ≡ not (hides (take k (x ∷ xs)))
scope_more true d o p x xs k m h e =
    let z : 0 ≡ k = cc in
    ap (λ j. not (hides (take j (x ∷ xs)))) z
scope_more false d None p x xs k m h e = absurd (cc)
scope_more false true (Some j) p x xs k m h e =
    let z : suc j ≡ k = cc in
    ap (λ b. not (b || hides (take j xs))) (sym m) ∙ ap (λ i. not (hides (take i (x ∷ xs)))) z
scope_more false false (Some j) p x xs k m h e =
    let z : suc j ≡ k = cc in
    some_map suc p ∙ (h j refl ∙ (ap (λ b. not (b || hides (take j xs))) (sym m) ∙ ap (λ i. not (hides (take i (x ∷ xs)))) z))

scope_hides : (id : ℕ) (es : List OpenElement) (k : ℕ) → open_at id es ≡ Some k → is_some (scope_at id es) ≡ not (hides (take k es))
scope_hides id [] k e = absurd (cc)
scope_hides id (x ∷ xs) k e = scope_more (x.id == id) (within scope_ends x) (open_at id xs) (scope_at id xs) x xs k refl (λ j. scope_hides id xs j) e

take_below : (n k : ℕ) (xs us : List OpenElement) → take (length xs + k) (map (shifted n) xs ++ us) ≡ map (shifted n) xs ++ take k us
take_below n k [] us = ap (λ i. take i us) (let h : 0 + k ≡ k = omega arith in h)
take_below n k (x ∷ xs) us =
    ap (λ i. take i (shifted n x ∷ (map (shifted n) xs ++ us))) (let h : suc (length xs) + k ≡ suc (length xs + k) = omega arith in h)
    ∙ ap (λ l. shifted n x ∷ l) (take_below n k xs us)

hides_below : (s : ControlState) (v : Split) (k : ℕ) → hides (take (length v.change.stack + k) (state_over v s).stack) ≡ (hides v.change.stack || hides (take k (older_stack s v)))
hides_below s v k =
    ap (λ l. hides (take (length v.change.stack + k) l)) (full_stack s v)
    ∙ (ap hides (take_below s.next k v.change.stack (older_stack s v))
    ∙ (list_any-append (within scope_ends) (map (shifted s.next) v.change.stack) (take k (older_stack s v))
    ∙ ap (λ b. b || hides (take k (older_stack s v))) (hides_on s.next v.change.stack)))

-- an older entry that goes is touched
pub touched_first : (s : ControlState) (id : ℕ) (rest : Bool) → id < s.next → (is_touch s X1 (record { crossing = X1; what = id }) || rest) ≡ true
touched_first s id rest l = ap (λ b. b || rest) (lt-ltb id s.next l)

pub touched_block : (s : ControlState) (fostering : Bool) (name : List ℕ) (spot : Spot) (d : ℕ) (o : Option Seat) (c : ControlState) → spot.id < s.next → touches s X1 (turn_in fostering name (block_case spot d o) c) ≡ true
touched_block s fostering name spot d None c l = touched_first s spot.id false l
touched_block s fostering name spot d (Some block) c l = touched_first s spot.id (list_any (is_touch s X1) (left spot.id ∷ map (λ (e : OpenElement). left e.id) (between block (take d c.stack)))) l

crossed_block : (s : ControlState) (v : Split) (fostering : Bool) (name : List ℕ) (spot : Spot) (d : ℕ) (o : Option Seat) → spot.id < s.next → MeansTurn s v fostering name (crosses X1) (block_case spot d o)
crossed_block s v fostering name spot d o l = λ u. touched_block s fostering name spot d o (state_over v s) l

-- where an own end of a scope stands above it, or an older one
shown_means : (s : ControlState) (v : Split) (fostering : Bool) (name : List ℕ) (spot : Spot) (d : ℕ) (a : Bool) (o : Option Seat) → StandsOn s v → spot.id < s.next → MeansTurn s v fostering name (if a then stays v else crosses X1) (if (a || false) then Hidden else block_case spot d o)
shown_means s v fostering name spot d true o st l = stays_means s v fostering name st
shown_means s v fostering name spot d false o st l = crossed_block s v fostering name spot d o l

scope_means : (s : ControlState) (v : Split) (fostering : Bool) (name : List ℕ) (spot : Spot) (d : ℕ) (b : Bool) (o : Option Seat) → StandsOn s v → spot.id < s.next → MeansTurn s v fostering name (kind_turn name v (if not b then kind.InScope else kind.Hidden)) (if (hides v.change.stack || b) then Hidden else block_case spot d o)
scope_means s v fostering name spot d true o st l =
    let P : Bool → Type 0 = λ b. MeansTurn s v fostering name (stays v) (if b then Hidden else block_case spot d o) in
    subst P (sym (or-true (hides v.change.stack))) (stays_means s v fostering name st)
scope_means s v fostering name spot d false o st l = shown_means s v fostering name spot d (hides v.change.stack) o st l

-- by where its element stands in what is left of the older stack
abbrev pub kind_by : Option ℕ → Option ℕ → EntryKind
kind_by opened scoped = if is_some opened then (if is_some scoped then kind.InScope else kind.Hidden) else kind.Closed

standing_means : (s : ControlState) (v : Split) (fostering : Bool) (name : List ℕ) (spot : Spot) (p : Option ℕ) → StandsOn s v → spot.id < s.next → open_at spot.id (older_stack s v) ≡ p → MeansTurn s v fostering name (kind_turn name v (kind_by p (scope_at spot.id (older_stack s v)))) (open_case spot (option_map (λ k. length v.change.stack + k) p) (state_over v s).stack)
standing_means s v fostering name spot None st l e = λ u. touched_first s spot.id false l
standing_means s v fostering name spot (Some k) st l e =
    let c = state_over v s in
    let d = length v.change.stack + k in
    let b = hides (take k (older_stack s v)) in
    let P : Bool → Type 0 = λ x. MeansTurn s v fostering name (kind_turn name v (if x then kind.InScope else kind.Hidden)) (open_case spot (Some d) c.stack) in
    let Q : Bool → Type 0 = λ x. MeansTurn s v fostering name (kind_turn name v (if not b then kind.InScope else kind.Hidden)) (if x then Hidden else block_case spot d (furthest (take d c.stack))) in
    subst P (sym (scope_hides spot.id (older_stack s v) k e))
    (subst Q (sym (hides_below s v k)) (scope_means s v fostering name spot d b (furthest (take d c.stack)) st l))

listed_means : (s : ControlState) (v : Split) (fostering : Bool) (name : List ℕ) (spot : Spot) → StandsOn s v → spot.id < s.next → MeansTurn s v fostering name (kind_turn name v (kind_at spot.id (older_stack s v))) (entry_case (Some spot) (state_over v s).stack)
listed_means s v fostering name spot st l =
    let stack = (state_over v s).stack in
    let P : Option ℕ → Type 0 = λ p. MeansTurn s v fostering name (kind_turn name v (kind_at spot.id (older_stack s v))) (open_case spot p stack) in
    subst P (sym (ap (open_at spot.id) (full_stack s v) ∙ open_below s.next spot.id v.change.stack (older_stack s v) l))
    (standing_means s v fostering name spot (open_at spot.id (older_stack s v)) st l refl)

named_means : (s : ControlState) (v : Split) (fostering : Bool) (name : List ℕ) (o : Option Spot) → StandsOn s v → find_name name (older_list s v) ≡ o → MeansTurn s v fostering name (kind_turn name v (kind_of (id_in o) (older_stack s v))) (entry_case (option_map (sunk (length v.change.formatting)) o) (state_over v s).stack)
named_means s v fostering name None st e = walk_means s v fostering name st
named_means s v fostering name (Some spot) st e = listed_means s v fostering name (sunk (length v.change.formatting) spot) st (name_below s.next name (older_list s v) spot (older_entries s v st) e)

older_means : (s : ControlState) (v : Split) (fostering : Bool) (name : List ℕ) → StandsOn s v → MeansTurn s v fostering name (turn_on fostering name v PastAll) (entry_case (option_map (sunk (length v.change.formatting)) (find_name name (older_list s v))) (state_over v s).stack)
older_means s v fostering name st =
    let o = find_name name (older_list s v) in
    let P : Option ℕ → Type 0 = λ i. MeansTurn s v fostering name (kind_turn name v (kind_of i (older_stack s v))) (entry_case (option_map (sunk (length v.change.formatting)) o) (state_over v s).stack) in
    subst P (sym (named_id name (older_list s v))) (named_means s v fostering name o st refl)

-- ## The turn

turn_means : (s : ControlState) (v : Split) (fostering : Bool) (name : List ℕ) (w : Walk) → StandsOn s v → entry_walk name v.change.formatting ≡ w → MeansTurn s v fostering name (turn_on fostering name v w) (entry_case (found_by s.next v.change.formatting w (find_name name (older_list s v))) (state_over v s).stack)
turn_means s v fostering name (Found k) st e = entry_means s v fostering name k (slice_get v.change.formatting k) st (entry_there name v.change.formatting k e)
turn_means s v fostering name Stopped st e = walk_means s v fostering name st
turn_means s v fostering name PastAll st e = older_means s v fostering name st

pub turn_matches : (fostering : Bool) (name : List ℕ) (s : ControlState) (v : Split) → StandsOn s v → IsSaid v.page (turn fostering name (state_over v s)) → MatchesTurn s v (end_by (answer_of s) (turn_plan fostering name v)) (turn fostering name (state_over v s)) (goes_on name (state_over v s))
turn_matches fostering name s v st u =
    let P : Option Spot → Type 0 = λ o. MeansTurn s v fostering name (turn_plan fostering name v) (entry_case o (state_over v s).stack) in
    subst P (sym (whole_name s v name)) (turn_means s v fostering name (entry_walk name v.change.formatting) st refl) u
