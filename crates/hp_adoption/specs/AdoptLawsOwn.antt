-- A turn whose entry is an own one, or whose name has no entry (13.2.6.4.7).
use Rattle.std.specs.Prelude.{◌≡◌, ℕ, ◌+◌, ◌<◌, ◌≤◌, Bool, true, false, ◌||◌, if◌then◌else◌, List, [], ◌∷◌, length, Option, Some, None, Result, Ok, Err, map, take, refl}
use Rattle.std.specs.Option.{option_map}
use Rattle.std.proofs.Common.{sym, subst, ap, ◌∙◌, arith}
use Rattle.hp_elements.specs.declared.kinds.Kinds.TheVariants as kinds
use Rattle.hp_elements.specs.declared.sets.SetName.TheVariants as sets
use Rattle.hp_elements.specs.declared.tag.Tag.{Tag}
use Rattle.hp_control.specs.declared.element.OpenElement.{OpenElement}
use Rattle.hp_control.specs.declared.element.FormattingEntry.{FormattingEntry}
use Rattle.hp_control.specs.declared.element.FormattingEntry.TheVariants.{Marker, Element}
use Rattle.hp_control.specs.declared.question.Crossing.{Crossing}
use Rattle.hp_control.specs.KindTests.{within}
use Rattle.hp_control.specs.States.{ControlState}
use Rattle.hp_control.specs.Truth.{answer_of}
use Rattle.hp_control.specs.Walks.{scope_ends}
use Rattle.hp_control.specs.Acts.{pop_by, walk}
use Rattle.hp_control.specs.Adoption.{Spot, Seat, Case, Unlisted, Closed, Hidden, Tangled, removed, edit_at, hides, nearer, furthest, block_case, open_case, entry_case, strike, turn_in, again}
use Rattle.hp_control.specs.Apply.{applied, shifted}
use Rattle.hp_control.specs.Faithful.{Split, state_over, StandsOn, IsDone, IsSaid, Matches, said_first, then_done}
use Rattle.hp_control.specs.Outcome.{Outcome, becomes, touches, after}
use Rattle.hp_control.specs.Plan.{Plan, gives, followed_by, end_by}
use Rattle.hp_control.specs.Running.{on_end, end_then}
use Rattle.hp_views.specs.declared.walks.Walk.{Walk}
use Rattle.hp_views.specs.declared.walks.Walk.TheVariants.{Found, Stopped, PastAll}
use Rattle.hp_views.specs.ClosingLaws.{walk_faithful}
use Rattle.hp_views.specs.ClosingPlans.{walk_plan}
use Rattle.hp_views.specs.ListPlans.{with_entries}
use Rattle.hp_views.specs.OwnIds.{found_at, id_within}
use Rattle.hp_views.specs.PopLaws.{own_pops, nothing_popped}
use Rattle.hp_views.specs.Quiet.{quiet, own_touch}
use Rattle.hp_views.specs.RemoveLaws.{full_open, own_id_new}
use Rattle.hp_views.specs.StackPlans.{own_popped}
use Rattle.hp_views.specs.Walks.{id_walk}
use Rattle.hp_adoption.specs.AdoptLawsBlock.{whole_front, untangle_matches}
use Rattle.hp_adoption.specs.AdoptLawsClimb.{seat_on}
use Rattle.hp_adoption.specs.AdoptLawsEntries.{older_list, none_own, edit_own, IsEntry, spot_of}
use Rattle.hp_adoption.specs.AdoptPlans.{Turned, struck, untangle_plan, block_turn, stays, own_turn, entry_turn, walk_turn}

-- a turn was taken, and it is known whether there may be another
pub record TurnsTo (s : ControlState) (v : Split) (t : Turned) (o : Outcome) (more : Bool) : Type 0 where
  pub done : IsDone s v t.split o
  pub right : t.goes_on ≡ more

abbrev pub MatchesTurn : ControlState → Split → Result Turned Crossing → Outcome → Bool → Type 0
MatchesTurn s v (Ok t) o more = TurnsTo s v t o more
MatchesTurn s v (Err crossing) o more = touches s crossing o ≡ true

-- the plan means the turn of that case
abbrev pub MeansTurn : ControlState → Split → Bool → List ℕ → Plan Turned → Case → Type 0
MeansTurn s v fostering name plan k = IsSaid v.page (turn_in fostering name k (state_over v s)) → MatchesTurn s v (end_by (answer_of s) plan) (turn_in fostering name k (state_over v s)) (again k)

turned_on : (s : ControlState) (v : Split) (o : Outcome) (more : Bool) (e : Result Split Crossing) → Matches s v e o → MatchesTurn s v (on_end e (λ w. Ok (record { split = w; goes_on = more }))) o more
turned_on s v o more (Ok w) m = record { done = m; right = refl }
turned_on s v o more (Err crossing) m = m

pub turned : (s : ControlState) (v : Split) (o : Outcome) (more : Bool) (p : Plan Split) → Matches s v (end_by (answer_of s) p) o → MatchesTurn s v (end_by (answer_of s) (followed_by p (λ w. gives (record { split = w; goes_on = more })))) o more
turned s v o more p m =
    let P : Result Turned Crossing → Type 0 = λ e. MatchesTurn s v e o more in
    subst P (sym (end_then (answer_of s) p (λ w. gives (record { split = w; goes_on = more })))) (turned_on s v o more (end_by (answer_of s) p) m)

-- the name has no entry
pub walk_means : (s : ControlState) (v : Split) (fostering : Bool) (name : List ℕ) → StandsOn s v → MeansTurn s v fostering name (walk_turn name v) Unlisted
walk_means s v fostering name st = λ u. turned s v (walk name (state_over v s)) false (walk_plan name v) (walk_faithful name s v st refl u)

pub stays_means : (s : ControlState) (v : Split) (fostering : Bool) (name : List ℕ) → StandsOn s v → MeansTurn s v fostering name (stays v) Hidden
stays_means s v fostering name st = λ u. record { done = nothing_popped s v st; right = refl }

-- the list without an own entry
struck_done : (s : ControlState) (v : Split) (k id : ℕ) (tag : Tag) → StandsOn s v → IsDone s v (struck id v) (strike (record { depth = k; id = s.next + id; tag = tag }) (state_over v s))
struck_done s v k id tag st =
    own_touch s v (struck id v) (removed (s.next + id)) (becomes (record (state_over v s) { formatting = edit_at (s.next + id) 1 [] (state_over v s).formatting })) (own_id_new s id)
    (quiet s v (with_entries (edit_at id 1 [] v.change.formatting) v.change) (λ c. record c { formatting = edit_at (s.next + id) 1 [] c.formatting }) st refl (λ p c. refl)
    (ap (λ l. record (applied v.change s) { formatting = l }) (sym (edit_own s.next id 1 [] v.change.formatting (older_list s v) (let l : 1 ≤ 1 = omega arith in l) (none_own s v st id)))))

closed_means : (s : ControlState) (v : Split) (fostering : Bool) (name : List ℕ) (k id : ℕ) (tag : Tag) → StandsOn s v → MeansTurn s v fostering name (stays (struck id v)) (Closed (record { depth = k; id = s.next + id; tag = tag }))
closed_means s v fostering name k id tag st = λ u. record { done = struck_done s v k id tag st; right = refl }

alone_done : (s : ControlState) (v : Split) (k id depth : ℕ) (tag : Tag) → StandsOn s v → depth < length v.change.stack → IsSaid v.page (pop_by (depth + 1) (state_over v s)) → let entry : Spot = record { depth = k; id = s.next + id; tag = tag } in let o = pop_by (depth + 1) (state_over v s) in IsDone s v (struck id (own_popped (depth + 1) v)) (after o (strike entry o.control))
alone_done s v k id depth tag st h u =
    let entry : Spot = record { depth = k; id = s.next + id; tag = tag } in
    let o = pop_by (depth + 1) (state_over v s) in
    let w = own_popped (depth + 1) v in
    let d = own_pops s v (depth + 1) st (omega (arith, h)) u in
    let P : ControlState → Type 0 = λ c. IsDone s w (struck id w) (strike entry c) in
    then_done s v w o (strike entry o.control) (Ok (struck id w)) d (subst P d.control (struck_done s w k id tag d.stands))

block_means : (s : ControlState) (v : Split) (fostering : Bool) (name : List ℕ) (k id depth : ℕ) (tag : Tag) (o : Option Seat) → StandsOn s v → depth < length v.change.stack → MeansTurn s v fostering name (block_turn fostering id tag depth v o) (block_case (record { depth = k; id = s.next + id; tag = tag }) depth (option_map (seat_on s.next) o))
block_means s v fostering name k id depth tag None st h = λ u.
    let entry : Spot = record { depth = k; id = s.next + id; tag = tag } in
    let o = pop_by (depth + 1) (state_over v s) in
    record { done = alone_done s v k id depth tag st h (said_first v.page o (strike entry o.control) u); right = refl }
block_means s v fostering name k id depth tag (Some block) st h = λ u.
    turned s v (turn_in fostering name (Tangled (record { depth = k; id = s.next + id; tag = tag }) depth (seat_on s.next block)) (state_over v s)) true (untangle_plan fostering id tag depth block v)
    (untangle_matches s v fostering k depth id tag block st h)

-- what stands above the formatting element
pub hides_on : (n : ℕ) (es : List OpenElement) → hides (map (shifted n) es) ≡ hides es
hides_on n [] = refl
hides_on n (e ∷ es) = ap (λ b. within scope_ends e || b) (hides_on n es)

nearer_on : (n : ℕ) (e : OpenElement) (o : Option Seat) → nearer (shifted n e) (option_map (seat_on n) o) ≡ option_map (seat_on n) (nearer e o)
nearer_on n e (Some seat) = refl
nearer_on n e None = elim (within (kinds.Set sets.Special) e) as (λ b. (if b then Some (record { depth = 0; element = shifted n e }) else None) ≡ option_map (seat_on n) (if b then Some (record { depth = 0; element = e }) else None)) [
  | true ↦ refl
  | false ↦ refl
]

furthest_on : (n : ℕ) (es : List OpenElement) → furthest (map (shifted n) es) ≡ option_map (seat_on n) (furthest es)
furthest_on n [] = refl
furthest_on n (e ∷ es) = ap (nearer (shifted n e)) (furthest_on n es) ∙ nearer_on n e (furthest es)

hidden_means : (s : ControlState) (v : Split) (fostering : Bool) (name : List ℕ) (k id depth : ℕ) (tag : Tag) (b : Bool) (o : Option Seat) → StandsOn s v → depth < length v.change.stack → MeansTurn s v fostering name (if b then stays v else block_turn fostering id tag depth v o) (if b then Hidden else block_case (record { depth = k; id = s.next + id; tag = tag }) depth (option_map (seat_on s.next) o))
hidden_means s v fostering name k id depth tag true o st h = stays_means s v fostering name st
hidden_means s v fostering name k id depth tag false o st h = block_means s v fostering name k id depth tag o st h

open_means : (s : ControlState) (v : Split) (fostering : Bool) (name : List ℕ) (k id depth : ℕ) (tag : Tag) → StandsOn s v → depth < length v.change.stack → MeansTurn s v fostering name (own_turn fostering id tag v (Found depth)) (open_case (record { depth = k; id = s.next + id; tag = tag }) (Some depth) (state_over v s).stack)
open_means s v fostering name k id depth tag st h =
    let entry : Spot = record { depth = k; id = s.next + id; tag = tag } in
    let above = take depth v.change.stack in
    let front = whole_front s v depth (omega (arith, h)) in
    let P : Case → Type 0 = λ x. MeansTurn s v fostering name (own_turn fostering id tag v (Found depth)) x in
    subst P (sym (
    ap (λ l. if hides l then Hidden else block_case entry depth (furthest l)) front
    ∙ (ap (λ b. if b then Hidden else block_case entry depth (furthest (map (shifted s.next) above))) (hides_on s.next above)
    ∙ ap (λ o. if hides above then Hidden else block_case entry depth o) (furthest_on s.next above))))
    (hidden_means s v fostering name k id depth tag (hides above) (furthest above) st h)

own_means : (s : ControlState) (v : Split) (fostering : Bool) (name : List ℕ) (k id : ℕ) (tag : Tag) (w : Walk) → StandsOn s v → id_walk id v.change.stack ≡ w → MeansTurn s v fostering name (own_turn fostering id tag v w) (open_case (record { depth = k; id = s.next + id; tag = tag }) (found_at w) (state_over v s).stack)
own_means s v fostering name k id tag (Found depth) st e = open_means s v fostering name k id depth tag st (id_within id v.change.stack depth e)
own_means s v fostering name k id tag Stopped st e = closed_means s v fostering name k id tag st
own_means s v fostering name k id tag PastAll st e = closed_means s v fostering name k id tag st

pub entry_means : (s : ControlState) (v : Split) (fostering : Bool) (name : List ℕ) (k : ℕ) (o : Option FormattingEntry) → StandsOn s v → IsEntry o → MeansTurn s v fostering name (entry_turn fostering v o) (entry_case (spot_of s.next k o) (state_over v s).stack)
entry_means s v fostering name k None st i = absurd i
entry_means s v fostering name k (Some Marker) st i = absurd i
entry_means s v fostering name k (Some (Element id tag)) st i =
    let entry : Spot = record { depth = k; id = s.next + id; tag = tag } in
    let P : Option ℕ → Type 0 = λ p. MeansTurn s v fostering name (entry_turn fostering v (Some (Element id tag))) (open_case entry p (state_over v s).stack) in
    subst P (sym (full_open s v id st)) (own_means s v fostering name k id tag (id_walk id v.change.stack) st refl)
