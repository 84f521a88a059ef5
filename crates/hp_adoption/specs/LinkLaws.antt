-- The start of a link: its plan does to a view what the act does to the whole state, or it crosses where the act touches
-- something older (13.2.6.4.7).
use Rattle.std.specs.Prelude.{◌≡◌, ℕ, suc, ◌+◌, ◌<◌, ◌==◌, Bool, true, false, ◌||◌, if◌then◌else◌, List, [], ◌∷◌, ◌++◌, length, Option, Some, None, map, take, slice_get, refl}
use Rattle.std.specs.Option.{is_some, option_map}
use Rattle.std.specs.Str.{bytes_eq}
use Rattle.std.proofs.Common.{sym, subst, ap, ◌∙◌}
use Rattle.std.proofs.lemmas.Bool.{eq-eqb}
use Rattle.hp_control.specs.declared.element.FormattingEntry.{FormattingEntry}
use Rattle.hp_control.specs.declared.element.FormattingEntry.TheVariants.{Marker, Element}
use Rattle.hp_control.specs.declared.question.Crossing.TheVariants.{X1}
use Rattle.hp_control.specs.States.{ControlState}
use Rattle.hp_control.specs.Truth.{answer_of}
use Rattle.hp_control.specs.Walks.{open_at, has_entry, last_named}
use Rattle.hp_control.specs.Acts.{pop, remove_entry, take_off}
use Rattle.hp_control.specs.Adoption.{Spot, Seat, Case, Closed, Hidden, lower, find_name, hides, furthest, block_case, open_case, entry_case, turn_in, again, turns, is_plain, adopt}
use Rattle.hp_control.specs.Apply.{shifted_entry}
use Rattle.hp_control.specs.Composed.{drop_entry, close_link_of, close_link}
use Rattle.hp_control.specs.Faithful.{Split, state_over, StandsOn, IsSaid, Matches, Faithful, matches_then, touches_after}
use Rattle.hp_control.specs.Outcome.{Outcome, Act, touches, after, and_then, nothing_done}
use Rattle.hp_control.specs.Plan.{end_by}
use Rattle.hp_views.specs.declared.walks.Walk.{Walk}
use Rattle.hp_views.specs.declared.walks.Walk.TheVariants.{Found, Stopped, PastAll}
use Rattle.hp_views.specs.OwnIds.{has_found}
use Rattle.hp_views.specs.PopLaws.{nothing_popped}
use Rattle.hp_views.specs.Reading.{listed_read}
use Rattle.hp_views.specs.RemoveLaws.{FaithfulToOwn, take_off_faithful, remove_entry_faithful}
use Rattle.hp_views.specs.RemovePlans.{remove_on, remove_entry_plan, take_off_plan}
use Rattle.hp_views.specs.Walks.{is_found, id_entry_walk, entry_walk}
use Rattle.hp_adoption.specs.AdoptLaws.{adopt_faithful}
use Rattle.hp_adoption.specs.AdoptLawsBlock.{older_stack}
use Rattle.hp_adoption.specs.AdoptLawsEntries.{older_list, older_entries, whole_list, none_own, some_entry, entry_own, IsEntry, entry_there, spot_of, sunk, found_by, whole_name, id_in, named_id, name_below}
use Rattle.hp_adoption.specs.AdoptLawsOlder.{touched_first, touched_block}
use Rattle.hp_adoption.specs.AdoptPlans.{adopt_plan}
use Rattle.hp_adoption.specs.LinkPlans.{a_link, gone_plan, close_own_plan, close_older_by, close_on, close_link_plan}

-- ## An own link

whole_has : (s : ControlState) (v : Split) (id : ℕ) → StandsOn s v → has_entry (s.next + id) (state_over v s).formatting ≡ is_found (id_entry_walk id v.change.formatting)
whole_has s v id st =
    ap (has_entry (s.next + id)) (whole_list s v)
    ∙ (sym (some_entry (s.next + id) (map (shifted_entry s.next) v.change.formatting ++ older_list s v))
    ∙ (entry_own s.next id v.change.formatting (older_list s v) (none_own s v st id)
    ∙ has_found id v.change.formatting))

dropped_way : (s : ControlState) (v : Split) (id : ℕ) (w : Walk) → StandsOn s v → id_entry_walk id v.change.formatting ≡ w → IsSaid v.page (if is_found w then remove_entry (s.next + id) (state_over v s) else nothing_done (state_over v s)) → Matches s v (end_by (answer_of s) (remove_on v w)) (if is_found w then remove_entry (s.next + id) (state_over v s) else nothing_done (state_over v s))
dropped_way s v id (Found k) st e u =
    let P : Walk → Type 0 = λ w. Matches s v (end_by (answer_of s) (remove_on v w)) (remove_entry (s.next + id) (state_over v s)) in
    subst P e (remove_entry_faithful id s v st u)
dropped_way s v id Stopped st e u = nothing_popped s v st
dropped_way s v id PastAll st e u = nothing_popped s v st

-- the entry, where it is there
drop_faithful : (id : ℕ) → FaithfulToOwn (remove_entry_plan id) drop_entry id
drop_faithful id = λ s v st u.
    let P : Bool → Type 0 = λ b. IsSaid v.page (if b then remove_entry (s.next + id) (state_over v s) else nothing_done (state_over v s)) → Matches s v (end_by (answer_of s) (remove_entry_plan id v)) (if b then remove_entry (s.next + id) (state_over v s) else nothing_done (state_over v s)) in
    subst P (sym (whole_has s v id st)) (dropped_way s v id (id_entry_walk id v.change.formatting) st refl) u

gone_faithful : (id : ℕ) (s : ControlState) (v : Split) → StandsOn s v → let act = and_then (drop_entry (s.next + id)) (take_off (s.next + id)) in IsSaid v.page (act (state_over v s)) → Matches s v (end_by (answer_of s) (gone_plan id v)) (act (state_over v s))
gone_faithful id s v st u = matches_then s v (remove_entry_plan id) (take_off_plan id) (drop_entry (s.next + id)) (take_off (s.next + id)) st u (λ t. drop_faithful id s v st t) (λ w d t. take_off_faithful id s w d.stands t)

-- the link of this entry is closed
abbrev closing : Bool → List ℕ → ℕ → Act
closing fostering name id = and_then (adopt fostering name) (and_then (drop_entry id) (take_off id))

own_link : (s : ControlState) (v : Split) (fostering : Bool) (k : ℕ) (o : Option FormattingEntry) → StandsOn s v → IsEntry o → IsSaid v.page (close_link_of fostering (spot_of s.next k o) (state_over v s)) → Matches s v (end_by (answer_of s) (close_own_plan fostering v o)) (close_link_of fostering (spot_of s.next k o) (state_over v s))
own_link s v fostering k None st i u = absurd i
own_link s v fostering k (Some Marker) st i u = absurd i
own_link s v fostering k (Some (Element id tag)) st i u = matches_then s v (adopt_plan fostering a_link) (gone_plan id) (adopt fostering a_link) (and_then (drop_entry (s.next + id)) (take_off (s.next + id))) st u (λ t. adopt_faithful fostering a_link s v st refl t) (λ w d t. gone_faithful id s w d.stands t)

-- ## An older link: it is touched where its entry goes, in the adoption or after it

-- it was touched, or its entry stands
abbrev IsMet : ControlState → ℕ → Outcome → Type 0
IsMet s id o = (touches s X1 o || has_entry id o.control.formatting) ≡ true

first_met : (a b : Bool) → a ≡ true → (a || b) ≡ true
first_met true b h = refl
first_met false b h = absurd (cc)

second_met : (a b : Bool) → b ≡ true → (a || b) ≡ true
second_met true b h = refl
second_met false b h = h

-- the turns from a case on
abbrev turns_from : ℕ → Bool → List ℕ → ControlState → Case → Outcome
turns_from n fostering name c k =
    let o = turn_in fostering name k c in
    if again k then after o (turns n fostering name o.control) else o

met_block : (s : ControlState) (n : ℕ) (fostering : Bool) (name : List ℕ) (spot : Spot) (d : ℕ) (o : Option Seat) (c : ControlState) → spot.id < s.next → IsMet s spot.id (turns_from n fostering name c (block_case spot d o))
met_block s n fostering name spot d None c l =
    let p = turn_in fostering name (block_case spot d None) c in
    first_met (touches s X1 p) (has_entry spot.id p.control.formatting) (touched_block s fostering name spot d None c l)
met_block s n fostering name spot d (Some block) c l =
    let p = turn_in fostering name (block_case spot d (Some block)) c in
    let q = turns n fostering name p.control in
    first_met (touches s X1 (after p q)) (has_entry spot.id q.control.formatting)
    (touches_after s X1 p q ∙ ap (λ b. b || touches s X1 q) (touched_block s fostering name spot d (Some block) c l))

met_hidden : (s : ControlState) (n : ℕ) (fostering : Bool) (name : List ℕ) (spot : Spot) (d : ℕ) (b : Bool) (o : Option Seat) (c : ControlState) → spot.id < s.next → has_entry spot.id c.formatting ≡ true → IsMet s spot.id (turns_from n fostering name c (if b then Hidden else block_case spot d o))
met_hidden s n fostering name spot d true o c l h = h
met_hidden s n fostering name spot d false o c l h = met_block s n fostering name spot d o c l

met_open : (s : ControlState) (n : ℕ) (fostering : Bool) (name : List ℕ) (spot : Spot) (p : Option ℕ) (c : ControlState) → spot.id < s.next → has_entry spot.id c.formatting ≡ true → IsMet s spot.id (turns_from n fostering name c (open_case spot p c.stack))
met_open s n fostering name spot None c l h =
    let o = turn_in fostering name (Closed spot) c in
    first_met (touches s X1 o) (has_entry spot.id o.control.formatting) (touched_first s spot.id false l)
met_open s n fostering name spot (Some d) c l h = met_hidden s n fostering name spot d (hides (take d c.stack)) (furthest (take d c.stack)) c l h

met_turns : (s : ControlState) (n : ℕ) (fostering : Bool) (name : List ℕ) (spot : Spot) (c : ControlState) → find_name name c.formatting ≡ Some spot → spot.id < s.next → has_entry spot.id c.formatting ≡ true → IsMet s spot.id (turns (suc n) fostering name c)
unfolding turns
met_turns s n fostering name spot c e l h =
    let P : Option Spot → Type 0 = λ o. IsMet s spot.id (turns_from n fostering name c (entry_case o c.stack)) in
    subst P (sym e) (met_open s n fostering name spot (open_at spot.id c.stack) c l h)

met_by : (s : ControlState) (id : ℕ) (b : Bool) (c : ControlState) (o : Outcome) → has_entry id c.formatting ≡ true → IsMet s id o → IsMet s id (if b then pop c else o)
met_by s id true c o h m = h
met_by s id false c o h m = m

-- what is found has an entry
has_lower : (o : Option Spot) (spot : Spot) (xs : List FormattingEntry) → ((p : Spot) → o ≡ Some p → has_entry p.id xs ≡ true) → option_map lower o ≡ Some spot → has_entry spot.id xs ≡ true
has_lower None spot xs h e = absurd (cc)
has_lower (Some p) spot xs h e =
    let q : lower p ≡ spot = cc in
    ap (λ (x : Spot). has_entry x.id xs) (sym q) ∙ h p refl

has_step : (b : Bool) (id : ℕ) (here spot : Spot) (o : Option Spot) (xs : List FormattingEntry) → here.id ≡ id → ((p : Spot) → o ≡ Some p → has_entry p.id xs ≡ true) → (if b then Some here else option_map lower o) ≡ Some spot → (id == spot.id || has_entry spot.id xs) ≡ true
has_step true id here spot o xs i h e =
    let q : here ≡ spot = cc in
    let d : here.id ≡ spot.id = ap (λ (x : Spot). x.id) q in
    first_met (id == spot.id) (has_entry spot.id xs) (eq-eqb id spot.id (sym i ∙ d))
has_step false id here spot o xs i h e = second_met (id == spot.id) (has_entry spot.id xs) (has_lower o spot xs h e)

name_has : (name : List ℕ) (xs : List FormattingEntry) (spot : Spot) → find_name name xs ≡ Some spot → has_entry spot.id xs ≡ true
name_has name [] spot e = absurd (cc)
name_has name (Marker ∷ xs) spot e = absurd (cc)
name_has name (Element id tag ∷ xs) spot e = has_step (bytes_eq name tag.name) id (record { depth = 0; id = id; tag = tag }) spot (find_name name xs) xs refl (λ p. name_has name xs p) e

met_adopt : (s : ControlState) (fostering : Bool) (name : List ℕ) (spot : Spot) (c : ControlState) → find_name name c.formatting ≡ Some spot → spot.id < s.next → IsMet s spot.id (adopt fostering name c)
met_adopt s fostering name spot c e l =
    let h = name_has name c.formatting spot e in
    met_by s spot.id (is_plain name c) c (turns 8 fostering name c) h (met_turns s 7 fostering name spot c e l h)

drop_by : (s : ControlState) (id : ℕ) (b : Bool) (c : ControlState) → id < s.next → touches s X1 (if b then remove_entry id c else nothing_done c) ≡ b
drop_by s id true c l = touched_first s id false l
drop_by s id false c l = refl

either_met : (a b x : Bool) → (a || b) ≡ true → (a || (b || x)) ≡ true
either_met true b x h = refl
either_met false true x h = refl
either_met false false x h = absurd (cc)

closing_touches : (s : ControlState) (fostering : Bool) (name : List ℕ) (spot : Spot) (c : ControlState) → find_name name c.formatting ≡ Some spot → spot.id < s.next → touches s X1 (closing fostering name spot.id c) ≡ true
closing_touches s fostering name spot c e l =
    let o = adopt fostering name c in
    let p = drop_entry spot.id o.control in
    let q = take_off spot.id p.control in
    touches_after s X1 o (after p q)
    ∙ (ap (λ b. touches s X1 o || b) (touches_after s X1 p q ∙ ap (λ b. b || touches s X1 q) (drop_by s spot.id (has_entry spot.id o.control.formatting) o.control l))
    ∙ either_met (touches s X1 o) (has_entry spot.id o.control.formatting) (touches s X1 q) (met_adopt s fostering name spot c e l))

-- ## By where the entry stands

some_id : (o : Option Spot) → is_some (id_in o) ≡ is_some o
some_id None = refl
some_id (Some spot) = refl

older_link : (s : ControlState) (v : Split) (fostering : Bool) (o : Option Spot) → StandsOn s v → find_name a_link (older_list s v) ≡ o → let p = option_map (sunk (length v.change.formatting)) o in find_name a_link (state_over v s).formatting ≡ p → Matches s v (end_by (answer_of s) (close_older_by v (is_some o))) (close_link_of fostering p (state_over v s))
older_link s v fostering None st e w = nothing_popped s v st
older_link s v fostering (Some spot) st e w = closing_touches s fostering a_link (sunk (length v.change.formatting) spot) (state_over v s) w (name_below s.next a_link (older_list s v) spot (older_entries s v st) e)

link_way : (s : ControlState) (v : Split) (fostering : Bool) (w : Walk) → StandsOn s v → entry_walk a_link v.change.formatting ≡ w → let o = found_by s.next v.change.formatting w (find_name a_link (older_list s v)) in find_name a_link (state_over v s).formatting ≡ o → IsSaid v.page (close_link_of fostering o (state_over v s)) → Matches s v (end_by (answer_of s) (close_on fostering v w)) (close_link_of fostering o (state_over v s))
link_way s v fostering (Found k) st e f u = own_link s v fostering k (slice_get v.change.formatting k) st (entry_there a_link v.change.formatting k e) u
link_way s v fostering Stopped st e f u = nothing_popped s v st
link_way s v fostering PastAll st e f u =
    let o = find_name a_link (older_list s v) in
    let P : Bool → Type 0 = λ b. Matches s v (end_by (answer_of s) (close_older_by v b)) (close_link_of fostering (option_map (sunk (length v.change.formatting)) o) (state_over v s)) in
    subst P (sym (listed_read (last_named a_link (older_list s v)) (older_stack s v) ∙ (ap is_some (named_id a_link (older_list s v)) ∙ some_id o)))
    (older_link s v fostering o st refl f)

pub close_link_faithful : (fostering : Bool) → Faithful (close_link_plan fostering) (close_link fostering)
close_link_faithful fostering = λ s v st fit u.
    let e = whole_name s v a_link in
    let P : Option Spot → Type 0 = λ o. find_name a_link (state_over v s).formatting ≡ o → IsSaid v.page (close_link_of fostering o (state_over v s)) → Matches s v (end_by (answer_of s) (close_link_plan fostering v)) (close_link_of fostering o (state_over v s)) in
    subst P (sym e) (link_way s v fostering (entry_walk a_link v.change.formatting) st refl) refl u
