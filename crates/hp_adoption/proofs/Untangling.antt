-- A turn with a furthest block, from its parts.
use Rattle.std.proofs.Common.{◌≡◌, ℕ, ◌+◌, Bool, true, false, if◌then◌else◌, List, [], ◌++◌, Option, Some, None, Ok, take, drop, slice_get, ap, refl, sym, subst, ◌∙◌}
use Rattle.std.specs.Option.{is_some, option_map}
use Rattle.hp_elements.specs.declared.tag.Tag.{Tag}
use Rattle.hp_control.specs.declared.change.Change.{Change}
use Rattle.hp_control.specs.declared.edit.Edit.{Edit}
use Rattle.hp_control.specs.declared.edit.Place.{Place}
use Rattle.hp_control.specs.declared.element.OpenElement.{OpenElement}
use Rattle.hp_control.specs.declared.element.FormattingEntry.{FormattingEntry}
use Rattle.hp_control.specs.Adoption.{Seat, edit_at, furthest, hides}
use Rattle.hp_control.specs.Faithful.{Split}
use Rattle.hp_control.specs.Plan.{Plan, gives, Heard, Runs}
use Rattle.hp_control.specs.Running.{runs_gives, runs_then}
use Rattle.hp_views.specs.FieldPlans.{with_change}
use Rattle.hp_views.specs.ListPlans.{with_entries}
use Rattle.hp_views.specs.PlacePlans.{place_plan}
use Rattle.hp_views.specs.StackPlans.{own_popped}
use Rattle.hp_views.specs.View.{Sight, Carries, Finds}
use Rattle.hp_views.specs.declared.walks.Walk.TheVariants.{Found}
use Rattle.hp_adoption.specs.Entries.{ref_of}
use Rattle.hp_adoption.specs.AdoptPlans.{Turned, below_depth, with_adopted, untangled, untangle_in, untangle_at, block_turn, own_turn, stays, struck}
use Rattle.hp_adoption.specs.Turning.{Turns, adopted_parts, seat_depth, with_parts}
use Rattle.hp_adoption.proofs.Nearest.{furthest_at}

-- from what the stack was taken apart into, the place, and what was made of these
pub untangle_done : (fostering is_page : Bool) (id : ℕ) (tag : Tag) (depth block : ℕ) (above between : List OpenElement) (e : OpenElement) (where_ : Place) (v : Split) (change : Change) (edits : List Edit) (start : Heard) (mid : Sight)
    → slice_get v.change.stack block ≡ Some e
    → above ≡ take block (take depth v.change.stack)
    → between ≡ drop (block + 1) (take depth v.change.stack)
    → is_page ≡ is_some v.page
    → Finds (record { heard = start; split = below_depth depth v }) mid (place_plan fostering) where_
    → change ≡ with_parts (adopted_parts (ref_of is_page) where_ id tag above e between mid.split.change.formatting mid.split.change.made) mid.split.change
    → edits ≡ mid.split.edits ++ (adopted_parts (ref_of is_page) where_ id tag above e between mid.split.change.formatting mid.split.change.made).edits
    → Runs start mid.heard (untangle_at fostering id tag depth block v) (Ok (record mid.split { change = change; edits = edits }))
untangle_done fostering is_page id tag depth block above between e where_ v change edits start mid at a b p f hc he =
    let seat : Seat = record { depth = block; element = e } in
    let over : List OpenElement = take depth v.change.stack in
    let w : Split = record mid.split { change = change; edits = edits } in
    let parts = λ (page : Bool) (xs ys : List OpenElement) (s : Split). with_adopted (adopted_parts (ref_of page) where_ id tag xs e ys s.change.formatting s.change.made) s in
    let made : w ≡ parts is_page above between mid.split =
    ap (λ (x : Change). record mid.split { change = x; edits = edits }) hc
    ∙ ap (λ (y : List Edit). record mid.split { change = with_parts (adopted_parts (ref_of is_page) where_ id tag above e between mid.split.change.formatting mid.split.change.made) mid.split.change; edits = y }) he in
    let whole : w ≡ untangled id tag depth seat v where_ =
    made ∙ (ap (λ s. parts is_page above between s) f.same
    ∙ (ap (λ xs. parts is_page xs between (below_depth depth v)) a
    ∙ (ap (λ ys. parts is_page (take block over) ys (below_depth depth v)) b
    ∙ ap (λ page. parts page (take block over) (drop (block + 1) over) (below_depth depth v)) p))) in
    let P : Option Seat → Type 0 = λ o. Runs start mid.heard (untangle_in fostering id tag depth v o) (Ok w) in
    let Q : Split → Type 0 = λ x. Runs mid.heard mid.heard (gives x) (Ok w) in
    subst P (sym (ap (option_map (λ (x : OpenElement). record { depth = block; element = x })) at))
    (runs_then (λ x. gives (untangled id tag depth seat v x)) f.runs (subst Q whole (runs_gives mid.heard w)))

block_done : (fostering : Bool) (id : ℕ) (tag : Tag) (depth k : ℕ) (v w : Split) (start new : Heard) (o : Option Seat) → seat_depth o ≡ Some k → Runs start new (untangle_in fostering id tag depth v o) (Ok w) → Runs start new (block_turn fostering id tag depth v o) (Ok (record { split = w; goes_on = true }))
block_done fostering id tag depth k v w start new None h run = absurd (cc)
block_done fostering id tag depth k v w start new (Some seat) h run = runs_then (λ x. gives (record { split = x; goes_on = true })) run (runs_gives new (record { split = w; goes_on = true }))

-- the element is open at that depth, and this is what stands above it
abbrev open_by : Bool → ℕ → Tag → ℕ → Split → Bool → Option Seat → Plan Turned
open_by fostering id tag depth v hidden o = if hidden then stays v else block_turn fostering id tag depth v o

-- the end of a scope stands above it
pub turn_hidden : (now : Heard) (fostering : Bool) (id : ℕ) (tag : Tag) (depth : ℕ) (v : Split) → hides (take depth v.change.stack) ≡ true → Runs now now (own_turn fostering id tag v (Found depth)) (Ok (record { split = v; goes_on = false }))
turn_hidden now fostering id tag depth v h =
    let P : Bool → Type 0 = λ b. Runs now now (open_by fostering id tag depth v b (furthest (take depth v.change.stack))) (Ok (record { split = v; goes_on = false })) in
    subst P (sym h) (runs_gives now (record { split = v; goes_on = false }))

no_seat : (o : Option Seat) → seat_depth o ≡ None → o ≡ None
no_seat None e = refl
no_seat (Some seat) e = absurd (cc)

-- no special element stands above it: it is popped, and its entry taken off
pub turn_popped : (old now : Heard) (fostering : Bool) (id : ℕ) (tag : Tag) (depth : ℕ) (v popped : Split) (list : List FormattingEntry) → hides (take depth v.change.stack) ≡ false → seat_depth (furthest (take depth v.change.stack)) ≡ None
    → now ≡ old → popped ≡ own_popped (depth + 1) v → list ≡ edit_at id 1 [] popped.change.formatting
    → Runs old now (own_turn fostering id tag v (Found depth)) (Ok (record { split = with_change (with_entries list popped.change) popped; goes_on = false }))
turn_popped old now fostering id tag depth v popped list h s same p gone =
    let left : Split = struck id (own_popped (depth + 1) v) in
    let seats : Option Seat = furthest (take depth v.change.stack) in
    let plan : open_by fostering id tag depth v (hides (take depth v.change.stack)) seats ≡ gives (record { split = left; goes_on = false }) =
    ap (λ (b : Bool). open_by fostering id tag depth v b seats) h ∙ ap (open_by fostering id tag depth v false) (no_seat seats s) in
    let is : with_change (with_entries list popped.change) popped ≡ left = ap (λ (l : List FormattingEntry). with_change (with_entries l popped.change) popped) gone ∙ ap (struck id) p in
    let P : Plan Turned → Type 0 = λ q. Runs old old q (Ok (record { split = left; goes_on = false })) in
    let Q : Heard → Type 0 = λ k. Runs old k (own_turn fostering id tag v (Found depth)) (Ok (record { split = left; goes_on = false })) in
    let R : Split → Type 0 = λ w. Runs old now (own_turn fostering id tag v (Found depth)) (Ok (record { split = w; goes_on = false })) in
    subst R (sym is) (subst Q (sym same) (subst P (sym plan) (runs_gives old (record { split = left; goes_on = false }))))

pub turn_tangled : (fostering : Bool) (id : ℕ) (tag : Tag) (depth k : ℕ) (old new : Sight) → hides (take depth old.split.change.stack) ≡ false → seat_depth (furthest (take depth old.split.change.stack)) ≡ Some k
    → Carries (Ok tt) old new (untangle_at fostering id tag depth k) → Turns (Ok true) old new (λ v. own_turn fostering id tag v (Found depth))
turn_tangled fostering id tag depth k old new h s run =
    let P : Option Seat → Type 0 = λ o. Runs old.heard new.heard (untangle_in fostering id tag depth old.split o) (Ok new.split) in
    let Q : Bool → Type 0 = λ b. Runs old.heard new.heard (open_by fostering id tag depth old.split b (furthest (take depth old.split.change.stack))) (Ok (record { split = new.split; goes_on = true })) in
    subst Q (sym h) (block_done fostering id tag depth k old.split new.split old.heard new.heard (furthest (take depth old.split.change.stack)) s (subst P (sym (furthest_at old.split.change.stack depth k s)) run))
