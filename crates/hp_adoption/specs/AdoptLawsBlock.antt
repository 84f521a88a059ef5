-- A turn whose formatting element is an own one with a special element above it (13.2.6.4.7).
use Rattle.std.specs.Prelude.{◌≡◌, ℕ, ◌+◌, ◌<◌, ◌≤◌, Bool, false, ◌||◌, List, [], ◌∷◌, ◌++◌, length, Option, Some, None, Result, Ok, map, take, drop, refl}
use Rattle.std.specs.Option.{is_some}
use Rattle.std.specs.List.{list_any, take-map, drop-map}
use Rattle.std.proofs.Common.{sym, subst, ap, ◌∙◌, append_assoc, arith}
use Rattle.std.proofs.lemmas.List.{length-map, map-append, take-append-le}
use Rattle.hp_elements.specs.declared.tag.Tag.{Tag}
use Rattle.hp_control.specs.declared.change.Change.{Change}
use Rattle.hp_control.specs.declared.edit.Place.{Place}
use Rattle.hp_control.specs.declared.edit.Ref.TheVariants.{Fixed}
use Rattle.hp_control.specs.declared.element.OpenElement.{OpenElement}
use Rattle.hp_control.specs.declared.element.FormattingEntry.{FormattingEntry}
use Rattle.hp_control.specs.declared.question.Crossing.{Crossing}
use Rattle.hp_control.specs.States.{ControlState}
use Rattle.hp_control.specs.Truth.{answer_of}
use Rattle.hp_control.specs.Acts.{place}
use Rattle.hp_control.specs.Adoption.{Spot, Seat, Adopted, adopted, adopt_once, between, removed, left}
use Rattle.hp_control.specs.Apply.{applied, shifted, shifted_entry, named_place, named_edit}
use Rattle.hp_control.specs.Faithful.{Page, Split, state_over, with_page, IsBase, StandsOn, IsDone, Matches}
use Rattle.hp_control.specs.Outcome.{Outcome, is_older}
use Rattle.hp_control.specs.Plan.{gives, end_by}
use Rattle.hp_control.specs.Running.{on_end, end_then}
use Rattle.hp_views.specs.OwnWalks.{drop_own}
use Rattle.hp_views.specs.PlaceLaws.{none_made, place_placed}
use Rattle.hp_views.specs.PlacePlans.{place_plan}
use Rattle.hp_views.specs.Quiet.{paged, paged_part, stands_kept}
use Rattle.hp_views.specs.RemoveLaws.{own_id_new}
use Rattle.hp_views.specs.StackLaws.{full_stack}
use Rattle.hp_adoption.specs.AdoptLawsClimb.{NamesOwn, seat_on, adopted_on, adopted_own}
use Rattle.hp_adoption.specs.AdoptLawsEntries.{older_list, whole_list, none_own}
use Rattle.hp_adoption.specs.AdoptPlans.{an_entry, below_depth, with_adopted, untangled, untangle_plan}
use Rattle.hp_adoption.specs.Entries.{ref_of}

-- own numbers name own elements
names_on : (s : ControlState) (c : Change) (page : Option Page) → IsBase page c s → NamesOwn s (ref_of (is_some page))
names_on s c None h = λ id. refl
names_on s c (Some p) h = λ id. ap Fixed (let n : id ≡ s.next + id = omega (arith, none_made s h) in n)

-- what is left of the older stack
abbrev pub older_stack : ControlState → Split → List OpenElement
older_stack s v = drop v.change.popped s.stack

-- the first own elements are the first of all
pub take_front : (n k : ℕ) (xs us : List OpenElement) → k ≤ length xs → take k (map (shifted n) xs ++ us) ≡ map (shifted n) (take k xs)
take_front n k xs us h = take-append-le k (map (shifted n) xs) us (let e = length-map xs (shifted n) in omega (arith, h, e)) ∙ take-map (shifted n) k xs

pub whole_front : (s : ControlState) (v : Split) (k : ℕ) → k ≤ length v.change.stack → take k (state_over v s).stack ≡ map (shifted s.next) (take k v.change.stack)
whole_front s v k h = ap (take k) (full_stack s v) ∙ take_front s.next k v.change.stack (older_stack s v) h

-- what stands below the formatting element
abbrev under_at : ControlState → Split → ℕ → List OpenElement
under_at s v depth = map (shifted s.next) (drop (depth + 1) v.change.stack) ++ older_stack s v

whole_under : (s : ControlState) (v : Split) (depth : ℕ) → depth < length v.change.stack → drop (depth + 1) (state_over v s).stack ≡ under_at s v depth
whole_under s v depth h = ap (drop (depth + 1)) (full_stack s v) ∙ drop_own (shifted s.next) (depth + 1) v.change.stack (older_stack s v) (omega (arith, h))

whole_next : (s : ControlState) (v : Split) → (state_over v s).next ≡ s.next + v.change.made
whole_next s v = paged_part v.page (λ c. c.next) (applied v.change s) (λ p c. refl)

-- what the turn makes of its parts
abbrev made_of : Spot → Seat → List OpenElement → List OpenElement → Adopted → ControlState → Outcome
made_of entry block over under a c = record {
  control = record c { stack = a.over ++ under; formatting = a.formatting; next = a.next };
  edits = a.edits;
  touched = removed entry.id ∷ left entry.id ∷ map (λ (e : OpenElement). left e.id) (between block over);
  spared = false;
}

abbrev read_with : Spot → Seat → ControlState → Place → List OpenElement → List OpenElement → List FormattingEntry → ℕ → Outcome
read_with entry block c where_ over under list next = made_of entry block over under (adopted Fixed where_ entry block over list next) c

-- the own turn, and what it stands for
abbrev own_made : Split → ℕ → ℕ → Tag → Seat → Place → Adopted
own_made v depth id tag block where_ = adopted (ref_of (is_some v.page)) where_ (an_entry id tag) block (take depth v.change.stack) v.change.formatting v.change.made

read_own : (s : ControlState) (v : Split) (fostering : Bool) (k depth id : ℕ) (tag : Tag) (block : Seat) (where_ : Place) → StandsOn s v → depth < length v.change.stack → named_place s where_ ≡ place fostering (under_at s v depth) → let entry : Spot = record { depth = k; id = s.next + id; tag = tag } in adopt_once fostering entry depth (seat_on s.next block) (state_over v s) ≡ made_of entry (seat_on s.next block) (map (shifted s.next) (take depth v.change.stack)) (under_at s v depth) (adopted_on s (older_list s v) (own_made v depth id tag block where_)) (state_over v s)
read_own s v fostering k depth id tag block where_ st h e =
    let c = state_over v s in
    let entry : Spot = record { depth = k; id = s.next + id; tag = tag } in
    let seat = seat_on s.next block in
    let over = map (shifted s.next) (take depth v.change.stack) in
    let under = under_at s v depth in
    ap (λ l. read_with entry seat c (place fostering (drop (depth + 1) c.stack)) l (drop (depth + 1) c.stack) c.formatting c.next) (whole_front s v depth (omega (arith, h)))
    ∙ (ap (λ l. read_with entry seat c (place fostering l) over l c.formatting c.next) (whole_under s v depth h)
    ∙ (ap (λ p. read_with entry seat c p over under c.formatting c.next) (sym e)
    ∙ (ap (λ l. read_with entry seat c (named_place s where_) over under l c.next) (whole_list s v)
    ∙ (ap (λ n. read_with entry seat c (named_place s where_) over under (map (shifted_entry s.next) v.change.formatting ++ older_list s v) n) (whole_next s v)
    ∙ ap (λ a. made_of entry seat over under a c) (adopted_own s (ref_of (is_some v.page)) (older_list s v) where_ (an_entry id tag) block (take depth v.change.stack) v.change.formatting v.change.made (names_on s v.change v.page st.base) (none_own s v st))))))

left_own : (s : ControlState) (es : List OpenElement) → list_any (is_older s) (map (λ (e : OpenElement). left e.id) (map (shifted s.next) es)) ≡ false
left_own s [] = refl
left_own s (e ∷ es) =
    ap (λ b. b || list_any (is_older s) (map (λ (x : OpenElement). left x.id) (map (shifted s.next) es))) (own_id_new s e.id)
    ∙ left_own s es

touched_own : (s : ControlState) (id : ℕ) (block : Seat) (over : List OpenElement) → list_any (is_older s) (removed (s.next + id) ∷ left (s.next + id) ∷ map (λ (e : OpenElement). left e.id) (between (seat_on s.next block) (map (shifted s.next) over))) ≡ false
touched_own s id block over =
    let rest = list_any (is_older s) (map (λ (e : OpenElement). left e.id) (between (seat_on s.next block) (map (shifted s.next) over))) in
    ap (λ b. b || (b || rest)) (own_id_new s id)
    ∙ (ap (λ l. list_any (is_older s) (map (λ (e : OpenElement). left e.id) l)) (drop-map (shifted s.next) (block.depth + 1) over)
    ∙ left_own s (between block over))

-- the view after it is the state after it
made_done : (s : ControlState) (v : Split) (k depth id : ℕ) (tag : Tag) (block : Seat) (a : Adopted) → StandsOn s v → IsDone s v (with_adopted a (below_depth depth v)) (made_of (record { depth = k; id = s.next + id; tag = tag }) (seat_on s.next block) (map (shifted s.next) (take depth v.change.stack)) (under_at s v depth) (adopted_on s (older_list s v) a) (state_over v s))
made_done s v k depth id tag block a st =
    let w = with_adopted a (below_depth depth v) in
    let under = under_at s v depth in
    let joined : map (shifted s.next) (a.over ++ drop (depth + 1) v.change.stack) ++ older_stack s v ≡ map (shifted s.next) a.over ++ under = simp (map-append, append_assoc) in
    let b = adopted_on s (older_list s v) a in
    let f : ControlState → ControlState = λ c. record c { stack = b.over ++ under; formatting = b.formatting; next = b.next } in
    record {
      control =
          ap (λ l. with_page v.page (record (applied v.change s) { stack = l; formatting = b.formatting; next = b.next })) joined
          ∙ paged v.page f (applied v.change s) (λ p c. refl);
      edits = map-append (named_edit s) v.edits a.edits;
      own = touched_own s id block (take depth v.change.stack);
      stands = (let t = stands_kept s v w.change refl st in record { older = t.older; text = t.text; base = t.base });
    }

untangled_done : (s : ControlState) (v : Split) (fostering : Bool) (k depth id : ℕ) (tag : Tag) (block : Seat) (where_ : Place) → StandsOn s v → depth < length v.change.stack → named_place s where_ ≡ place fostering (under_at s v depth) → IsDone s v (untangled id tag depth block v where_) (adopt_once fostering (record { depth = k; id = s.next + id; tag = tag }) depth (seat_on s.next block) (state_over v s))
untangled_done s v fostering k depth id tag block where_ st h e =
    let P : Outcome → Type 0 = λ o. IsDone s v (untangled id tag depth block v where_) o in
    subst P (sym (read_own s v fostering k depth id tag block where_ st h e)) (made_done s v k depth id tag block (own_made v depth id tag block where_) st)

below_stands : (s : ControlState) (v : Split) (depth : ℕ) → StandsOn s v → StandsOn s (below_depth depth v)
below_stands s v depth st = stands_kept s v (record v.change { stack = drop (depth + 1) v.change.stack }) refl st

pub untangle_matches : (s : ControlState) (v : Split) (fostering : Bool) (k depth id : ℕ) (tag : Tag) (block : Seat) → StandsOn s v → depth < length v.change.stack → Matches s v (end_by (answer_of s) (untangle_plan fostering id tag depth block v)) (adopt_once fostering (record { depth = k; id = s.next + id; tag = tag }) depth (seat_on s.next block) (state_over v s))
untangle_matches s v fostering k depth id tag block st h =
    let x = below_depth depth v in
    let d = place_placed s x fostering (below_stands s v depth st) in
    let o = adopt_once fostering (record { depth = k; id = s.next + id; tag = tag }) depth (seat_on s.next block) (state_over v s) in
    let P : Result Split Crossing → Type 0 = λ e. Matches s v e o in
    subst P (sym (end_then (answer_of s) (place_plan fostering x) (λ p. gives (untangled id tag depth block v p)) ∙ ap (λ e. on_end e (λ p. Ok (untangled id tag depth block v p))) d.ends))
    (untangled_done s v fostering k depth id tag block d.found st h (d.named ∙ ap (place fostering) (full_stack s x)))
