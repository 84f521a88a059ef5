-- An element put into the list: its plan does to a view what the act does to the whole state.
use Rattle.std.specs.Prelude.{◌≡◌, ℕ, zero, suc, ◌+◌, ◌-◌, ◌<◌, ◌≤◌, ◌^◌, min, Bool, true, false, ◌||◌, if◌then◌else◌, nat_lt, nat_le, List, [], ◌∷◌, ◌++◌, length, Option, Some, None, Result, Ok, Err, map, refl}
use Rattle.std.proofs.Common.{sym, subst, ap, ◌∙◌, arith}
use Rattle.std.proofs.lemmas.Bool.{lt-ltb, ltb-true, ltb-false, le-leb, lt-leb}
use Rattle.std.proofs.lemmas.List.{append-nil, length-map, length-append}
use Rattle.hp_elements.specs.declared.tag.Tag.{Tag}
use Rattle.hp_control.specs.declared.element.OpenElement.{OpenElement}
use Rattle.hp_control.specs.declared.element.FormattingEntry.{FormattingEntry}
use Rattle.hp_control.specs.declared.element.FormattingEntry.TheVariants.{Marker, Element}
use Rattle.hp_control.specs.declared.question.Answer.{Answer}
use Rattle.hp_control.specs.declared.question.Answer.TheVariants as answer
use Rattle.hp_control.specs.declared.question.Crossing.{Crossing}
use Rattle.hp_control.specs.declared.question.Crossing.TheVariants.{X1}
use Rattle.hp_control.specs.declared.question.Question.{Question}
use Rattle.hp_control.specs.States.{ControlState, AreIds, entry_ids}
use Rattle.hp_control.specs.Nothing.{nothing}
use Rattle.hp_control.specs.Walks.{same_tag, equals_of, cleared, cleared_by}
use Rattle.hp_control.specs.Truth.{answer_of}
use Rattle.hp_control.specs.Apply.{shifted_entry}
use Rattle.hp_control.specs.Outcome.{Act, touches, nothing_done}
use Rattle.hp_control.specs.Acts.{equal_ids, remove_earliest, remove_entry, make_room, append_entry, append_to_list}
use Rattle.hp_control.specs.Faithful.{Page, Split, state_over, StandsOn, IsBase, IsSaid, Matches, Faithful, FaithfulWhere, said_first}
use Rattle.hp_control.specs.Plan.{Plan, gives, crosses, asks, followed_by, end_by}
use Rattle.hp_views.specs.declared.walks.Walk.{Walk}
use Rattle.hp_views.specs.declared.walks.Walk.TheVariants.{Found, Stopped, PastAll}
use Rattle.hp_views.specs.Asking.{count_in}
use Rattle.hp_views.specs.FieldLaws.{has_own}
use Rattle.hp_views.specs.ListPlans.{append_plan}
use Rattle.hp_views.specs.ListLaws.{append_faithful}
use Rattle.hp_views.specs.OwnIds.{entries_cleared_by}
use Rattle.hp_views.specs.PopLaws.{nothing_popped}
use Rattle.hp_views.specs.RemoveLaws.{remove_entry_faithful}
use Rattle.hp_views.specs.RemovePlans.{remove_on, remove_entry_plan}
use Rattle.hp_views.specs.Walks.{id_entry_walk}
use Rattle.hp_adoption.specs.ArkPlans.{Tally, tally, tally_on, older_equals, room_with, room_by, room_plan, append_to_list_plan}
use Rattle.hp_adoption.specs.Following.{matches_then}
use Rattle.hp_adoption.specs.ReconLaws.{full_list}

-- the last of them, and before there is one that id
abbrev last_of : ℕ → List ℕ → ℕ
last_of id [] = id
last_of id (x ∷ xs) = last_of x xs

-- whether a marker stands among them
abbrev has_marker : List FormattingEntry → Bool
has_marker [] = false
has_marker (Marker ∷ es) = true
has_marker (Element id tag ∷ es) = has_marker es

abbrev counted : ℕ → ℕ → List ℕ → Bool → Tally
counted count earliest ids ended = record { count = count + length ids; earliest = last_of earliest ids; ended = ended }

none_more : (count earliest : ℕ) (ended : Bool) → record { count = count; earliest = earliest; ended = ended } ≡ counted count earliest [] ended
none_more count earliest ended = ap (λ n. let t : Tally = record { count = n; earliest = earliest; ended = ended } in t) (let e : count ≡ count + 0 = omega arith in e)

one_more : (count earliest id : ℕ) (ids : List ℕ) (ended : Bool) → counted (suc count) id ids ended ≡ counted count earliest (id ∷ ids) ended
one_more count earliest id ids ended = ap (λ n. let t : Tally = record { count = n; earliest = last_of id ids; ended = ended } in t) (let e : suc count + length ids ≡ count + suc (length ids) = omega arith in e)

-- the tally counts the equal entries
told : (tag : Tag) (es : List FormattingEntry) (count earliest : ℕ) → tally tag es count earliest ≡ counted count earliest (equal_ids tag es) (has_marker es)
told tag [] count earliest = none_more count earliest false
told tag (Marker ∷ es) count earliest = none_more count earliest true
told tag (Element id other ∷ es) count earliest =
    elim (same_tag tag other) as (λ b. tally_on b count earliest id (tally tag es) ≡ counted count earliest (if b then id ∷ equal_ids tag es else equal_ids tag es) (has_marker es)) [
      | true ↦ told tag es (suc count) id ∙ one_more count earliest id (equal_ids tag es) (has_marker es)
      | false ↦ told tag es count earliest
    ]

-- the ids of equal entries in the whole list
abbrev left_below : Bool → List ℕ → List ℕ
left_below true older = []
left_below false older = older

abbrev whole_ids : ℕ → List ℕ → List ℕ → List ℕ
whole_ids n own older = map (λ id. n + id) own ++ older

full_ids : (n : ℕ) (tag : Tag) (xs ys : List FormattingEntry) → equal_ids tag (map (shifted_entry n) xs ++ ys) ≡ whole_ids n (equal_ids tag xs) (left_below (has_marker xs) (equal_ids tag ys))
full_ids n tag [] ys = refl
full_ids n tag (Marker ∷ xs) ys = refl
full_ids n tag (Element id other ∷ xs) ys =
    elim (same_tag tag other) as (λ b. (if b then (n + id) ∷ equal_ids tag (map (shifted_entry n) xs ++ ys) else equal_ids tag (map (shifted_entry n) xs ++ ys)) ≡ whole_ids n (if b then id ∷ equal_ids tag xs else equal_ids tag xs) (left_below (has_marker xs) (equal_ids tag ys))) [
      | true ↦ ap (λ l. (n + id) ∷ l) (full_ids n tag xs ys)
      | false ↦ full_ids n tag xs ys
    ]

equals_count : (tag : Tag) (es : List FormattingEntry) → equals_of tag es ≡ length (equal_ids tag es)
equals_count tag [] = refl
equals_count tag (Marker ∷ es) = refl
equals_count tag (Element id other ∷ es) =
    elim (same_tag tag other) as (λ b. (if b then suc (equals_of tag es) else equals_of tag es) ≡ length (if b then id ∷ equal_ids tag es else equal_ids tag es)) [
      | true ↦ ap suc (equals_count tag es)
      | false ↦ equals_count tag es
    ]

-- the earliest goes
earliest_goes : (c : ControlState) (x : ℕ) (xs : List ℕ) → remove_earliest (x ∷ xs) c ≡ remove_entry (last_of x xs) c
earliest_goes c x [] = refl
earliest_goes c x (y ∷ ys) = earliest_goes c y ys

last_map : (n x : ℕ) (xs : List ℕ) → last_of (n + x) (map (λ id. n + id) xs) ≡ n + last_of x xs
last_map n x [] = refl
last_map n x (y ∷ ys) = last_map n y ys

last_past : (x y : ℕ) (xs ys : List ℕ) → last_of x (xs ++ y ∷ ys) ≡ last_of y ys
last_past x y [] ys = refl
last_past x y (z ∷ zs) ys = last_past z y zs ys

-- of own entries alone
own_goes : (n : ℕ) (c : ControlState) (own : List ℕ) → 0 < length own → remove_earliest (map (λ id. n + id) own) c ≡ remove_entry (n + last_of 0 own) c
own_goes n c [] h = absurd (omega (arith, h))
own_goes n c (x ∷ xs) h = earliest_goes c (n + x) (map (λ id. n + id) xs) ∙ ap (λ id. remove_entry id c) (last_map n x xs)

-- where there are older ones, of these
older_goes : (c : ControlState) (own older : List ℕ) → 0 < length older → remove_earliest (own ++ older) c ≡ remove_entry (last_of 0 older) c
older_goes c own [] h = absurd (omega (arith, h))
older_goes c [] (y ∷ ys) h = earliest_goes c y ys
older_goes c (x ∷ xs) (y ∷ ys) h = earliest_goes c x (xs ++ y ∷ ys) ∙ ap (λ id. remove_entry id c) (last_past x y xs ys)

-- equal entries of an older state have its ids
abbrev AreBelow : ℕ → List ℕ → Type 0
AreBelow n [] = Unit {0}
AreBelow n (x ∷ xs) = (x < n) × AreBelow n xs

below_choice : (n : ℕ) (b : Bool) (id : ℕ) (ids : List ℕ) → id < n → AreBelow n ids → AreBelow n (if b then id ∷ ids else ids)
below_choice n true id ids l h = (l, h)
below_choice n false id ids l h = h

older_ids : (n : ℕ) (tag : Tag) (es : List FormattingEntry) → AreIds 1 n (entry_ids es) → AreBelow n (equal_ids tag es)
older_ids n tag [] a = tt
older_ids n tag (Marker ∷ es) a = tt
older_ids n tag (Element id other ∷ es) a = below_choice n (same_tag tag other) id (equal_ids tag es) a.1 (older_ids n tag es a.3)

left_ids : (n : ℕ) (b : Bool) (ids : List ℕ) → AreBelow n ids → AreBelow n (left_below b ids)
left_ids n true ids a = tt
left_ids n false ids a = a

last_below : (n start : ℕ) (ids : List ℕ) → 0 < length ids → AreBelow n ids → last_of start ids < n
last_below n start [] h a = absurd (omega (arith, h))
last_below n start (x ∷ []) h a = a.0
last_below n start (x ∷ y ∷ ys) h a = last_below n x (y ∷ ys) (let l : 0 < suc (length ys) = omega arith in l) a.1

removed_touches : (s : ControlState) (id : ℕ) (c : ControlState) → id < s.next → touches s X1 (remove_entry id c) ≡ true
removed_touches s id c l = ap (λ b. b || false) (lt-ltb id s.next l)

said_removed : (page : Option Page) (id : ℕ) (c : ControlState) → IsSaid page (remove_entry id c)
said_removed None id c = refl
said_removed (Some p) id c = tt

whole_count : (n : ℕ) (own older : List ℕ) → length (whole_ids n own older) ≡ length own + length older
whole_count n own older = length-append (map (λ id. n + id) own) older ∙ ap (λ k. k + length older) (length-map own (λ id. n + id))

no_length : (ids : List ℕ) → length ids ≡ 0 → ids ≡ []
no_length [] h = refl
no_length (x ∷ xs) h = absurd (omega (arith, h))

-- whether there are three is known
abbrev room_if : Bool → List ℕ → Act
room_if b ids = if b then remove_earliest ids else nothing_done

abbrev room_end : Bool → Bool → ℕ → Split → Plan Split
room_end fewer older earliest v = if fewer then gives v else if older then crosses X1 else remove_entry_plan earliest v

room_way : (s : ControlState) (v : Split) (own older : List ℕ) (r : ℕ) (a b : Bool) → StandsOn s v → AreBelow s.next older → r ≡ min 3 (length older) → nat_lt r (3 - (0 + length own)) ≡ a → nat_lt 0 r ≡ b → Matches s v (end_by (answer_of s) (room_end a b (last_of 0 own) v)) (make_room (whole_ids s.next own older) (state_over v s))
room_way s v own older r true b st below e ha hb =
    let l : r < 3 - (0 + length own) = ltb-true r (3 - (0 + length own)) ha in
    let f : nat_le 3 (length (whole_ids s.next own older)) ≡ false = lt-leb 3 (length (whole_ids s.next own older)) (let n = whole_count s.next own older in omega (arith, l, e, n)) in
    let P : Bool → Type 0 = λ t. Matches s v (Ok v) (room_if t (whole_ids s.next own older) (state_over v s)) in
    subst P (sym f) (nothing_popped s v st)
room_way s v own older r false true st below e ha hb =
    let l : 3 - (0 + length own) ≤ r = ltb-false r (3 - (0 + length own)) ha in
    let z : 0 < r = ltb-true 0 r hb in
    let some : 0 < length older = omega (arith, z, e) in
    let f : nat_le 3 (length (whole_ids s.next own older)) ≡ true = le-leb 3 (length (whole_ids s.next own older)) (let n = whole_count s.next own older in omega (arith, l, e, n)) in
    ap (λ t. touches s X1 (room_if t (whole_ids s.next own older) (state_over v s))) f
    ∙ (ap (touches s X1) (older_goes (state_over v s) (map (λ id. s.next + id) own) older some)
    ∙ removed_touches s (last_of 0 older) (state_over v s) (last_below s.next 0 older some below))
room_way s v own older r false false st below e ha hb =
    let l : 3 - (0 + length own) ≤ r = ltb-false r (3 - (0 + length own)) ha in
    let z : r ≤ 0 = ltb-false 0 r hb in
    let none : older ≡ [] = no_length older (omega (arith, z, e)) in
    let some : 0 < length own = omega (arith, z, l) in
    let f : nat_le 3 (length (whole_ids s.next own older)) ≡ true = le-leb 3 (length (whole_ids s.next own older)) (let n = whole_count s.next own older in omega (arith, l, z, n)) in
    let ids : whole_ids s.next own older ≡ map (λ id. s.next + id) own = ap (λ o. map (λ id. s.next + id) own ++ o) none ∙ append-nil (map (λ id. s.next + id) own) in
    let g = ap (λ t. room_if t (whole_ids s.next own older) (state_over v s)) f
    ∙ (ap (λ i. remove_earliest i (state_over v s)) ids ∙ own_goes s.next (state_over v s) own some) in
    let P : _ → Type 0 = λ o. Matches s v (end_by (answer_of s) (remove_entry_plan (last_of 0 own) v)) o in
    subst P (sym g) (remove_entry_faithful (last_of 0 own) s v st (said_removed v.page (s.next + last_of 0 own) (state_over v s)))

-- at most three are counted
count_three : (k : ℕ) → count_in (answer.Count (min 3 k)) ≡ min 3 k
count_three k = ap (λ t. if t then min 3 k else 0) (lt-ltb (min 3 k) (2 ^ 60) (let l : min 3 k ≤ 3 = omega arith in omega (arith, l)))

no_entries : (n : ℕ) → cleared_by n [] ≡ []
no_entries zero = refl
no_entries (suc n) = ap cleared (no_entries n)

abbrev own_of : Tag → Split → List ℕ
own_of tag v = equal_ids tag v.change.formatting

abbrev older_of : Tag → ControlState → Split → List ℕ
older_of tag s v = equal_ids tag (cleared_by v.change.cuts s.formatting)

below_of : (s : ControlState) (v : Split) (tag : Tag) → StandsOn s v → AreBelow s.next (older_of tag s v)
below_of s v tag st = older_ids s.next tag (cleared_by v.change.cuts s.formatting) (entries_cleared_by 1 s.next v.change.cuts s.formatting st.older.list_ids)

no_older : (s : ControlState) (v : Split) (tag : Tag) → s ≡ nothing → older_of tag s v ≡ []
no_older s v tag e = ap (λ (t : ControlState). equal_ids tag (cleared_by v.change.cuts t.formatting)) e ∙ ap (equal_ids tag) (no_entries v.change.cuts)

-- what is asked of the older list
asked_way : (s : ControlState) (v : Split) (tag : Tag) (own : Tally) (page : Option Page) → IsBase page v.change s → end_by (answer_of s) (followed_by (older_equals page v.change.cuts tag) (room_with own v)) ≡ end_by (answer_of s) (room_with own v (min 3 (length (older_of tag s v))))
asked_way s v tag own None h = ap (λ r. end_by (answer_of s) (room_with own v r)) (count_three (equals_of tag (cleared_by v.change.cuts s.formatting)) ∙ ap (min 3) (equals_count tag (cleared_by v.change.cuts s.formatting)))
asked_way s v tag own (Some p) h = ap (λ ids. end_by (answer_of s) (room_with own v (min 3 (length ids)))) (sym (no_older s v tag h))

room_by_way : (s : ControlState) (v : Split) (tag : Tag) (ended : Bool) → StandsOn s v → Matches s v (end_by (answer_of s) (room_by ended tag (counted 0 0 (own_of tag v) ended) v)) (make_room (whole_ids s.next (own_of tag v) (left_below ended (older_of tag s v))) (state_over v s))
room_by_way s v tag true st = room_way s v (own_of tag v) [] 0 (nat_lt 0 (3 - (0 + length (own_of tag v)))) false st tt refl refl refl
room_by_way s v tag false st =
    let own = counted 0 0 (own_of tag v) false in
    let r = min 3 (length (older_of tag s v)) in
    let P : Result Split Crossing → Type 0 = λ e. Matches s v e (make_room (whole_ids s.next (own_of tag v) (older_of tag s v)) (state_over v s)) in
    subst P (sym (asked_way s v tag own v.page st.base)) (room_way s v (own_of tag v) (older_of tag s v) r (nat_lt r (3 - (0 + length (own_of tag v)))) (nat_lt 0 r) st (below_of s v tag st) refl refl refl)

abbrev room_act : Tag → Act
room_act tag c = make_room (equal_ids tag c.formatting) c

room_faithful : (tag : Tag) → Faithful (room_plan tag) (room_act tag)
room_faithful tag = λ s v st fit u.
    let ids = ap (equal_ids tag) (full_list s v) ∙ full_ids s.next tag v.change.formatting (cleared_by v.change.cuts s.formatting) in
    let P : List ℕ → Type 0 = λ l. Matches s v (end_by (answer_of s) (room_plan tag v)) (make_room l (state_over v s)) in
    let Q : Tally → Type 0 = λ t. Matches s v (end_by (answer_of s) (room_by t.ended tag t v)) (make_room (whole_ids s.next (own_of tag v) (left_below (has_marker v.change.formatting) (older_of tag s v))) (state_over v s)) in
    subst P (sym ids) (subst Q (sym (told tag v.change.formatting 0 0)) (room_by_way s v tag (has_marker v.change.formatting) st))

-- making room leaves the stack as it is
abbrev stack_in : Result Split Crossing → List OpenElement
stack_in (Ok w) = w.change.stack
stack_in (Err crossing) = []

removed_keeps : (says : Question → Answer) (v w : Split) (k : Walk) → end_by says (remove_on v k) ≡ Ok w → w.change.stack ≡ v.change.stack
removed_keeps says v w (Found k) e = sym (ap stack_in e)
removed_keeps says v w Stopped e = sym (ap stack_in e)
removed_keeps says v w PastAll e = sym (ap stack_in e)

end_keeps : (says : Question → Answer) (v w : Split) (a b : Bool) (id : ℕ) → end_by says (room_end a b id v) ≡ Ok w → w.change.stack ≡ v.change.stack
end_keeps says v w true b id e = sym (ap stack_in e)
end_keeps says v w false true id e = absurd (cc)
end_keeps says v w false false id e = removed_keeps says v w (id_entry_walk id v.change.formatting) e

asked_keeps : (says : Question → Answer) (v w : Split) (own : Tally) (p : Plan ℕ) → end_by says (followed_by p (room_with own v)) ≡ Ok w → w.change.stack ≡ v.change.stack
asked_keeps says v w own (gives r) e = end_keeps says v w (nat_lt r (3 - own.count)) (nat_lt 0 r) own.earliest e
asked_keeps says v w own (crosses x) e = absurd (cc)
asked_keeps says v w own (asks q go) e = asked_keeps says v w own (go (says q)) e

room_keeps : (says : Question → Answer) (v w : Split) (tag : Tag) (own : Tally) (ended : Bool) → end_by says (room_by ended tag own v) ≡ Ok w → w.change.stack ≡ v.change.stack
room_keeps says v w tag own true e = end_keeps says v w (nat_lt 0 (3 - own.count)) false own.earliest e
room_keeps says v w tag own false e = asked_keeps says v w own (older_equals v.page v.change.cuts tag) e

pub append_to_list_faithful : (tag : Tag) → FaithfulWhere has_own (append_to_list_plan tag) (append_to_list tag)
append_to_list_faithful tag = λ s v st fit u.
    let c = state_over v s in
    let t = tally tag v.change.formatting 0 0 in
    matches_then s v (room_plan tag v) (append_plan tag) (room_act tag) (append_entry tag) st u
    (room_faithful tag s v st refl (said_first v.page (room_act tag c) (append_entry tag (room_act tag c).control) u))
    (λ w e d m. append_faithful tag s w d.stands (ap (λ l. nat_lt 0 (length l)) (room_keeps (answer_of s) v w tag t t.ended e) ∙ fit) m)
