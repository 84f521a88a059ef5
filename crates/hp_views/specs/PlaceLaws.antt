-- Where nodes go: the place that a plan finds is the one of the whole state (13.2.6.1).
use Rattle.std.specs.Prelude.{◌≡◌, ℕ, zero, suc, ◌+◌, ◌-◌, ◌<◌, ◌≤◌, Bool, true, false, ◌==◌, ◌&&◌, if◌then◌else◌, List, [], ◌∷◌, ◌++◌, Option, Some, None, Ok, map, drop, length, refl, slice_get}
use Rattle.std.specs.Option.{option_map}
use Rattle.std.specs.Str.{bytes_eq}
use Rattle.std.proofs.Common.{sym, subst, ap, ◌∙◌, arith}
use Rattle.std.proofs.lemmas.Bool.{eqb-true, eqb-false}
use Rattle.std.proofs.lemmas.List.{append-nil, drop-drop, length-drop}
use Rattle.std.proofs.lemmas.Slice.Eq.{bytes_eq-Decides}
use Rattle.hp_elements.specs.Names.{text_of}
use Rattle.hp_elements.specs.Kinds.{is_html as is_html_space}
use Rattle.hp_elements.specs.declared.kinds.Kinds.TheVariants as kinds
use Rattle.hp_elements.specs.KnownNames as known
use Rattle.hp_elements.specs.declared.sets.SetName.TheVariants as sets
use Rattle.hp_control.specs.declared.change.Change.{Change}
use Rattle.hp_control.specs.declared.edit.Place.{Place}
use Rattle.hp_control.specs.declared.edit.Place.TheVariants.{Into, Foster}
use Rattle.hp_control.specs.declared.edit.Ref.{Ref}
use Rattle.hp_control.specs.declared.edit.Ref.TheVariants.{Fixed, Older}
use Rattle.hp_control.specs.declared.element.OpenElement.{OpenElement}
use Rattle.hp_control.specs.KindTests.{within}
use Rattle.hp_control.specs.States.{ControlState, is_named, is_rooted}
use Rattle.hp_control.specs.Nothing.{nothing}
use Rattle.hp_control.specs.Walks.{reach}
use Rattle.hp_control.specs.Truth.{answer_of}
use Rattle.hp_control.specs.Apply.{shifted, named, named_place, element_id}
use Rattle.hp_control.specs.Acts.{current_id, first_id, foster_place, place}
use Rattle.hp_control.specs.Composed.{is_one}
use Rattle.hp_control.specs.Faithful.{Page, Split, state_over, StandsOn, IsBase}
use Rattle.hp_control.specs.Plan.{Plan, gives, end_by}
use Rattle.hp_control.specs.Running.{on_end, end_then}
use Rattle.hp_views.specs.declared.walks.Walk.{Walk}
use Rattle.hp_views.specs.declared.walks.Walk.TheVariants.{Found, Stopped, PastAll}
use Rattle.hp_views.specs.OwnIds.{found_still}
use Rattle.hp_views.specs.OwnWalks.{reach_by, reach_own, is_stopped, drop_own, drop_below}
use Rattle.hp_views.specs.PlacePlans.{top_ref, current_ref, first_ref, at_table, own_table, older_table, a_template, a_table, foster_older, foster_on, foster_plan, fostered, place_plan}
use Rattle.hp_views.specs.PopLaws.{stack_over, none_left, older_length, whole_length}
use Rattle.hp_views.specs.Reading.{depth_read, walk_within}
use Rattle.hp_views.specs.StackLaws.{full_stack, named_kind, current_faithful}
use Rattle.hp_views.specs.StackPlans.{current_is_plan}
use Rattle.hp_views.specs.Walks.{deeper, is_found, walk_of}

-- before the element with this id, where there is one below it, or into it
abbrev pub before : ℕ → List OpenElement → Place
before id [] = Into (Fixed id)
before id (f ∷ fs) = Foster (Fixed id) (Fixed f.id)

-- the place by where the nearest template and the nearest table stand
abbrev pub told_by : Option ℕ → Option ℕ → List OpenElement → Place
told_by (Some k) table es = Into (Fixed (current_id (drop k es)))
told_by None (Some k) es = before (current_id (drop k es)) (drop (k + 1) es)
told_by None None es = Into (Fixed (first_id es))

told_last : (b d : Bool) (e : OpenElement) → Into (Fixed e.id) ≡ told_by (if b then Some 0 else (if d then None else option_map suc None)) (if d then Some 0 else option_map suc None) (e ∷ [])
told_last true d e = refl
told_last false true e = refl
told_last false false e = refl

told_down : (r t : Option ℕ) (e f : OpenElement) (es : List OpenElement) → told_by r t (f ∷ es) ≡ told_by (option_map suc r) (option_map suc t) (e ∷ f ∷ es)
told_down (Some k) t e f es = refl
told_down None (Some k) e f es = ap (λ n. before (current_id (drop k (f ∷ es))) (drop n (e ∷ f ∷ es))) (let h : suc (k + 1) ≡ suc k + 1 = omega arith in h)
told_down None None e f es = refl

told_more : (b d : Bool) (e f : OpenElement) (es : List OpenElement) (r t : Option ℕ) (p : Place) → p ≡ told_by r t (f ∷ es) → (if b then Into (Fixed e.id) else (if d then Foster (Fixed e.id) (Fixed f.id) else p)) ≡ told_by (if b then Some 0 else (if d then None else option_map suc r)) (if d then Some 0 else option_map suc t) (e ∷ f ∷ es)
told_more true d e f es r t p h = refl
told_more false true e f es r t p h = refl
told_more false false e f es r t p h = h ∙ told_down r t e f es

pub told : (es : List OpenElement) → foster_place es ≡ told_by (reach a_template a_table es) (reach a_table kinds.Nothing es) es
told [] = refl
told (e ∷ []) = told_last (within a_template e) (within a_table e) e
told (e ∷ f ∷ es) =
    ap (λ b. if b then Into (Fixed e.id) else (if is_named known.Table e then Foster (Fixed e.id) (Fixed f.id) else foster_place (f ∷ es))) (named_kind known.Template e)
    ∙ (ap (λ d. if within a_template e then Into (Fixed e.id) else (if d then Foster (Fixed e.id) (Fixed f.id) else foster_place (f ∷ es))) (named_kind known.Table e)
    ∙ told_more (within a_template e) (within a_table e) e f es (reach a_template a_table (f ∷ es)) (reach a_table kinds.Nothing (f ∷ es)) (foster_place (f ∷ es)) (told (f ∷ es)))

-- where a walk for a template meets a table, a walk for a table finds it
abbrev pub is_past : Walk → Bool
is_past (Found k) = false
is_past Stopped = false
is_past PastAll = true

still_stopped : (w : Walk) → is_stopped (deeper 1 w) ≡ true → is_stopped w ≡ true
still_stopped (Found k) h = h
still_stopped Stopped h = h
still_stopped PastAll h = h

stop_step : (b d : Bool) (w t : Walk) → (is_stopped w ≡ true → is_found t ≡ true) → is_stopped (if b then Found 0 else (if d then Stopped else deeper 1 w)) ≡ true → is_found (if d then Found 0 else deeper 1 t) ≡ true
stop_step true d w t h e = absurd (cc)
stop_step false true w t h e = refl
stop_step false false w t h e = sym (found_still t) ∙ h (still_stopped w e)

tables_stop : (xs : List OpenElement) → is_stopped (walk_of a_template a_table xs) ≡ true → is_found (walk_of a_table kinds.Nothing xs) ≡ true
tables_stop [] e = absurd (cc)
tables_stop (x ∷ xs) e = stop_step (within a_template x) (within a_table x) (walk_of a_template a_table xs) (walk_of a_table kinds.Nothing xs) (tables_stop xs) e

past_deeper : (w : Walk) → is_past w ≡ true → is_past (deeper 1 w) ≡ true
past_deeper (Found k) h = h
past_deeper Stopped h = h
past_deeper PastAll h = h

still_past : (w : Walk) → is_past (deeper 1 w) ≡ true → is_past w ≡ true
still_past (Found k) h = h
still_past Stopped h = h
still_past PastAll h = h

past_step : (b d : Bool) (w t : Walk) → (is_past w ≡ true → is_past t ≡ true) → is_past (if b then Found 0 else (if d then Stopped else deeper 1 w)) ≡ true → is_past (if d then Found 0 else deeper 1 t) ≡ true
past_step true d w t h e = absurd (cc)
past_step false true w t h e = absurd (cc)
past_step false false w t h e = past_deeper t (h (still_past w e))

tables_past : (xs : List OpenElement) → is_past (walk_of a_template a_table xs) ≡ true → is_past (walk_of a_table kinds.Nothing xs) ≡ true
tables_past [] e = refl
tables_past (x ∷ xs) e = past_step (within a_template x) (within a_table x) (walk_of a_template a_table xs) (walk_of a_table kinds.Nothing xs) (tables_past xs) e

-- the first element of a page is html, with id 1
rooted_id : (a b : Bool) → (a && b) ≡ true → (a ≡ true) × (b ≡ true)
rooted_id true b h = (refl, h)
rooted_id false b h = absurd (cc)

rooted_first : (es : List OpenElement) → is_rooted es ≡ true → first_id es ≡ 1
rooted_first [] h = absurd (cc)
rooted_first (e ∷ []) h = eqb-true e.id 1 (rooted_id (is_named known.Html e) (e.id == 1) h).1
rooted_first (e ∷ f ∷ es) h = rooted_first (f ∷ es) h

first_drop : (n : ℕ) (es : List OpenElement) → n < length es → first_id (drop n es) ≡ first_id es
first_drop zero es h = refl
first_drop (suc n) [] h = absurd (omega (arith, h))
first_drop (suc n) (e ∷ []) h = absurd (omega (arith, h))
first_drop (suc n) (e ∷ f ∷ es) h = first_drop n (f ∷ es) (omega (arith, h))

first_over : (xs ys : List OpenElement) → 0 < length ys → first_id (xs ++ ys) ≡ first_id ys
first_over [] ys h = refl
first_over (x ∷ []) [] h = absurd (omega (arith, h))
first_over (x ∷ []) (y ∷ ys) h = refl
first_over (x ∷ z ∷ xs) ys h = first_over (z ∷ xs) ys h

stays : (es : List OpenElement) → map (shifted 0) es ≡ es
stays [] = refl
stays (e ∷ es) = ap (λ i. record e { id = i } ∷ map (shifted 0) es) (let h : 0 + e.id ≡ e.id = omega arith in h) ∙ ap (λ l. e ∷ l) (stays es)

-- without an older state the whole stack is the own one
pub whole_stack : (s : ControlState) → s ≡ nothing → (c : Change) → stack_over s c ≡ c.stack
whole_stack s e c =
    ap (λ l. map (shifted s.next) c.stack ++ l) (none_left s e c.popped)
    ∙ (append-nil (map (shifted s.next) c.stack) ∙ (ap (λ (t : ControlState). map (shifted t.next) c.stack) e ∙ stays c.stack))

pub first_named : (s : ControlState) (c : Change) (page : Option Page) → IsBase page c s → named s (first_ref page c.stack) ≡ Fixed (first_id (stack_over s c))
first_named s c None h = ap Fixed (sym (
    first_over (map (shifted s.next) c.stack) (drop c.popped s.stack) (omega (arith, h.left, length-drop c.popped s.stack))
    ∙ (first_drop c.popped s.stack h.left ∙ rooted_first s.stack h.rooted)))
first_named s c (Some p) h = ap (λ es. Fixed (first_id es)) (sym (whole_stack s h c))

-- references to the own elements and to the older ones
current_drop : (n : ℕ) (es : List OpenElement) → current_id (drop n es) ≡ element_id (slice_get es n)
current_drop zero [] = refl
current_drop zero (e ∷ es) = refl
current_drop (suc n) [] = refl
current_drop (suc n) (e ∷ es) = current_drop n es

pub none_made : (s : ControlState) → s ≡ nothing → s.next ≡ 0
none_made s e = ap (λ (t : ControlState). t.next) e

top_named : (s : ControlState) (c : Change) (page : Option Page) (es : List OpenElement) → IsBase page c s → named s (top_ref page c.popped es) ≡ Fixed (current_id (map (shifted s.next) es ++ drop c.popped s.stack))
top_named s c None [] h = ap Fixed (sym (current_drop c.popped s.stack))
top_named s c None (e ∷ es) h = refl
top_named s c (Some p) [] h = ap Fixed (sym (ap current_id (none_left s h c.popped)))
top_named s c (Some p) (e ∷ es) h = ap Fixed (let n : e.id ≡ s.next + e.id = omega (arith, none_made s h) in n)

own_named : (s : ControlState) (c : Change) (page : Option Page) (k : ℕ) → IsBase page c s → k ≤ length c.stack → named s (top_ref page c.popped (drop k c.stack)) ≡ Fixed (current_id (drop k (stack_over s c)))
own_named s c page k h l = top_named s c page (drop k c.stack) h ∙ ap (λ es. Fixed (current_id es)) (sym (drop_own (shifted s.next) k c.stack (drop c.popped s.stack) l))

older_named : (s : ControlState) (c : Change) (k : ℕ) → named s (Older (c.popped + k)) ≡ Fixed (current_id (drop (length c.stack + k) (stack_over s c)))
older_named s c k = ap Fixed (sym (
    ap current_id (drop_below (shifted s.next) k c.stack (drop c.popped s.stack) ∙ drop-drop k c.popped s.stack)
    ∙ current_drop (c.popped + k) s.stack))

-- a plan that finds this place
pub record IsPlaced (s : ControlState) (plan : Plan Place) (target : Place) : Type 0 where
  pub found : Place
  pub ends : end_by (answer_of s) plan ≡ Ok found
  pub named : named_place s found ≡ target

into : (s : ControlState) (r : Ref) (target : ℕ) → named s r ≡ Fixed target → IsPlaced s (gives (Into r)) (Into (Fixed target))
into s r target h = record { found = Into r; ends = refl; named = ap Into h }

before_some : (id : ℕ) (es : List OpenElement) → 0 < length es → Foster (Fixed id) (Fixed (current_id es)) ≡ before id es
before_some id [] h = absurd (omega (arith, h))
before_some id (e ∷ es) h = refl

before_none : (id : ℕ) (es : List OpenElement) → length es ≡ 0 → Into (Fixed id) ≡ before id es
before_none id [] h = refl
before_none id (e ∷ es) h = absurd (omega (arith, h))

foster : (s : ControlState) (r q : Ref) (id : ℕ) (es : List OpenElement) → named s r ≡ Fixed id → named s q ≡ Fixed (current_id es) → 0 < length es → IsPlaced s (gives (Foster r q)) (before id es)
foster s r q id es h k l = record { found = Foster r q; ends = refl; named = ap (λ x. Foster x (named s q)) h ∙ (ap (λ x. Foster (Fixed id) x) k ∙ before_some id es l) }

left_below : (s : ControlState) (c : Change) (k n : ℕ) → length (stack_over s c) ≡ n → k + 1 < n → 0 < length (drop (k + 1) (stack_over s c))
left_below s c k n h l = omega (arith, length-drop (k + 1) (stack_over s c), h, l)

-- before an own table
table_whole : (s : ControlState) (c : Change) (p : Page) (k : ℕ) (b : Bool) → IsBase (Some p) c s → k < length c.stack → (k + 1 == length c.stack) ≡ b → IsPlaced s (gives (if b then Into (top_ref (Some p) c.popped (drop k c.stack)) else Foster (top_ref (Some p) c.popped (drop k c.stack)) (top_ref (Some p) c.popped (drop (k + 1) c.stack)))) (before (current_id (drop k (stack_over s c))) (drop (k + 1) (stack_over s c)))
table_whole s c p k true h l e =
    let a : k + 1 ≡ length c.stack = eqb-true (k + 1) (length c.stack) e in
    record {
      found = Into (top_ref (Some p) c.popped (drop k c.stack));
      ends = refl;
      named = ap Into (own_named s c (Some p) k h (omega (arith, l))) ∙ before_none (current_id (drop k (stack_over s c))) (drop (k + 1) (stack_over s c)) (omega (arith, a, length-drop (k + 1) (stack_over s c), whole_length s h c));
    }
table_whole s c p k false h l e =
    let a : k + 1 ≡ length c.stack → ⊥ = eqb-false (k + 1) (length c.stack) e in
    let m : k + 1 < length c.stack = omega (arith, a, l) in
    foster s (top_ref (Some p) c.popped (drop k c.stack)) (top_ref (Some p) c.popped (drop (k + 1) c.stack)) (current_id (drop k (stack_over s c))) (drop (k + 1) (stack_over s c))
    (own_named s c (Some p) k h (omega (arith, l)))
    (own_named s c (Some p) (k + 1) h (omega (arith, l)))
    (left_below s c k (length c.stack + 0) (whole_length s h c) (omega (arith, m)))

table_placed : (s : ControlState) (c : Change) (page : Option Page) (k : ℕ) → IsBase page c s → k < length c.stack → IsPlaced s (gives (at_table page c.popped c.stack k)) (before (current_id (drop k (stack_over s c))) (drop (k + 1) (stack_over s c)))
table_placed s c None k h l =
    foster s (top_ref None c.popped (drop k c.stack)) (top_ref None c.popped (drop (k + 1) c.stack)) (current_id (drop k (stack_over s c))) (drop (k + 1) (stack_over s c))
    (own_named s c None k h (omega (arith, l)))
    (own_named s c None (k + 1) h (omega (arith, l)))
    (left_below s c k (length c.stack + (length s.stack - c.popped)) (older_length s c) (omega (arith, l, h.left)))
table_placed s c (Some p) k h l = table_whole s c p k (k + 1 == length c.stack) h l refl

no_more : (b : Bool) → (b && false) ≡ false
no_more true = refl
no_more false = refl

-- the root is no table, so an element stands below each
root_name : (e : OpenElement) → (is_named known.Html e && e.id == 1) ≡ true → within a_table e ≡ false
root_name e h =
    let html : is_named known.Html e ≡ true = (rooted_id (is_named known.Html e) (e.id == 1) h).0 in
    let same : e.name ≡ text_of known.Html = (bytes_eq-Decides e.name (text_of known.Html)).0 (rooted_id (is_html_space e.namespace) (bytes_eq e.name (text_of known.Html)) html).1 in
    ap (λ n. is_html_space e.namespace && bytes_eq (text_of known.Table) n) same ∙ no_more (is_html_space e.namespace)

table_step : (d : Bool) (o : Option ℕ) (n k : ℕ) → ((j : ℕ) → o ≡ Some j → j + 1 < n) → 1 < suc n → (if d then Some 0 else option_map suc o) ≡ Some k → k + 1 < suc n
table_step true o n k h l e = let z : 0 ≡ k = cc in omega (arith, z, l)
table_step false None n k h l e = absurd (cc)
table_step false (Some j) n k h l e = let z : suc j ≡ k = cc in let m : j + 1 < n = h j refl in omega (arith, z, m)

root_step : (d : Bool) (k : ℕ) → d ≡ false → (if d then Some 0 else option_map suc None) ≡ Some k → ⊥
root_step true k h e = cc
root_step false k h e = cc

table_below : (es : List OpenElement) (k : ℕ) → is_rooted es ≡ true → reach a_table kinds.Nothing es ≡ Some k → k + 1 < length es
table_below [] k h e = absurd (cc)
table_below (x ∷ []) k h e = absurd (root_step (within a_table x) k (root_name x h) e)
table_below (x ∷ y ∷ es) k h e = table_step (within a_table x) (reach a_table kinds.Nothing (y ∷ es)) (suc (length es)) k (λ j. table_below (y ∷ es) j h) (omega arith) e

rooted_drop : (n : ℕ) (es : List OpenElement) → n < length es → is_rooted es ≡ true → is_rooted (drop n es) ≡ true
rooted_drop zero es l h = h
rooted_drop (suc n) [] l h = absurd (omega (arith, l))
rooted_drop (suc n) (e ∷ []) l h = absurd (omega (arith, l))
rooted_drop (suc n) (e ∷ f ∷ es) l h = rooted_drop n (f ∷ es) (omega (arith, l)) h

-- an older table has an element below it
older_room : (s : ControlState) (c : Change) (page : Option Page) (k : ℕ) → IsBase page c s → reach a_table kinds.Nothing (drop c.popped s.stack) ≡ Some k → c.popped + k + 1 < length s.stack
older_room s c None k h e =
    let l : k + 1 < length (drop c.popped s.stack) = table_below (drop c.popped s.stack) k (rooted_drop c.popped s.stack h.left h.rooted) e in
    omega (arith, l, length-drop c.popped s.stack)
older_room s c (Some p) k h e = absurd (let n : None ≡ Some k = sym (ap (reach a_table kinds.Nothing) (none_left s h c.popped)) ∙ e in cc)

older_placed : (s : ControlState) (c : Change) (page : Option Page) (k : ℕ) → IsBase page c s → reach a_table kinds.Nothing (drop c.popped s.stack) ≡ Some k → IsPlaced s (gives (Foster (Older (c.popped + k)) (Older (c.popped + k + 1)))) (before (current_id (drop (length c.stack + k) (stack_over s c))) (drop (length c.stack + k + 1) (stack_over s c)))
older_placed s c page k h e =
    let room : c.popped + k + 1 < length s.stack = older_room s c page k h e in
    let deep : c.popped + k + 1 ≡ c.popped + (k + 1) = omega arith in
    let far : length c.stack + (k + 1) ≡ length c.stack + k + 1 = omega arith in
    foster s (Older (c.popped + k)) (Older (c.popped + k + 1)) (current_id (drop (length c.stack + k) (stack_over s c))) (drop (length c.stack + k + 1) (stack_over s c))
    (older_named s c k)
    (ap (λ n. named s (Older n)) deep ∙ (older_named s c (k + 1) ∙ ap (λ n. Fixed (current_id (drop n (stack_over s c)))) far))
    (omega (arith, length-drop (length c.stack + k + 1) (stack_over s c), older_length s c, room))

-- below the own elements
below_table : (s : ControlState) (v : Split) (o : Option ℕ) → StandsOn s v → reach a_table kinds.Nothing (drop v.change.popped s.stack) ≡ o → IsPlaced s (gives (older_table v o)) (told_by None (option_map (λ k. length v.change.stack + k) o) (stack_over s v.change))
below_table s v None st e = into s (first_ref v.page v.change.stack) (first_id (stack_over s v.change)) (first_named s v.change v.page st.base)
below_table s v (Some k) st e = older_placed s v.change v.page k st.base e

below_placed : (s : ControlState) (v : Split) (o : Option ℕ) → StandsOn s v → IsPlaced s (foster_older v o) (told_by (option_map (λ k. length v.change.stack + k) o) (option_map (λ k. length v.change.stack + k) (reach a_table kinds.Nothing (drop v.change.popped s.stack))) (stack_over s v.change))
below_placed s v (Some k) st = into s (Older (v.change.popped + k)) (current_id (drop (length v.change.stack + k) (stack_over s v.change))) (older_named s v.change k)
below_placed s v None st =
    let r = reach a_table kinds.Nothing (drop v.change.popped s.stack) in
    let d = below_table s v r st refl in
    let P : Option ℕ → Type 0 = λ o. end_by (answer_of s) (gives (older_table v o)) ≡ Ok d.found in
    record { found = d.found; ends = subst P (sym (depth_read a_table kinds.Nothing s.stack v.change.popped st.older.short)) d.ends; named = d.named }

own_placed : (s : ControlState) (v : Split) (w : Walk) → StandsOn s v → walk_of a_table kinds.Nothing v.change.stack ≡ w → is_found w ≡ true → IsPlaced s (gives (own_table v w)) (told_by None (reach_by w (length v.change.stack) (reach a_table kinds.Nothing (drop v.change.popped s.stack))) (stack_over s v.change))
own_placed s v (Found k) st e h = table_placed s v.change v.page k st.base (walk_within a_table kinds.Nothing v.change.stack k e)
own_placed s v Stopped st e h = absurd (cc)
own_placed s v PastAll st e h = absurd (cc)

past_is : (w : Walk) → is_past w ≡ true → w ≡ PastAll
past_is (Found k) h = absurd (cc)
past_is Stopped h = absurd (cc)
past_is PastAll h = refl

foster_way : (s : ControlState) (v : Split) (w : Walk) → StandsOn s v → walk_of a_template a_table v.change.stack ≡ w → IsPlaced s (foster_on v w) (told_by (reach_by w (length v.change.stack) (reach a_template a_table (drop v.change.popped s.stack))) (reach_by (walk_of a_table kinds.Nothing v.change.stack) (length v.change.stack) (reach a_table kinds.Nothing (drop v.change.popped s.stack))) (stack_over s v.change))
foster_way s v (Found k) st e =
    let l : k < length v.change.stack = walk_within a_template a_table v.change.stack k e in
    into s (top_ref v.page v.change.popped (drop k v.change.stack)) (current_id (drop k (stack_over s v.change))) (own_named s v.change v.page k st.base (omega (arith, l)))
foster_way s v Stopped st e = own_placed s v (walk_of a_table kinds.Nothing v.change.stack) st refl (tables_stop v.change.stack (ap is_stopped e))
foster_way s v PastAll st e =
    let r = reach a_template a_table (drop v.change.popped s.stack) in
    let t = reach a_table kinds.Nothing (drop v.change.popped s.stack) in
    let n = length v.change.stack in
    let past : walk_of a_table kinds.Nothing v.change.stack ≡ PastAll = past_is (walk_of a_table kinds.Nothing v.change.stack) (tables_past v.change.stack (ap is_past e)) in
    let d = below_placed s v r st in
    let P : Option ℕ → Type 0 = λ o. end_by (answer_of s) (foster_older v o) ≡ Ok d.found in
    record {
      found = d.found;
      ends = subst P (sym (depth_read a_template a_table s.stack v.change.popped st.older.short)) d.ends;
      named = d.named ∙ ap (λ w. told_by (option_map (λ k. n + k) r) (reach_by w n t) (stack_over s v.change)) (sym past);
    }

placed_as : (s : ControlState) (plan : Plan Place) (a b : Place) → a ≡ b → IsPlaced s plan a → IsPlaced s plan b
placed_as s plan a b e d = record { found = d.found; ends = d.ends; named = d.named ∙ e }

foster_placed : (s : ControlState) (v : Split) → StandsOn s v → IsPlaced s (foster_plan v) (foster_place (stack_over s v.change))
foster_placed s v st =
    let w = walk_of a_template a_table v.change.stack in
    let t = walk_of a_table kinds.Nothing v.change.stack in
    let n = length v.change.stack in
    let below = drop v.change.popped s.stack in
    let full = stack_over s v.change in
    placed_as s (foster_plan v) (told_by (reach_by w n (reach a_template a_table below)) (reach_by t n (reach a_table kinds.Nothing below)) full) (foster_place full)
    (sym (told full
    ∙ (ap (λ r. told_by r (reach a_table kinds.Nothing full) full) (reach_own s.next a_template a_table v.change.stack below)
    ∙ ap (λ r. told_by (reach_by w n (reach a_template a_table below)) r full) (reach_own s.next a_table kinds.Nothing v.change.stack below))))
    (foster_way s v w st refl)

-- the appropriate place
plain_place : (es : List OpenElement) → place false es ≡ Into (Fixed (current_id es))
plain_place [] = refl
plain_place (e ∷ es) = refl

chosen_place : (es : List OpenElement) → place true es ≡ (if is_one (kinds.Set sets.FosterParents) (slice_get es 0) then foster_place es else Into (Fixed (current_id es)))
chosen_place [] = refl
chosen_place (e ∷ es) = refl

current_placed : (s : ControlState) (v : Split) → StandsOn s v → IsPlaced s (gives (Into (current_ref v))) (Into (Fixed (current_id (stack_over s v.change))))
current_placed s v st = into s (current_ref v) (current_id (stack_over s v.change)) (top_named s v.change v.page v.change.stack st.base)

fostered_way : (s : ControlState) (v : Split) (b : Bool) → StandsOn s v → IsPlaced s (fostered v b) (if b then foster_place (stack_over s v.change) else Into (Fixed (current_id (stack_over s v.change))))
fostered_way s v true st = foster_placed s v st
fostered_way s v false st = current_placed s v st

place_over : (s : ControlState) (v : Split) (fostering : Bool) → StandsOn s v → IsPlaced s (place_plan fostering v) (place fostering (stack_over s v.change))
place_over s v false st = placed_as s (place_plan false v) (Into (Fixed (current_id (stack_over s v.change)))) (place false (stack_over s v.change)) (sym (plain_place (stack_over s v.change))) (current_placed s v st)
place_over s v true st =
    let full = stack_over s v.change in
    let test = current_is_plan (kinds.Set sets.FosterParents) v in
    let b = is_one (kinds.Set sets.FosterParents) (slice_get full 0) in
    let d = fostered_way s v b st in
    record {
      found = d.found;
      ends = end_then (answer_of s) test (fostered v)
          ∙ (ap (λ e. on_end e (λ x. end_by (answer_of s) (fostered v x))) (current_faithful (kinds.Set sets.FosterParents) s v st ∙ ap (λ l. Ok (is_one (kinds.Set sets.FosterParents) (slice_get l 0))) (full_stack s v)) ∙ d.ends);
      named = d.named ∙ sym (chosen_place full);
    }

-- the place that is found is the one of the whole state
pub place_placed : (s : ControlState) (v : Split) (fostering : Bool) → StandsOn s v → IsPlaced s (place_plan fostering v) (place fostering (state_over v s).stack)
place_placed s v fostering st = placed_as s (place_plan fostering v) (place fostering (stack_over s v.change)) (place fostering (state_over v s).stack) (ap (place fostering) (sym (full_stack s v))) (place_over s v fostering st)
