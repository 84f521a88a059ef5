-- Popping: each plan does to a view what its act does to the whole state.
use Rattle.std.specs.Prelude.{◌≡◌, ℕ, ◌+◌, ◌-◌, ◌<◌, ◌≤◌, min, Bool, true, false, ◌||◌, if◌then◌else◌, List, [], ◌∷◌, ◌++◌, Option, Some, None, map, drop, length, refl, nat_le}
use Rattle.std.specs.Option.{is_some, option_map}
use Rattle.std.specs.List.{drop-map}
use Rattle.std.proofs.Common.{sym, subst, ap, ◌∙◌, arith}
use Rattle.std.proofs.lemmas.Bool.{leb-false}
use Rattle.std.proofs.lemmas.List.{append-nil, drop-drop, length-map, length-append, length-drop}
use Rattle.hp_elements.specs.declared.kinds.Kinds.{Kinds}
use Rattle.hp_elements.specs.declared.kinds.Kinds.TheVariants as kinds
use Rattle.hp_control.specs.declared.change.Change.{Change}
use Rattle.hp_control.specs.declared.edit.Edit.{Edit}
use Rattle.hp_control.specs.declared.element.OpenElement.{OpenElement}
use Rattle.hp_control.specs.States.{ControlState}
use Rattle.hp_control.specs.Nothing.{nothing}
use Rattle.hp_control.specs.Walks.{reach, run_of}
use Rattle.hp_control.specs.Truth.{answer_of}
use Rattle.hp_control.specs.Apply.{applied, named_edit, shifted}
use Rattle.hp_control.specs.Outcome.{Outcome, becomes}
use Rattle.hp_control.specs.Acts.{popped_by, pop_by, pop, pop_run, above, pop_to, pop_to_first, with_it, through}
use Rattle.hp_control.specs.Faithful.{Page, Split, with_page, state_over, StandsOn, IsDone, IsSaid, Matches, Faithful}
use Rattle.hp_control.specs.Plan.{end_by}
use Rattle.hp_views.specs.declared.walks.Walk.{Walk}
use Rattle.hp_views.specs.declared.walks.Walk.TheVariants.{Found, Stopped, PastAll}
use Rattle.hp_views.specs.OwnWalks.{reach_by, reach_own, run_by, run_own, is_stopped, never_stopped, drop_own, drop_below}
use Rattle.hp_views.specs.Quiet.{view, drop_none, quiet, stands_kept, page_there, none_there}
use Rattle.hp_views.specs.Reading.{depth_read, count_read, walk_within, run_walk_within}
use Rattle.hp_views.specs.StackLaws.{full_stack}
use Rattle.hp_views.specs.StackPlans.{own_popped, all_popped, pop_on, pop_plan, pop_run_on, pop_run_plan, pop_to_older, pop_to_on, pop_to_plan, through_older, through_on, through_plan, pop_to_first_on, pop_to_first_plan}
use Rattle.hp_views.specs.Walks.{walk_of, run_walk}

-- the whole stack: own elements on what is left of the older ones
abbrev pub stack_over : ControlState → Change → List OpenElement
stack_over s c = map (shifted s.next) c.stack ++ drop c.popped s.stack

pub popped_few : (k : ℕ) (es : List OpenElement) → k < length es → popped_by k es ≡ drop k es
popped_few k es h = ap (λ m. drop m es) (let e : min k (length es - 1) ≡ k = omega arith in e)

popped_map : (f : OpenElement → OpenElement) (k : ℕ) (es : List OpenElement) → popped_by k (map f es) ≡ map f (popped_by k es)
popped_map f k es = ap (λ n. drop (min k (n - 1)) (map f es)) (length-map es f) ∙ drop-map f (min k (length es - 1)) es

popped_many : (k : ℕ) (es : List OpenElement) → length es ≤ k → popped_by (length es) es ≡ popped_by k es
popped_many k es h = ap (λ m. drop m es) (let e : min (length es) (length es - 1) ≡ min k (length es - 1) = omega arith in e)

-- without an older state the own elements are all
pub none_left : (s : ControlState) → s ≡ nothing → (n : ℕ) → drop n s.stack ≡ []
none_left s e n = ap (λ (t : ControlState). drop n t.stack) e ∙ drop_none n

whole_popped : (s : ControlState) → s ≡ nothing → (k n : ℕ) (es : List OpenElement) → map (shifted s.next) (popped_by k es) ++ drop n s.stack ≡ popped_by k (map (shifted s.next) es ++ drop n s.stack)
whole_popped s e k n es =
    ap (λ l. map (shifted s.next) (popped_by k es) ++ l) (none_left s e n)
    ∙ (append-nil (map (shifted s.next) (popped_by k es))
    ∙ (sym (popped_map (shifted s.next) k es)
    ∙ (ap (popped_by k) (sym (append-nil (map (shifted s.next) es)))
    ∙ ap (λ l. popped_by k (map (shifted s.next) es ++ l)) (sym (none_left s e n)))))

pub whole_length : (s : ControlState) → s ≡ nothing → (c : Change) → length (stack_over s c) ≡ length c.stack + 0
whole_length s e c =
    ap (λ l. length (map (shifted s.next) c.stack ++ l)) (none_left s e c.popped)
    ∙ (ap length (append-nil (map (shifted s.next) c.stack)) ∙ (length-map c.stack (shifted s.next) ∙ (let z : length c.stack ≡ length c.stack + 0 = omega arith in z)))

pub older_length : (s : ControlState) (c : Change) → length (stack_over s c) ≡ length c.stack + (length s.stack - c.popped)
older_length s c =
    length-append (map (shifted s.next) c.stack) (drop c.popped s.stack)
    ∙ (ap (λ n. n + length (drop c.popped s.stack)) (length-map c.stack (shifted s.next)) ∙ ap (λ n. length c.stack + n) (length-drop c.popped s.stack))

-- so many own elements popped
own_pop : (s : ControlState) (c : Change) (edits : List Edit) (text : Bool) (page : Option Page) (k : ℕ) → StandsOn s (view c edits text page) → k ≤ length c.stack → IsSaid page (pop_by k (with_page page (applied c s))) → IsDone s (view c edits text page) (own_popped k (view c edits text page)) (pop_by k (with_page page (applied c s)))
own_pop s c edits text None k st h u = record {
  control =
      let l : k < length (stack_over s c) = leb-false (length (stack_over s c)) k u in
      ap (λ es. record (applied c s) { stack = es }) (sym (popped_few k (stack_over s c) l ∙ drop_own (shifted s.next) k c.stack (drop c.popped s.stack) h));
  edits = sym (append-nil (map (named_edit s) edits));
  own = refl;
  stands = stands_kept s (view c edits text None) (record c { stack = drop k c.stack }) refl st;
}
own_pop s c edits text (Some p) k st h u = record {
  control = ap (λ es. with_page (Some p) (record (applied c s) { stack = es })) (whole_popped s st.base k c.popped c.stack);
  edits = sym (append-nil (map (named_edit s) edits));
  own = refl;
  stands = stands_kept s (view c edits text (Some p)) (record c { stack = popped_by k c.stack }) refl st;
}

past_stack : (s : ControlState) (c : Change) (n count : ℕ) → count ≡ length c.stack + n → count < length (stack_over s c) → drop (c.popped + n) s.stack ≡ popped_by count (stack_over s c)
past_stack s c n count h l = sym (
    popped_few count (stack_over s c) l
    ∙ (ap (λ m. drop m (stack_over s c)) h
    ∙ (drop_below (shifted s.next) n c.stack (drop c.popped s.stack) ∙ drop-drop n c.popped s.stack)))

-- all own elements popped, and so many older ones
past_pop : (s : ControlState) (c : Change) (edits : List Edit) (text : Bool) (page : Option Page) (n count : ℕ) → StandsOn s (view c edits text page) → count ≡ length c.stack + n → IsSaid page (pop_by count (with_page page (applied c s))) → IsDone s (view c edits text page) (all_popped n (view c edits text page)) (pop_by count (with_page page (applied c s)))
past_pop s c edits text None n count st h u =
    let l : count < length (stack_over s c) = leb-false (length (stack_over s c)) count u in
    record {
      control = ap (λ es. record (applied c s) { stack = es }) (past_stack s c n count h l);
      edits = sym (append-nil (map (named_edit s) edits));
      own = refl;
      stands = record {
        older = st.older;
        text = st.text;
        base = record { rooted = st.base.rooted; left = omega (arith, l, h, older_length s c, st.base.left); made = st.base.made };
      };
    }
past_pop s c edits text (Some p) n count st h u = record {
  control = ap (λ es. with_page (Some p) (record (applied c s) { stack = es }))
      (ap (λ es. map (shifted s.next) es ++ drop c.popped s.stack) (popped_many count c.stack (omega (arith, h))) ∙ whole_popped s st.base count c.popped c.stack);
  edits = sym (append-nil (map (named_edit s) edits));
  own = refl;
  stands = stands_kept s (view c edits text (Some p)) (record c { stack = popped_by (length c.stack) c.stack }) refl st;
}

-- the same of a view as a whole
pub own_pops : (s : ControlState) (v : Split) (k : ℕ) → StandsOn s v → k ≤ length v.change.stack → IsSaid v.page (pop_by k (state_over v s)) → IsDone s v (own_popped k v) (pop_by k (state_over v s))
own_pops s v k st h u = own_pop s v.change v.edits v.older_text v.page k st h u

pub past_pops : (s : ControlState) (v : Split) (n count : ℕ) → StandsOn s v → count ≡ length v.change.stack + n → IsSaid v.page (pop_by count (state_over v s)) → IsDone s v (all_popped n v) (pop_by count (state_over v s))
past_pops s v n count st h u = past_pop s v.change v.edits v.older_text v.page n count st h u

pub nothing_popped : (s : ControlState) (v : Split) → StandsOn s v → IsDone s v v (becomes (state_over v s))
nothing_popped s v st = quiet s v v.change (λ c. c) st refl (λ p c. refl) refl

-- the current node
pop_way : (s : ControlState) (v : Split) (es : List OpenElement) → es ≡ v.change.stack → StandsOn s v → IsSaid v.page (pop (state_over v s)) → Matches s v (end_by (answer_of s) (pop_on v es)) (pop (state_over v s))
pop_way s v [] e st u = past_pops s v 1 1 st (ap (λ l. length l + 1) e) u
pop_way s v (x ∷ xs) e st u = own_pops s v 1 st (let P : ℕ → Type 0 = λ n. 1 ≤ n in subst P (ap length e) (omega arith)) u

pub pop_faithful : Faithful pop_plan pop
pop_faithful = λ s v st fit u. pop_way s v v.change.stack refl st u

-- while the current node is of these kinds
run_older : (s : ControlState) (v : Split) (names : Kinds) → StandsOn s v → let m = length v.change.stack + run_of names (drop v.change.popped s.stack) in IsSaid v.page (pop_by m (state_over v s)) → Matches s v (end_by (answer_of s) (pop_run_on names v PastAll)) (pop_by m (state_over v s))
run_older s v names st u =
    let below = run_of names (drop v.change.popped s.stack) in
    let P : ℕ → Type 0 = λ n. IsDone s v (all_popped n v) (pop_by (length v.change.stack + below) (state_over v s)) in
    subst P (sym (count_read names s.stack v.change.popped st.older.short)) (past_pops s v below (length v.change.stack + below) st refl u)

run_way : (s : ControlState) (v : Split) (names : Kinds) (w : Walk) → StandsOn s v → run_walk names v.change.stack ≡ w → let m = run_by w (length v.change.stack) (run_of names (drop v.change.popped s.stack)) in IsSaid v.page (pop_by m (state_over v s)) → Matches s v (end_by (answer_of s) (pop_run_on names v w)) (pop_by m (state_over v s))
run_way s v names (Found k) st e u = own_pops s v k st (let l : k < length v.change.stack = run_walk_within names v.change.stack k e in omega arith) u
run_way s v names Stopped st e u = run_older s v names st u
run_way s v names PastAll st e u = run_older s v names st u

pub pop_run_faithful : (names : Kinds) → Faithful (pop_run_plan names) (pop_run names)
pop_run_faithful names = λ s v st fit u.
    let P : ℕ → Type 0 = λ m. IsSaid v.page (pop_by m (state_over v s)) → Matches s v (end_by (answer_of s) (pop_run_plan names v)) (pop_by m (state_over v s)) in
    subst P (sym (ap (run_of names) (full_stack s v) ∙ run_own s.next names v.change.stack (drop v.change.popped s.stack)))
    (run_way s v names (run_walk names v.change.stack) st refl) u

-- until the current node is of these kinds
full_reach : (s : ControlState) (v : Split) (goals stops : Kinds) → reach goals stops (state_over v s).stack ≡ reach_by (walk_of goals stops v.change.stack) (length v.change.stack) (reach goals stops (drop v.change.popped s.stack))
full_reach s v goals stops = ap (reach goals stops) (full_stack s v) ∙ reach_own s.next goals stops v.change.stack (drop v.change.popped s.stack)

abbrev pub popped_to : Option ℕ → ControlState → Outcome
popped_to o c = pop_by (above o c.stack) c

all_said : (n : ℕ) → nat_le n n ≡ false → ⊥
all_said n h = let l : n < n = leb-false n n h in omega (arith, l)

to_none : (s : ControlState) (c : Change) (edits : List Edit) (text : Bool) (page : Option Page) → StandsOn s (view c edits text page) → IsSaid page (popped_to None (with_page page (applied c s))) → IsDone s (view c edits text page) (all_popped 0 (view c edits text page)) (popped_to None (with_page page (applied c s)))
to_none s c edits text None st u = absurd (all_said (length (stack_over s c)) u)
to_none s c edits text (Some p) st u = past_pop s c edits text (Some p) 0 (length (stack_over s c)) st (whole_length s st.base c) u

to_older : (s : ControlState) (v : Split) (o : Option ℕ) → StandsOn s v → let r = option_map (λ k. length v.change.stack + k) o in IsSaid v.page (popped_to r (state_over v s)) → IsDone s v (pop_to_older v o) (popped_to r (state_over v s))
to_older s v None st u = to_none s v.change v.edits v.older_text v.page st u
to_older s v (Some k) st u = past_pops s v k (length v.change.stack + k) st refl u

to_way : (s : ControlState) (v : Split) (goals : Kinds) (w : Walk) → StandsOn s v → walk_of goals kinds.Nothing v.change.stack ≡ w → let r = reach_by w (length v.change.stack) (reach goals kinds.Nothing (drop v.change.popped s.stack)) in IsSaid v.page (popped_to r (state_over v s)) → Matches s v (end_by (answer_of s) (pop_to_on goals v w)) (popped_to r (state_over v s))
to_way s v goals (Found k) st e u = own_pops s v k st (let l : k < length v.change.stack = walk_within goals kinds.Nothing v.change.stack k e in omega arith) u
to_way s v goals Stopped st e u = absurd (let z : true ≡ false = sym (ap is_stopped e) ∙ never_stopped goals v.change.stack in cc)
to_way s v goals PastAll st e u =
    let below = reach goals kinds.Nothing (drop v.change.popped s.stack) in
    let P : Option ℕ → Type 0 = λ o. IsDone s v (pop_to_older v o) (popped_to (option_map (λ k. length v.change.stack + k) below) (state_over v s)) in
    subst P (sym (depth_read goals kinds.Nothing s.stack v.change.popped st.older.short)) (to_older s v below st u)

pub pop_to_faithful : (goals : Kinds) → Faithful (pop_to_plan goals) (pop_to goals)
pop_to_faithful goals = λ s v st fit u.
    let P : Option ℕ → Type 0 = λ o. IsSaid v.page (popped_to o (state_over v s)) → Matches s v (end_by (answer_of s) (pop_to_plan goals v)) (popped_to o (state_over v s)) in
    subst P (sym (full_reach s v goals kinds.Nothing)) (to_way s v goals (walk_of goals kinds.Nothing v.change.stack) st refl) u

-- up to and with the first goal
abbrev pub popped_through : Option ℕ → ControlState → Outcome
popped_through o c = if is_some o then pop_by (with_it o) c else becomes c

through_below : (s : ControlState) (v : Split) (o : Option ℕ) → StandsOn s v → let r = option_map (λ k. length v.change.stack + k) o in IsSaid v.page (popped_through r (state_over v s)) → IsDone s v (through_older v o) (popped_through r (state_over v s))
through_below s v None st u = nothing_popped s v st
through_below s v (Some k) st u = past_pops s v (k + 1) (length v.change.stack + k + 1) st (omega arith) u

through_way : (s : ControlState) (v : Split) (goals stops : Kinds) (w : Walk) → StandsOn s v → walk_of goals stops v.change.stack ≡ w → let r = reach_by w (length v.change.stack) (reach goals stops (drop v.change.popped s.stack)) in IsSaid v.page (popped_through r (state_over v s)) → Matches s v (end_by (answer_of s) (through_on goals stops v w)) (popped_through r (state_over v s))
through_way s v goals stops (Found k) st e u = own_pops s v (k + 1) st (let l : k < length v.change.stack = walk_within goals stops v.change.stack k e in omega arith) u
through_way s v goals stops Stopped st e u = nothing_popped s v st
through_way s v goals stops PastAll st e u =
    let below = reach goals stops (drop v.change.popped s.stack) in
    let P : Option ℕ → Type 0 = λ o. IsDone s v (through_older v o) (popped_through (option_map (λ k. length v.change.stack + k) below) (state_over v s)) in
    subst P (sym (depth_read goals stops s.stack v.change.popped st.older.short)) (through_below s v below st u)

pub through_faithful : (goals stops : Kinds) → Faithful (through_plan goals stops) (through goals stops)
through_faithful goals stops = λ s v st fit u.
    let P : Option ℕ → Type 0 = λ o. IsSaid v.page (popped_through o (state_over v s)) → Matches s v (end_by (answer_of s) (through_plan goals stops v)) (popped_through o (state_over v s)) in
    subst P (sym (full_reach s v goals stops)) (through_way s v goals stops (walk_of goals stops v.change.stack) st refl) u

-- all but the first element
first_way : (s : ControlState) (c : Change) (edits : List Edit) (text : Bool) (page : Option Page) → StandsOn s (view c edits text page) → Matches s (view c edits text page) (end_by (answer_of s) (pop_to_first_on page (view c edits text page))) (pop_to_first (with_page page (applied c s)))
first_way s c edits text None st = ap (λ b. b || false) (page_there c s st.base)
first_way s c edits text (Some p) st =
    let d = past_pop s c edits text (Some p) 0 (length (stack_over s c)) st (whole_length s st.base c) tt in
    record { control = d.control; edits = d.edits; own = ap (λ b. b || false) (none_there s st.base); stands = d.stands }

pub pop_to_first_faithful : Faithful pop_to_first_plan pop_to_first
pop_to_first_faithful = λ s v st fit u. first_way s v.change v.edits v.older_text v.page st
