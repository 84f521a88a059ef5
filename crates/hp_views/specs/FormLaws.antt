-- The end of a form: the plan does to a view what the act does to the whole state.
use Rattle.std.specs.Prelude.{◌≡◌, ℕ, suc, ◌+◌, ◌-◌, ◌<◌, ◌≤◌, ◌==◌, Bool, true, false, ◌||◌, if◌then◌else◌, nat_lt, List, [], ◌∷◌, Option, Some, None, IfSome, Ok, drop, length, refl}
use Rattle.std.specs.Option.{is_some, option_map}
use Rattle.std.proofs.Common.{sym, subst, ap, ◌∙◌, arith}
use Rattle.std.proofs.lemmas.Bool.{lt-ltb, eqb-true, eq-eqb, ltb-true, ltb-false}
use Rattle.std.proofs.lemmas.List.{length-drop}
use Rattle.hp_elements.specs.declared.kinds.Kinds.TheVariants as kinds
use Rattle.hp_control.specs.declared.change.FormChange.{FormChange}
use Rattle.hp_control.specs.declared.change.FormChange.TheVariants as form
use Rattle.hp_control.specs.declared.element.OpenElement.{OpenElement}
use Rattle.hp_control.specs.declared.question.Crossing.TheVariants.{X3}
use Rattle.hp_control.specs.States.{ControlState, IsId}
use Rattle.hp_control.specs.Walks.{open_at, scope_at, scope_ends}
use Rattle.hp_control.specs.Truth.{answer_of, away_or, depth_answer, pointer_answer}
use Rattle.hp_control.specs.Apply.{applied, form_after}
use Rattle.hp_control.specs.Outcome.{Act, and_then, choose, nothing_done, touches}
use Rattle.hp_control.specs.Acts.{take_off, taken_off, empty_form}
use Rattle.hp_control.specs.Composed.{implied, end_form_of, end_form_in_template, end_form, is_open_form, template_in_stack}
use Rattle.hp_control.specs.Faithful.{Split, state_over, StandsOn, IsDone, IsSaid, Matches, Follows, Faithful, then_matches, matches_then, said_first}
use Rattle.hp_control.specs.Plan.{gives, crosses, end_by}
use Rattle.hp_views.specs.declared.walks.Walk.{Walk}
use Rattle.hp_views.specs.declared.walks.Walk.TheVariants.{Found, Stopped, PastAll}
use Rattle.hp_views.specs.Asking.{pointed_in, pointed_at, depth_from}
use Rattle.hp_views.specs.ClosingLaws.{by_test_faithful, implied_faithful, end_form_in_template_faithful}
use Rattle.hp_views.specs.ClosingPlans.{first_then, implied_plan, end_form_in_template_plan}
use Rattle.hp_views.specs.FieldLaws.{empty_form_faithful}
use Rattle.hp_views.specs.FieldPlans.{form_cleared}
use Rattle.hp_views.specs.FormPlans.{form_emptied, own_form_on, own_form_plan, older_off_at, older_off_plan, older_form_on, pointed_plan, outside_on, outside_plan, end_form_plan}
use Rattle.hp_views.specs.OlderIds.{scope_older, scope_own, scope_by, scope_below, scope_open, open_within, open_drop, open_gone, open_left, open_below}
use Rattle.hp_views.specs.OwnIds.{ids_drop}
use Rattle.hp_views.specs.PopLaws.{pop_faithful, nothing_popped}
use Rattle.hp_views.specs.Quiet.{quiet, paged_part}
use Rattle.hp_views.specs.Reading.{depth_back}
use Rattle.hp_views.specs.RemoveLaws.{take_off_faithful}
use Rattle.hp_views.specs.RemovePlans.{take_off_plan}
use Rattle.hp_views.specs.StackLaws.{full_stack, template_faithful}
use Rattle.hp_views.specs.StackPlans.{pop_plan, template_plan}
use Rattle.hp_views.specs.Walks.{is_found, walk_of, id_scope_walk}

-- what leaves the stack where the form's element is in scope
abbrev pub form_left : ℕ → Act
form_left i = choose (is_open_form i) (and_then implied (take_off i)) nothing_done

abbrev pub form_left_by : Bool → ℕ → Act
form_left_by b i c = if b then and_then implied (take_off i) c else nothing_done c

-- an own form
own_scope : (s : ControlState) (v : Split) (id : ℕ) → StandsOn s v → is_some (scope_at (s.next + id) (state_over v s).stack) ≡ is_found (id_scope_walk id v.change.stack)
own_scope s v id st =
    ap (λ l. is_some (scope_at (s.next + id) l)) (full_stack s v)
    ∙ scope_own s.next id v.change.stack (drop v.change.popped s.stack) (scope_older 0 s.next (s.next + id) (drop v.change.popped s.stack) (ids_drop 0 s.next v.change.popped s.stack st.older.stack_ids) (omega arith))

own_left : (s : ControlState) (x : Split) (id : ℕ) → StandsOn s x → IsSaid x.page (and_then implied (take_off (s.next + id)) (state_over x s)) → (k : ℕ) → Matches s x (end_by (answer_of s) (own_form_on id x (Found k))) (and_then implied (take_off (s.next + id)) (state_over x s))
own_left s x id st u k = matches_then s x implied_plan (take_off_plan id) implied (take_off (s.next + id)) st u (λ m. implied_faithful s x st refl m) (λ y d m. take_off_faithful id s y d.stands m)

own_way : (s : ControlState) (x : Split) (id : ℕ) (w : Walk) → StandsOn s x → IsSaid x.page (form_left_by (is_found w) (s.next + id) (state_over x s)) → Matches s x (end_by (answer_of s) (own_form_on id x w)) (form_left_by (is_found w) (s.next + id) (state_over x s))
own_way s x id (Found k) st u = own_left s x id st u k
own_way s x id Stopped st u = nothing_popped s x st
own_way s x id PastAll st u = nothing_popped s x st

-- the stack is as it was when the pointer was emptied
same_stack : (s : ControlState) (v x : Split) → IsDone s v x (empty_form (state_over v s)) → (state_over x s).stack ≡ (state_over v s).stack
same_stack s v x d = ap (λ (c : ControlState). c.stack) d.control

own_follows : (s : ControlState) (v : Split) (id : ℕ) → StandsOn s v → Follows s v (λ x. own_form_on id x (id_scope_walk id v.change.stack)) (empty_form (state_over v s)) (form_left (s.next + id))
own_follows s v id st = λ x d u.
    let w = id_scope_walk id v.change.stack in
    let e : is_some (scope_at (s.next + id) (state_over x s).stack) ≡ is_found w = ap (λ l. is_some (scope_at (s.next + id) l)) (same_stack s v x d) ∙ own_scope s v id st in
    let P : Bool → Type 0 = λ b. IsSaid x.page (form_left_by b (s.next + id) (state_over x s)) → Matches s x (end_by (answer_of s) (own_form_on id x w)) (form_left_by b (s.next + id) (state_over x s)) in
    subst P (sym e) (own_way s x id w d.stands) u

own_form : (s : ControlState) (v : Split) (id : ℕ) → StandsOn s v → IsSaid v.page (end_form_of (Some (s.next + id)) (state_over v s)) → Matches s v (end_by (answer_of s) (own_form_plan id v)) (end_form_of (Some (s.next + id)) (state_over v s))
own_form s v id st u = then_matches s v (λ x. own_form_on id x (id_scope_walk id v.change.stack)) empty_form (form_left (s.next + id)) (state_over v s) (Ok (form_emptied v)) st u (own_follows s v id st) (empty_form_faithful s v st refl (said_first v.page (empty_form (state_over v s)) (form_left (s.next + id) (empty_form (state_over v s)).control) u))

-- an older element leaves the stack
older_touch : (s : ControlState) (y : Split) (i k : ℕ) (o : Option ℕ) → i < s.next → o ≡ Some (suc k) → touches s X3 (taken_off i o (state_over y s)) ≡ true
older_touch s y i k o l e = ap (λ p. touches s X3 (taken_off i p (state_over y s))) e ∙ ap (λ b. b || false) (lt-ltb i s.next l)

off_top : (s : ControlState) (y : Split) (i depth : ℕ) (b : Bool) → (depth == y.change.popped) ≡ b → StandsOn s y → i < s.next → y.change.popped ≤ depth → (o : Option ℕ) → o ≡ Some (0 + (depth - y.change.popped)) → IsSaid y.page (taken_off i o (state_over y s)) → Matches s y (end_by (answer_of s) (if b then pop_plan y else crosses X3)) (taken_off i o (state_over y s))
off_top s y i depth true m st l h o q u =
    let same : depth ≡ y.change.popped = eqb-true depth y.change.popped m in
    let z : 0 + (depth - y.change.popped) ≡ 0 = omega arith in
    let P : Option ℕ → Type 0 = λ p. IsSaid y.page (taken_off i p (state_over y s)) → Matches s y (end_by (answer_of s) (pop_plan y)) (taken_off i p (state_over y s)) in
    subst P (sym (q ∙ ap Some z)) (λ k. pop_faithful s y st refl k) u
off_top s y i depth false m st l h o q u =
    let apart : depth ≡ y.change.popped → ⊥ = λ e. (let z : true ≡ false = sym (eq-eqb depth y.change.popped e) ∙ m in cc) in
    let z : 0 + (depth - y.change.popped) ≡ suc (depth - y.change.popped - 1) = omega (arith, apart, h) in
    older_touch s y i (depth - y.change.popped - 1) o l (q ∙ ap Some z)

off_at : (s : ControlState) (y : Split) (i depth : ℕ) (own : List OpenElement) → StandsOn s y → i < s.next → y.change.popped ≤ depth → (o : Option ℕ) → o ≡ Some (length own + (depth - y.change.popped)) → IsSaid y.page (taken_off i o (state_over y s)) → Matches s y (end_by (answer_of s) (older_off_at depth y own)) (taken_off i o (state_over y s))
off_at s y i depth [] st l h o q u = off_top s y i depth (depth == y.change.popped) refl st l h o q u
off_at s y i depth (x ∷ xs) st l h o q u =
    let z : suc (length xs) + (depth - y.change.popped) ≡ suc (length xs + (depth - y.change.popped)) = omega arith in
    older_touch s y i (length xs + (depth - y.change.popped)) o l (q ∙ ap Some z)

full_below : (s : ControlState) (y : Split) (i : ℕ) → i < s.next → open_at i (state_over y s).stack ≡ option_map (λ k. length y.change.stack + k) (open_at i (drop y.change.popped s.stack))
full_below s y i l = ap (open_at i) (full_stack s y) ∙ open_below s.next i y.change.stack (drop y.change.popped s.stack) l

off_by : (s : ControlState) (y : Split) (i depth : ℕ) (b : Bool) → nat_lt depth y.change.popped ≡ b → StandsOn s y → i < s.next → open_at i s.stack ≡ Some depth → (o : Option ℕ) → o ≡ option_map (λ k. length y.change.stack + k) (open_at i (drop y.change.popped s.stack)) → IsSaid y.page (taken_off i o (state_over y s)) → Matches s y (end_by (answer_of s) (if b then gives y else older_off_at depth y y.change.stack)) (taken_off i o (state_over y s))
off_by s y i depth true m st l e o q u =
    let gone : open_at i (drop y.change.popped s.stack) ≡ None = open_gone 0 s.next i y.change.popped s.stack depth st.older.stack_ids e (ltb-true depth y.change.popped m) in
    let P : Option ℕ → Type 0 = λ p. Matches s y (Ok y) (taken_off i p (state_over y s)) in
    subst P (sym (q ∙ ap (option_map (λ k. length y.change.stack + k)) gone)) (nothing_popped s y st)
off_by s y i depth false m st l e o q u =
    let h : y.change.popped ≤ depth = ltb-false depth y.change.popped m in
    off_at s y i depth y.change.stack st l h o (q ∙ ap (option_map (λ k. length y.change.stack + k)) (open_left i y.change.popped s.stack depth e h)) u

older_off : (s : ControlState) (y : Split) (i depth : ℕ) → StandsOn s y → i < s.next → open_at i s.stack ≡ Some depth → IsSaid y.page (take_off i (state_over y s)) → Matches s y (end_by (answer_of s) (older_off_plan depth y)) (take_off i (state_over y s))
older_off s y i depth st l e u = off_by s y i depth (nat_lt depth y.change.popped) refl st l e (open_at i (state_over y s).stack) (full_below s y i l) u

-- an older form
by_false : (w : Walk) → scope_by w false ≡ false
by_false (Found k) = refl
by_false Stopped = refl
by_false PastAll = refl

older_scope : (s : ControlState) (v x : Split) (i : ℕ) (b : Bool) → i < s.next → is_some (scope_at i (drop v.change.popped s.stack)) ≡ b → IsDone s v x (empty_form (state_over v s)) → is_some (scope_at i (state_over x s).stack) ≡ scope_by (walk_of kinds.Nothing scope_ends v.change.stack) b
older_scope s v x i b l e d =
    ap (λ es. is_some (scope_at i es)) (same_stack s v x d ∙ full_stack s v)
    ∙ (scope_below s.next i v.change.stack (drop v.change.popped s.stack) l ∙ ap (scope_by (walk_of kinds.Nothing scope_ends v.change.stack)) e)

left_way : (s : ControlState) (x : Split) (i depth : ℕ) → StandsOn s x → i < s.next → open_at i s.stack ≡ Some depth → IsSaid x.page (and_then implied (take_off i) (state_over x s)) → Matches s x (end_by (answer_of s) (first_then implied_plan (older_off_plan depth) x)) (and_then implied (take_off i) (state_over x s))
left_way s x i depth st l e u = matches_then s x implied_plan (older_off_plan depth) implied (take_off i) st u (λ m. implied_faithful s x st refl m) (λ y d m. older_off s y i depth d.stands l e m)

emptied : (s : ControlState) (v : Split) (f : Act) → StandsOn s v → IsSaid v.page (and_then empty_form f (state_over v s)) → IsDone s v (form_emptied v) (empty_form (state_over v s))
emptied s v f st u = empty_form_faithful s v st refl (said_first v.page (empty_form (state_over v s)) (f (empty_form (state_over v s)).control) u)

away_follows : (s : ControlState) (v : Split) (i : ℕ) → i < s.next → scope_by (walk_of kinds.Nothing scope_ends v.change.stack) (is_some (scope_at i (drop v.change.popped s.stack))) ≡ false → Follows s v (λ x. gives x) (empty_form (state_over v s)) (form_left i)
away_follows s v i l e = λ x d u.
    let P : Bool → Type 0 = λ b. Matches s x (Ok x) (form_left_by b i (state_over x s)) in
    subst P (sym (older_scope s v x i (is_some (scope_at i (drop v.change.popped s.stack))) l refl d ∙ e)) (nothing_popped s x d.stands)

here_follows : (s : ControlState) (v : Split) (i depth : ℕ) → i < s.next → open_at i s.stack ≡ Some depth → walk_of kinds.Nothing scope_ends v.change.stack ≡ PastAll → is_some (scope_at i (drop v.change.popped s.stack)) ≡ true → Follows s v (first_then implied_plan (older_off_plan depth)) (empty_form (state_over v s)) (form_left i)
here_follows s v i depth l o w e = λ x d u.
    let P : Bool → Type 0 = λ b. IsSaid x.page (form_left_by b i (state_over x s)) → Matches s x (end_by (answer_of s) (first_then implied_plan (older_off_plan depth) x)) (form_left_by b i (state_over x s)) in
    subst P (sym (older_scope s v x i true l e d ∙ ap (λ y. scope_by y true) w)) (λ m. left_way s x i depth d.stands l o m) u

read_back : (s : ControlState) (v : Split) (i k : ℕ) → StandsOn s v → scope_at i (drop v.change.popped s.stack) ≡ Some k → depth_from v.change.popped (depth_answer v.change.popped (Some k)) ≡ Some k
read_back s v i k st e = depth_back v.change.popped (length s.stack) (Some k) (λ j q. (let z : k ≡ j = cc in let m : k < length (drop v.change.popped s.stack) = open_within i (drop v.change.popped s.stack) k (scope_open i (drop v.change.popped s.stack) k e) in omega (arith, z, m, length-drop v.change.popped s.stack))) st.older.short

older_some : (s : ControlState) (v : Split) (i : ℕ) (r : Option ℕ) → walk_of kinds.Nothing scope_ends v.change.stack ≡ PastAll → scope_at i (drop v.change.popped s.stack) ≡ r → i < s.next → StandsOn s v → IsSaid v.page (end_form_of (Some i) (state_over v s)) → Matches s v (end_by (answer_of s) (pointed_plan (form_emptied v) (pointed_in v.change.popped (away_or v.change.popped r)))) (end_form_of (Some i) (state_over v s))
older_some s v i None w e l st u =
    let apart = ap (scope_by (walk_of kinds.Nothing scope_ends v.change.stack)) (ap is_some e) ∙ by_false (walk_of kinds.Nothing scope_ends v.change.stack) in
    then_matches s v (λ x. gives x) empty_form (form_left i) (state_over v s) (Ok (form_emptied v)) st u (away_follows s v i l apart) (emptied s v (form_left i) st u)
older_some s v i (Some k) w e l st u =
    let depth = v.change.popped + k in
    let stands : open_at i s.stack ≡ Some depth = open_drop 0 s.next i v.change.popped s.stack k st.older.stack_ids (scope_open i (drop v.change.popped s.stack) k e) in
    let P : Option ℕ → Type 0 = λ o. Matches s v (end_by (answer_of s) (pointed_plan (form_emptied v) (pointed_at v.change.popped o))) (end_form_of (Some i) (state_over v s)) in
    subst P (sym (read_back s v i k st e))
    (then_matches s v (first_then implied_plan (older_off_plan depth)) empty_form (form_left i) (state_over v s) (Ok (form_emptied v)) st u (here_follows s v i depth l stands w (ap is_some e)) (emptied s v (form_left i) st u))

-- no form is left open: the pointer was empty already
none_open : (s : ControlState) (v : Split) → None ≡ s.form → form.Kept ≡ v.change.form → StandsOn s v → IsDone s v (form_emptied v) (end_form_of None (state_over v s))
none_open s v e f st = quiet s v (form_cleared v.change) (λ c. c) st refl (λ p c. refl) (ap (λ o. record (applied v.change s) { form = o }) (e ∙ ap (λ g. form_after g s) f))

older_way : (s : ControlState) (v : Split) (o : Option ℕ) → walk_of kinds.Nothing scope_ends v.change.stack ≡ PastAll → o ≡ s.form → IfSome o (IsId s.next) → form.Kept ≡ v.change.form → StandsOn s v → IsSaid v.page (end_form_of o (state_over v s)) → Matches s v (end_by (answer_of s) (pointed_plan (form_emptied v) (pointed_in v.change.popped (pointer_answer v.change.popped o (drop v.change.popped s.stack))))) (end_form_of o (state_over v s))
older_way s v None w e h f st u = none_open s v e f st
older_way s v (Some i) w e h f st u = older_some s v i (scope_at i (drop v.change.popped s.stack)) w refl h.1 st u

-- an own end of a scope stands above it
hidden_way : (s : ControlState) (v : Split) (o : Option ℕ) → ((b : Bool) → scope_by (walk_of kinds.Nothing scope_ends v.change.stack) b ≡ false) → o ≡ s.form → IfSome o (IsId s.next) → form.Kept ≡ v.change.form → StandsOn s v → IsSaid v.page (end_form_of o (state_over v s)) → Matches s v (Ok (form_emptied v)) (end_form_of o (state_over v s))
hidden_way s v None w e h f st u = none_open s v e f st
hidden_way s v (Some i) w e h f st u = then_matches s v (λ x. gives x) empty_form (form_left i) (state_over v s) (Ok (form_emptied v)) st u (away_follows s v i h.1 (w (is_some (scope_at i (drop v.change.popped s.stack))))) (emptied s v (form_left i) st u)

kept_way : (s : ControlState) (v : Split) (w : Walk) → walk_of kinds.Nothing scope_ends v.change.stack ≡ w → form.Kept ≡ v.change.form → StandsOn s v → IsSaid v.page (end_form_of s.form (state_over v s)) → Matches s v (end_by (answer_of s) (older_form_on v w)) (end_form_of s.form (state_over v s))
kept_way s v PastAll w f st u = older_way s v s.form w refl st.older.form f st u
kept_way s v Stopped w f st u = hidden_way s v s.form (λ b. ap (λ y. scope_by y b) w) refl st.older.form f st u
kept_way s v (Found k) w f st u = hidden_way s v s.form (λ b. ap (λ y. scope_by y b) w) refl st.older.form f st u

outside_by : (s : ControlState) (v : Split) (f : FormChange) → f ≡ v.change.form → StandsOn s v → IsSaid v.page (end_form_of (form_after f s) (state_over v s)) → Matches s v (end_by (answer_of s) (outside_on f v)) (end_form_of (form_after f s) (state_over v s))
outside_by s v form.Kept e st u = kept_way s v (walk_of kinds.Nothing scope_ends v.change.stack) refl e st u
outside_by s v form.Cleared e st u = nothing_popped s v st
outside_by s v (form.Own id) e st u = own_form s v id st u

full_form : (s : ControlState) (v : Split) → (state_over v s).form ≡ form_after v.change.form s
full_form s v = paged_part v.page (λ c. c.form) (applied v.change s) (λ p c. refl)

-- outside of templates
abbrev pub end_form_outside : Act
end_form_outside c = end_form_of c.form c

pub outside_faithful : Faithful outside_plan end_form_outside
outside_faithful = λ s v st fit u.
    let P : Option ℕ → Type 0 = λ o. IsSaid v.page (end_form_of o (state_over v s)) → Matches s v (end_by (answer_of s) (outside_plan v)) (end_form_of o (state_over v s)) in
    subst P (sym (full_form s v)) (outside_by s v v.change.form refl st) u

pub end_form_faithful : Faithful end_form_plan end_form
end_form_faithful = by_test_faithful template_plan template_in_stack end_form_in_template_plan outside_plan end_form_in_template end_form_outside template_faithful end_form_in_template_faithful outside_faithful
