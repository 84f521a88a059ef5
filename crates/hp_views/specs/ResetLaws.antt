-- Resetting the insertion mode: the plan does to a view what the act does to the whole state (13.2.4.1).
use Rattle.std.specs.Prelude.{◌≡◌, suc, ◌<◌, Bool, true, false, not, ◌&&◌, ◌||◌, if◌then◌else◌, List, [], ◌∷◌, ◌++◌, Option, Some, None, Result, Ok, map, drop, length, refl, nat_lt}
use Rattle.std.specs.Option.{is_some, unwrap_or}
use Rattle.std.specs.List.{list_any}
use Rattle.std.proofs.Common.{sym, subst, ap, ◌∙◌, arith}
use Rattle.std.proofs.lemmas.Bool.{lt-ltb, ne_eqb}
use Rattle.std.proofs.lemmas.List.{append-nil, length-drop}
use Rattle.hp_elements.specs.KnownNames as known
use Rattle.hp_elements.specs.declared.token.Mode.{Mode}
use Rattle.hp_elements.specs.declared.token.Mode.TheVariants as mode
use Rattle.hp_control.specs.declared.change.Change.{Change}
use Rattle.hp_control.specs.declared.element.OpenElement.{OpenElement}
use Rattle.hp_control.specs.declared.question.Crossing.{Crossing}
use Rattle.hp_control.specs.States.{ControlState, is_named, is_template}
use Rattle.hp_control.specs.Nothing.{nothing}
use Rattle.hp_control.specs.Walks.{is_cell, is_last, mode_of, mode_at, reset_mode, last_template_mode, html_mode, select_mode, table_comes}
use Rattle.hp_control.specs.Truth.{answer_of}
use Rattle.hp_control.specs.Apply.{applied, shifted}
use Rattle.hp_control.specs.Acts.{reset}
use Rattle.hp_control.specs.Faithful.{Page, Split, with_page, state_over, IsBase, StandsOn, Matches, FaithfulWhere}
use Rattle.hp_control.specs.Plan.{gives, end_by}
use Rattle.hp_control.specs.Running.{on_end, end_then}
use Rattle.hp_views.specs.declared.reset.Decides.{Decides}
use Rattle.hp_views.specs.declared.reset.Decides.TheVariants.{Nothing, Select, To}
use Rattle.hp_views.specs.FieldPlans.{in_mode}
use Rattle.hp_views.specs.OwnWalks.{seen_own}
use Rattle.hp_views.specs.PlacePlans.{a_table, a_template}
use Rattle.hp_views.specs.PopLaws.{none_left}
use Rattle.hp_views.specs.Quiet.{quiet, paged_part}
use Rattle.hp_views.specs.ResetPlans.{is_first, has_head, mode_or_nothing, decided_by, decides, to_mode, table_plan, select_plan, reset_by, reset_on, reset_plan}
use Rattle.hp_views.specs.StackLaws.{full_stack, seen_way}
use Rattle.hp_views.specs.Walks.{walk_of}

-- over an older state: no own html element, and an own template exactly where there is an own template mode
abbrev pub is_same : Bool → Bool → Bool
is_same true b = b
is_same false b = not b

abbrev pub is_kept_by : Option Page → List Mode → List OpenElement → Bool
is_kept_by None ms es = not (list_any (is_named known.Html) es) && is_same (list_any is_template es) (nat_lt 0 (length ms))
is_kept_by (Some p) ms es = true

abbrev pub keeps_modes : Split → Bool
keeps_modes v = is_kept_by v.page v.change.templates v.change.stack

abbrev pub IsFine : Option Page → List Mode → List OpenElement → Type 0
IsFine None ms es = (list_any (is_named known.Html) es ≡ false) × (list_any is_template es ≡ nat_lt 0 (length ms))
IsFine (Some p) ms es = Unit {0}

fine_of : (a b d : Bool) → (not a && is_same b d) ≡ true → (a ≡ false) × (b ≡ d)
fine_of true b d h = absurd (cc)
fine_of false true d h = (refl, sym h)
fine_of false false true h = absurd (cc)
fine_of false false false h = (refl, refl)

fine : (page : Option Page) (ms : List Mode) (es : List OpenElement) → is_kept_by page ms es ≡ true → IsFine page ms es
fine None ms es h = fine_of (list_any (is_named known.Html) es) (list_any is_template es) (nat_lt 0 (length ms)) h
fine (Some p) ms es h = tt

later : (a b : Bool) → (a || b) ≡ false → b ≡ false
later true b h = absurd (cc)
later false b h = h

fine_below : (page : Option Page) (ms : List Mode) (e : OpenElement) (es : List OpenElement) → is_template e ≡ false → IsFine page ms (e ∷ es) → IsFine page ms es
fine_below None ms e es h f = (later (is_named known.Html e) (list_any (is_named known.Html) es) f.0, ap (λ b. b || list_any is_template es) (sym h) ∙ f.1)
fine_below (Some p) ms e es h f = tt

-- what an element decides, as a mode
abbrev pub turned : Mode → Decides → Option Mode
turned m Nothing = None
turned m Select = Some m
turned m (To n) = Some n

chosen : (sel cell tem head html : Bool) (sm t u hm gm : Mode) (o : Option Mode) → (tem ≡ true → t ≡ u) → (html ≡ true → hm ≡ gm)
    → (if sel then Some sm else if cell then Some mode.InCell else if tem then Some t else if head then Some mode.InHead else if html then Some hm else o)
    ≡ turned sm (if sel then Select else if cell then To mode.InCell else if tem then To u else if head then To mode.InHead else if html then To gm else mode_or_nothing o)
chosen true cell tem head html sm t u hm gm o h k = refl
chosen false true tem head html sm t u hm gm o h k = refl
chosen false false true head html sm t u hm gm o h k = ap Some (h refl)
chosen false false false true html sm t u hm gm o h k = refl
chosen false false false false true sm t u hm gm o h k = ap Some (k refl)
chosen false false false false false sm t u hm gm None h k = refl
chosen false false false false false sm t u hm gm (Some m) h k = refl

undecided : (sel cell tem : Bool) (u : Mode) (rest : Decides) → (if sel then Select else if cell then To mode.InCell else if tem then To u else rest) ≡ Nothing → tem ≡ false
undecided true cell tem u rest h = absurd (cc)
undecided false true tem u rest h = absurd (cc)
undecided false false true u rest h = absurd (cc)
undecided false false false u rest h = refl

same_decision : (h first head : Bool) (ts ms : List Mode) (e : OpenElement) (below : List OpenElement) → is_last below ≡ first → (is_template e ≡ true → last_template_mode ts ≡ last_template_mode ms) → (is_named known.Html e ≡ true → html_mode h ≡ html_mode head) → mode_at h ts e below ≡ turned (select_mode (table_comes below)) (decided_by first head ms e)
same_decision h first head ts ms e below l t m =
    let P : Bool → Type 0 = λ b. mode_at h ts e below ≡ turned (select_mode (table_comes below)) (decided_by b head ms e) in
    subst P l (chosen (is_named known.Select e) (is_cell e && not (is_last below)) (is_template e) (is_named known.Head e && not (is_last below)) (is_named known.Html e) (select_mode (table_comes below)) (last_template_mode ts) (last_template_mode ms) (html_mode h) (html_mode head) (mode_of e) t m)

-- the last element of all
last_over : (xs ys : List OpenElement) → 0 < length ys → is_last (xs ++ ys) ≡ false
last_over [] [] h = absurd (omega (arith, h))
last_over [] (y ∷ ys) h = refl
last_over (x ∷ xs) ys h = refl

last_first : (s : ControlState) (c : Change) (page : Option Page) (es : List OpenElement) → IsBase page c s → is_last (map (shifted s.next) es ++ drop c.popped s.stack) ≡ is_first page es
last_first s c None es h = last_over (map (shifted s.next) es) (drop c.popped s.stack) (omega (arith, h.left, length-drop c.popped s.stack))
last_first s c (Some p) [] h = ap is_last (none_left s h c.popped)
last_first s c (Some p) (e ∷ es) h = sym (ne_eqb (suc (length es)) 0 (λ n. omega (arith, n)))

first_true : (a b d : Bool) → (a || b) ≡ d → a ≡ true → d ≡ true
first_true true b d h k = sym h
first_true false b d h k = absurd (cc)

last_own : (ms ns : List Mode) → nat_lt 0 (length ms) ≡ true → last_template_mode (ms ++ ns) ≡ last_template_mode ms
last_own [] ns h = absurd (cc)
last_own (m ∷ ms) ns h = refl

no_modes : (s : ControlState) → s ≡ nothing → (ms : List Mode) → ms ++ s.templates ≡ ms
no_modes s e ms = ap (λ (t : ControlState). ms ++ t.templates) e ∙ append-nil ms

template_mode : (s : ControlState) (c : Change) (page : Option Page) (e : OpenElement) (es : List OpenElement) → IsBase page c s → IsFine page c.templates (e ∷ es) → is_template e ≡ true → last_template_mode (c.templates ++ s.templates) ≡ last_template_mode c.templates
template_mode s c None e es h f t = last_own c.templates s.templates (first_true (is_template e) (list_any is_template es) (nat_lt 0 (length c.templates)) f.1 t)
template_mode s c (Some p) e es h f t = ap last_template_mode (no_modes s h c.templates)

never_both : (a b : Bool) → (a || b) ≡ false → a ≡ true → ⊥
never_both true b h k = cc
never_both false b h k = cc

head_mode : (s : ControlState) (c : Change) (page : Option Page) (e : OpenElement) (es : List OpenElement) → IsFine page c.templates (e ∷ es) → is_named known.Html e ≡ true → html_mode (is_some (with_page page (applied c s)).head) ≡ html_mode (has_head page)
head_mode s c None e es f t = absurd (never_both (is_named known.Html e) (list_any (is_named known.Html) es) f.0 t)
head_mode s c (Some p) e es f t = refl

-- the full state's head and template modes
abbrev pub a_head : Option Page → ControlState → Change → Bool
a_head page s c = is_some (with_page page (applied c s)).head

no_own_modes : (ms : List Mode) → false ≡ nat_lt 0 (length ms) → ms ≡ []
no_own_modes [] h = refl
no_own_modes (m ∷ ms) h = absurd (let z : false ≡ true = h ∙ lt-ltb 0 (suc (length ms)) (omega arith) in cc)

reset_below : (s : ControlState) (c : Change) (page : Option Page) → IsBase page c s → IsFine page c.templates [] → reset_mode (is_some s.head) s.templates (drop c.popped s.stack) ≡ reset_mode (a_head page s c) (c.templates ++ s.templates) (drop c.popped s.stack)
reset_below s c None h f = ap (λ ms. reset_mode (is_some s.head) (ms ++ s.templates) (drop c.popped s.stack)) (sym (no_own_modes c.templates f.1))
reset_below s c (Some p) h f = ap (reset_mode (is_some s.head) s.templates) (none_left s h c.popped) ∙ ap (reset_mode (a_head (Some p) s c) (c.templates ++ s.templates)) (sym (none_left s h c.popped))

-- a select
select_way : (s : ControlState) (v : Split) (es : List OpenElement) → end_by (answer_of s) (select_plan v es) ≡ Ok (to_mode v (select_mode (table_comes (map (shifted s.next) es ++ drop v.change.popped s.stack))))
select_way s v es =
    end_then (answer_of s) (table_plan v es) (λ b. gives (to_mode v (select_mode b)))
    ∙ (ap (λ e. on_end e (λ b. Ok (to_mode v (select_mode b)))) (seen_way s a_table a_template v.change.popped (walk_of a_table a_template es))
    ∙ ap (λ b. Ok (to_mode v (select_mode b))) (sym (seen_own s.next a_table a_template es (drop v.change.popped s.stack))))

by_decision : (s : ControlState) (v : Split) (es : List OpenElement) (d : Decides) (m : Mode) → (d ≡ Nothing → end_by (answer_of s) (reset_on v es) ≡ Ok (to_mode v m)) → end_by (answer_of s) (reset_by v es d (reset_on v es)) ≡ Ok (to_mode v (unwrap_or (turned (select_mode (table_comes (map (shifted s.next) es ++ drop v.change.popped s.stack))) d) m))
by_decision s v es Nothing m h = h refl
by_decision s v es Select m h = select_way s v es
by_decision s v es (To n) m h = refl

not_template : (first head : Bool) (ms : List Mode) (e : OpenElement) → decided_by first head ms e ≡ Nothing → is_template e ≡ false
not_template first head ms e h = undecided (is_named known.Select e) (is_cell e && not first) (is_template e) (last_template_mode ms) (if is_named known.Head e && not first then To mode.InHead else if is_named known.Html e then To (html_mode head) else mode_or_nothing (mode_of e)) h

reset_way : (s : ControlState) (v : Split) (es : List OpenElement) → StandsOn s v → IsFine v.page v.change.templates es → end_by (answer_of s) (reset_on v es) ≡ Ok (to_mode v (reset_mode (a_head v.page s v.change) (v.change.templates ++ s.templates) (map (shifted s.next) es ++ drop v.change.popped s.stack)))
reset_way s v [] st f = ap (λ m. Ok (to_mode v m)) (reset_below s v.change v.page st.base f)
reset_way s v (e ∷ es) st f =
    let c = v.change in
    let below = map (shifted s.next) es ++ drop c.popped s.stack in
    let ts = c.templates ++ s.templates in
    let d = decides v.page c.templates e es in
    let rest = reset_mode (a_head v.page s c) ts below in
    by_decision s v es d rest (λ n. reset_way s v es st (fine_below v.page c.templates e es (not_template (is_first v.page es) (has_head v.page) c.templates e n) f))
    ∙ ap (λ o. Ok (to_mode v (unwrap_or o rest))) (sym (same_decision (a_head v.page s c) (is_first v.page es) (has_head v.page) ts c.templates (shifted s.next e) below
    (last_first s c v.page es st.base)
    (template_mode s c v.page e es st.base f)
    (head_mode s c v.page e es f)))

pub reset_faithful : FaithfulWhere keeps_modes reset_plan reset
reset_faithful = λ s v st fit u.
    let x = state_over v s in
    let m = reset_mode (is_some x.head) x.templates x.stack in
    let own = reset_mode (a_head v.page s v.change) (v.change.templates ++ s.templates) (map (shifted s.next) v.change.stack ++ drop v.change.popped s.stack) in
    let same : own ≡ m =
    ap (λ ts. reset_mode (is_some x.head) ts (map (shifted s.next) v.change.stack ++ drop v.change.popped s.stack)) (sym (paged_part v.page (λ c. c.templates) (applied v.change s) (λ p c. refl)))
    ∙ ap (reset_mode (is_some x.head) x.templates) (sym (full_stack s v)) in
    let P : Result Split Crossing → Type 0 = λ e. Matches s v e (reset x) in
    subst P (sym (reset_way s v v.change.stack st (fine v.page v.change.templates v.change.stack fit) ∙ ap (λ n. Ok (to_mode v n)) same))
    (quiet s v (in_mode m v.change) (λ c. record c { mode = m }) st refl (λ p c. refl) refl)
