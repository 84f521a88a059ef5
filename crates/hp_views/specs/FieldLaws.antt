-- The acts that set one field: each plan does to a view what its act does to the whole state.
use Rattle.std.specs.Prelude.{◌≡◌, ℕ, ◌+◌, ◌<◌, Bool, true, false, ◌||◌, ◌&&◌, if◌then◌else◌, List, [], ◌∷◌, ◌++◌, Option, Some, None, map, drop, length, refl, nat_lt, nat_le}
use Rattle.std.specs.Option.{unwrap_or}
use Rattle.std.proofs.Common.{sym, subst, ap, ◌∙◌, arith, append_assoc}
use Rattle.std.proofs.lemmas.Bool.{lt-ltb, le-leb, lt-leb}
use Rattle.std.proofs.lemmas.List.{append-nil, length-append}
use Rattle.hp_elements.specs.declared.token.Mode.{Mode}
use Rattle.hp_elements.specs.declared.token.Mode.TheVariants as mode
use Rattle.hp_control.specs.declared.change.Change.{Change}
use Rattle.hp_control.specs.declared.edit.Edit.{Edit}
use Rattle.hp_control.specs.declared.element.OpenElement.{OpenElement}
use Rattle.hp_control.specs.declared.question.Crossing.TheVariants.{X7}
use Rattle.hp_control.specs.States.{ControlState, PendingFits}
use Rattle.hp_control.specs.Nothing.{nothing}
use Rattle.hp_control.specs.Truth.{answer_of}
use Rattle.hp_control.specs.Apply.{applied, named_edit, shifted}
use Rattle.hp_control.specs.Outcome.{Act, becomes, is_older, is_table_text}
use Rattle.hp_control.specs.Acts.{touching, frameset_not_ok, skip_line_feed, switch_to, keep_original, to_original, push_template_mode, pop_template_mode, replace_template_mode, replaced_first, last_mode, empty_form, point_form, current_id, set_quirks, point_head, empty_pending, append_pending, pending_text}
use Rattle.hp_control.specs.Faithful.{Page, Split, with_page, state_over, StandsOn, IsDone, Matches, FaithfulWhere, Faithful}
use Rattle.hp_control.specs.Plan.{gives, crosses, end_by}
use Rattle.hp_views.specs.FieldPlans.{with_change, frameset_off, frameset_plan, skipping, skip_plan, in_mode, switch_plan, original_kept, keep_plan, back_to_original, original_plan, with_templates, push_mode_plan, last_mode_on, pop_mode_on, pop_mode_plan, replace_mode_on, replace_mode_plan, form_cleared, empty_form_plan, form_at, point_form_plan, quirks_on, quirks_plan, own_id, head_on, point_head_plan, with_pending, empty_pending_plan, append_pending_plan}
use Rattle.hp_views.specs.Quiet.{view, drop_none, quiet, own_touch, page_there, none_there}

and_false : (b : Bool) → (b && false) ≡ false
and_false true = refl
and_false false = refl

pub frameset_faithful : Faithful frameset_plan frameset_not_ok
frameset_faithful = λ s v st fit u. quiet s v (frameset_off v.change) (λ c. record c { frameset_ok = false }) st refl (λ p c. refl) (ap (λ b. record (applied v.change s) { frameset_ok = b }) (and_false s.frameset_ok))

pub skip_faithful : Faithful skip_plan skip_line_feed
skip_faithful = λ s v st fit u. quiet s v (skipping v.change) (λ c. record c { skip_lf = true }) st refl (λ p c. refl) refl

pub switch_faithful : (m : Mode) → Faithful (switch_plan m) (switch_to m)
switch_faithful m = λ s v st fit u. quiet s v (in_mode m v.change) (λ c. record c { mode = m }) st refl (λ p c. refl) refl

pub keep_faithful : Faithful keep_plan keep_original
keep_faithful = λ s v st fit u. quiet s v (original_kept v.change) (λ c. record c { original = Some c.mode }) st refl (λ p c. refl) refl

pub original_faithful : Faithful original_plan to_original
original_faithful = λ s v st fit u. quiet s v (back_to_original v.change) (λ c. record c { mode = unwrap_or c.original c.mode; original = None }) st refl (λ p c. refl) refl

pub empty_form_faithful : Faithful empty_form_plan empty_form
empty_form_faithful = λ s v st fit u. quiet s v (form_cleared v.change) (λ c. record c { form = None }) st refl (λ p c. refl) refl

pub append_pending_faithful : (text : List ℕ) → Faithful (append_pending_plan text) (append_pending text)
append_pending_faithful text = λ s v st fit u. quiet s v (with_pending (v.change.pending ++ text) v.change) (λ c. record c { pending = c.pending ++ text }) st refl (λ p c. refl) (ap (λ l. record (applied v.change s) { pending = l }) (sym (append_assoc s.pending v.change.pending text)))

-- the form pointer at an own element
abbrev pub has_own : Split → Bool
has_own v = nat_lt 0 (length v.change.stack)

form_way : (s : ControlState) (v : Split) (es : List OpenElement) → es ≡ v.change.stack → nat_lt 0 (length es) ≡ true → applied (form_at es v.change) s ≡ record (applied v.change s) { form = Some (current_id (map (shifted s.next) es ++ drop v.change.popped s.stack)) }
form_way s v [] e h = absurd (cc)
form_way s v (x ∷ xs) e h = refl

form_popped : (es : List OpenElement) (c : Change) → (form_at es c).popped ≡ c.popped
form_popped [] c = refl
form_popped (e ∷ es) c = refl

pub point_form_faithful : FaithfulWhere has_own point_form_plan point_form
point_form_faithful = λ s v st fit u. quiet s v (form_at v.change.stack v.change) (λ c. record c { form = Some (current_id c.stack) }) st (form_popped v.change.stack v.change) (λ p c. refl) (form_way s v v.change.stack refl fit)

-- template modes
pub push_mode_faithful : (m : Mode) → Faithful (push_mode_plan m) (push_template_mode m)
push_mode_faithful m = λ s v st fit u. quiet s v (with_templates (m ∷ v.change.templates) v.change) (λ c. record c { templates = m ∷ c.templates }) st refl (λ p c. refl) refl

paged_modes : (page : Option Page) (c : ControlState) → (with_page page c).templates ≡ c.templates
paged_modes None c = refl
paged_modes (Some p) c = refl

no_more : (a b : Bool) → b ≡ false → (a && b) ≡ false
no_more true b h = h
no_more false b h = refl

both_true : (a b : Bool) → a ≡ true → b ≡ true → (a && b) ≡ true
both_true true b h k = k
both_true false b h k = absurd (cc)

own_mode : (s : ControlState) (ms : List Mode) → 0 < length ms → is_older s (last_mode (ms ++ s.templates)) ≡ false
own_mode s ms h = no_more (nat_lt 0 s.next) (nat_le (length (ms ++ s.templates)) (length s.templates)) (lt-leb (length (ms ++ s.templates)) (length s.templates) (let l : length (ms ++ s.templates) ≡ length ms + length s.templates = length-append ms s.templates in omega (arith, h, l)))

older_mode : (s : ControlState) → 0 < s.next → is_older s (last_mode s.templates) ≡ true
older_mode s h = both_true (nat_lt 0 s.next) (nat_le (length s.templates) (length s.templates)) (lt-ltb 0 s.next h) (le-leb (length s.templates) (length s.templates) (omega arith))

-- the last template mode of the full state
last_touch : (s : ControlState) (v : Split) → (last_mode (state_over v s).templates) ≡ last_mode (v.change.templates ++ s.templates)
last_touch s v = ap last_mode (paged_modes v.page (applied v.change s))

no_mode : (s : ControlState) → s ≡ nothing → s.templates ≡ []
no_mode s e = ap (λ (t : ControlState). t.templates) e

-- the last template mode goes, or another takes its place
abbrev pub last_changed : (List Mode → List Mode) → Act
last_changed g c = touching (last_mode c.templates) (becomes (record c { templates = g c.templates }))

mode_below : (g : List Mode → List Mode) → g [] ≡ [] → (s : ControlState) (c : Change) (edits : List Edit) (text : Bool) (page : Option Page) → [] ≡ c.templates → StandsOn s (view c edits text page) → Matches s (view c edits text page) (end_by (answer_of s) (last_mode_on page (view c edits text page))) (last_changed g (state_over (view c edits text page) s))
mode_below g same s c edits text None e st = ap (λ b. b || false) (ap (λ l. is_older s (last_mode (l ++ s.templates))) (sym e) ∙ older_mode s st.base.made)
mode_below g same s c edits text (Some p) e st =
    let v = view c edits text (Some p) in
    let none : c.templates ++ s.templates ≡ [] = ap (λ l. l ++ s.templates) (sym e) ∙ no_mode s st.base in
    let t = last_mode (c.templates ++ s.templates) in
    own_touch s v v t (becomes (record (state_over v s) { templates = g (c.templates ++ s.templates) }))
    (ap (λ b. b && nat_le t.what (length s.templates)) (none_there s st.base))
    (quiet s v c (λ d. record d { templates = g d.templates }) st refl (λ q d. refl) (ap (λ l. record (applied c s) { templates = l }) (none ∙ (sym same ∙ ap g (sym none)))))

mode_own : (g : List Mode → List Mode) (m : Mode) (ms ns : List Mode) (s : ControlState) (v : Split) → (m ∷ ms) ≡ v.change.templates → ns ++ s.templates ≡ g (m ∷ ms ++ s.templates) → StandsOn s v → IsDone s v (with_change (with_templates ns v.change) v) (last_changed g (state_over v s))
mode_own g m ms ns s v e h st =
    own_touch s v (with_change (with_templates ns v.change) v) (last_mode (state_over v s).templates) (becomes (record (state_over v s) { templates = g (state_over v s).templates }))
    (ap (λ t. is_older s t) (last_touch s v) ∙ (ap (λ l. is_older s (last_mode (l ++ s.templates))) (sym e) ∙ own_mode s (m ∷ ms) (omega arith)))
    (quiet s v (with_templates ns v.change) (λ d. record d { templates = g d.templates }) st refl (λ q d. refl) (ap (λ l. record (applied v.change s) { templates = l }) (h ∙ ap (λ l. g (l ++ s.templates)) e)))

pop_mode_way : (s : ControlState) (v : Split) (ms : List Mode) → ms ≡ v.change.templates → StandsOn s v → Matches s v (end_by (answer_of s) (pop_mode_on ms v)) (pop_template_mode (state_over v s))
pop_mode_way s v [] e st = mode_below (λ l. drop 1 l) refl s v.change v.edits v.older_text v.page e st
pop_mode_way s v (m ∷ ms) e st = mode_own (λ l. drop 1 l) m ms ms s v e refl st

pub pop_mode_faithful : Faithful pop_mode_plan pop_template_mode
pop_mode_faithful = λ s v st fit u. pop_mode_way s v v.change.templates refl st

replace_mode_way : (new : Mode) (s : ControlState) (v : Split) (ms : List Mode) → ms ≡ v.change.templates → StandsOn s v → Matches s v (end_by (answer_of s) (replace_mode_on new ms v)) (replace_template_mode new (state_over v s))
replace_mode_way new s v [] e st = mode_below (replaced_first new) refl s v.change v.edits v.older_text v.page e st
replace_mode_way new s v (m ∷ ms) e st = mode_own (replaced_first new) m ms (new ∷ ms) s v e refl st

pub replace_mode_faithful : (new : Mode) → Faithful (replace_mode_plan new) (replace_template_mode new)
replace_mode_faithful new = λ s v st fit u. replace_mode_way new s v v.change.templates refl st

-- the page's facts
quirks_way : (s : ControlState) (c : Change) (edits : List Edit) (text : Bool) (page : Option Page) → StandsOn s (view c edits text page) → Matches s (view c edits text page) (end_by (answer_of s) (quirks_on page (view c edits text page))) (set_quirks (state_over (view c edits text page) s))
quirks_way s c edits text None st = ap (λ b. b || false) (page_there c s st.base)
quirks_way s c edits text (Some p) st = record {
  control = refl;
  edits = sym (append-nil (map (named_edit s) edits));
  own = ap (λ b. b || false) (none_there s st.base);
  stands = record { older = st.older; text = st.text; base = st.base };
}

pub quirks_faithful : Faithful quirks_plan set_quirks
quirks_faithful = λ s v st fit u. quirks_way s v.change v.edits v.older_text v.page st

own_current : (es : List OpenElement) (n : ℕ) → own_id es ≡ current_id (map (shifted 0) es ++ drop n [])
own_current [] n = ap current_id (sym (drop_none n))
own_current (e ∷ es) n = omega arith

whole_current : (s : ControlState) → s ≡ nothing → (es : List OpenElement) (n : ℕ) → own_id es ≡ current_id (map (shifted s.next) es ++ drop n s.stack)
whole_current s h es n = let P : ControlState → Type 0 = λ t. own_id es ≡ current_id (map (shifted t.next) es ++ drop n t.stack) in subst P (sym h) (own_current es n)

head_way : (s : ControlState) (c : Change) (edits : List Edit) (text : Bool) (page : Option Page) → StandsOn s (view c edits text page) → Matches s (view c edits text page) (end_by (answer_of s) (head_on page (view c edits text page))) (point_head (state_over (view c edits text page) s))
head_way s c edits text None st = ap (λ b. b || false) (page_there c s st.base)
head_way s c edits text (Some p) st = record {
  control = ap (λ id. record (applied c s) { head = Some id; quirks = p.quirks }) (whole_current s st.base c.stack c.popped);
  edits = sym (append-nil (map (named_edit s) edits));
  own = ap (λ b. b || false) (none_there s st.base);
  stands = record { older = st.older; text = st.text; base = st.base };
}

pub head_faithful : Faithful point_head_plan point_head
head_faithful = λ s v st fit u. head_way s v.change v.edits v.older_text v.page st

-- pending table characters
pending_gone : (m : Mode) (text : List ℕ) → PendingFits m text → is_table_text m ≡ false → text ≡ []
pending_gone mode.InTableText text h e = absurd (cc)
pending_gone _ text h e = h

pending_way : (s : ControlState) (v : Split) (b : Bool) → b ≡ is_table_text s.mode → StandsOn s v → Matches s v (end_by (answer_of s) (if b then crosses X7 else gives (with_change (with_pending [] v.change) v))) (empty_pending (state_over v s))
pending_way s v true e st = ap (λ b. b || false) (sym e)
pending_way s v false e st =
    own_touch s v (with_change (with_pending [] v.change) v) pending_text (becomes (record (state_over v s) { pending = [] })) (sym e)
    (quiet s v (with_pending [] v.change) (λ c. record c { pending = [] }) st refl (λ p c. refl) (ap (λ l. record (applied v.change s) { pending = l }) (append-nil s.pending ∙ pending_gone s.mode s.pending st.older.pending (sym e))))

pub empty_pending_faithful : Faithful empty_pending_plan empty_pending
empty_pending_faithful = λ s v st fit u. pending_way s v v.older_text st.text st
