-- The list of active formatting elements: each plan does to a view what its act does to the whole state.
use Rattle.std.specs.Prelude.{◌≡◌, ℕ, suc, ◌+◌, true, List, [], ◌∷◌, ◌++◌, Ok, map, drop, length, refl, nat_lt}
use Rattle.std.specs.Option.{is_some}
use Rattle.std.specs.List.{drop-map}
use Rattle.std.proofs.Common.{sym, ap, ◌∙◌, arith}
use Rattle.hp_elements.specs.declared.tag.Tag.{Tag}
use Rattle.hp_control.specs.declared.change.Change.{Change}
use Rattle.hp_control.specs.declared.element.OpenElement.{OpenElement}
use Rattle.hp_control.specs.declared.element.FormattingEntry.TheVariants.{Marker, Element}
use Rattle.hp_control.specs.States.{ControlState}
use Rattle.hp_control.specs.Walks.{cleared, cleared_by, last_named}
use Rattle.hp_control.specs.Truth.{answer_of}
use Rattle.hp_control.specs.Apply.{applied, shifted, shifted_entry}
use Rattle.hp_control.specs.Acts.{add_marker, append_entry, clear, current_id}
use Rattle.hp_control.specs.Composed.{is_listed}
use Rattle.hp_control.specs.Faithful.{Split, state_over, StandsOn, IsDone, Matches, FaithfulWhere, Faithful, FaithfulTest}
use Rattle.hp_control.specs.Plan.{end_by}
use Rattle.hp_views.specs.declared.walks.Walk.{Walk}
use Rattle.hp_views.specs.declared.walks.Walk.TheVariants.{Found, Stopped, PastAll}
use Rattle.hp_views.specs.FieldPlans.{with_change, own_id}
use Rattle.hp_views.specs.FieldLaws.{has_own}
use Rattle.hp_views.specs.ListPlans.{with_entries, marker_plan, append_plan, cut, clear_on, clear_plan, listed_on, listed_plan}
use Rattle.hp_views.specs.OwnWalks.{seen_by, cleared_with, cleared_own, listed_own}
use Rattle.hp_views.specs.Quiet.{quiet, paged_part}
use Rattle.hp_views.specs.Reading.{listed_read}
use Rattle.hp_views.specs.Walks.{marker_of, entry_walk}

pub marker_faithful : Faithful marker_plan add_marker
marker_faithful = λ s v st fit u. quiet s v (with_entries (Marker ∷ v.change.formatting) v.change) (λ c. record c { formatting = Marker ∷ c.formatting }) st refl (λ p c. refl) refl

own_top : (s : ControlState) (n : ℕ) (es : List OpenElement) → nat_lt 0 (length es) ≡ true → s.next + own_id es ≡ current_id (map (shifted s.next) es ++ drop n s.stack)
own_top s n [] h = absurd (cc)
own_top s n (e ∷ es) h = refl

-- an entry for an own current node
pub append_faithful : (tag : Tag) → FaithfulWhere has_own (append_plan tag) (append_entry tag)
append_faithful tag = λ s v st fit u. quiet s v (with_entries (Element (own_id v.change.stack) tag ∷ v.change.formatting) v.change) (λ c. record c { formatting = Element (current_id c.stack) tag ∷ c.formatting }) st refl (λ p c. refl) (ap (λ id. record (applied v.change s) { formatting = Element id tag ∷ (applied v.change s).formatting }) (own_top s v.change.popped v.change.stack fit))

relisted : (s : ControlState) (v : Split) (d : Change) (w : Walk) → StandsOn s v → d.popped ≡ v.change.popped → marker_of v.change.formatting ≡ w → applied d s ≡ record (applied v.change s) { formatting = cleared_with w (map (shifted_entry s.next) v.change.formatting) (cleared_by v.change.cuts s.formatting) } → IsDone s v (with_change d v) (clear (state_over v s))
relisted s v d w st p e h = quiet s v d (λ c. record c { formatting = cleared c.formatting }) st p (λ q c. refl) (h ∙ ap (λ l. record (applied v.change s) { formatting = l }) (sym (cleared_own s.next v.change.formatting (cleared_by v.change.cuts s.formatting) ∙ ap (λ x. cleared_with x (map (shifted_entry s.next) v.change.formatting) (cleared_by v.change.cuts s.formatting)) e)))

clear_past : (s : ControlState) (c : Change) → applied (cut c) s ≡ record (applied c s) { formatting = cleared (cleared_by c.cuts s.formatting) }
clear_past s c = let more : c.cuts + 1 ≡ suc c.cuts = omega arith in ap (λ n. record (applied c s) { formatting = cleared_by n s.formatting }) more

clear_way : (s : ControlState) (v : Split) (w : Walk) → StandsOn s v → marker_of v.change.formatting ≡ w → Matches s v (end_by (answer_of s) (clear_on v w)) (clear (state_over v s))
clear_way s v (Found k) st e = relisted s v (with_entries (drop (k + 1) v.change.formatting) v.change) (Found k) st refl e (ap (λ l. record (applied v.change s) { formatting = l ++ cleared_by v.change.cuts s.formatting }) (sym (drop-map (shifted_entry s.next) (k + 1) v.change.formatting)))
clear_way s v Stopped st e = relisted s v (cut v.change) Stopped st refl e (clear_past s v.change)
clear_way s v PastAll st e = relisted s v (cut v.change) PastAll st refl e (clear_past s v.change)

pub clear_faithful : Faithful clear_plan clear
clear_faithful = λ s v st fit u. clear_way s v (marker_of v.change.formatting) st refl

-- the last entry of a name
listed_way : (s : ControlState) (name : List ℕ) (v : Split) (w : Walk) → end_by (answer_of s) (listed_on name v w) ≡ Ok (seen_by w (is_some (last_named name (cleared_by v.change.cuts s.formatting))))
listed_way s name v (Found k) = refl
listed_way s name v Stopped = refl
listed_way s name v PastAll = ap Ok (listed_read (last_named name (cleared_by v.change.cuts s.formatting)) (drop v.change.popped s.stack))

pub listed_faithful : (name : List ℕ) → FaithfulTest (listed_plan name) (is_listed name)
listed_faithful name = λ s v st.
    listed_way s name v (entry_walk name v.change.formatting)
    ∙ ap Ok (sym (ap (λ l. is_some (last_named name l)) (paged_part v.page (λ c. c.formatting) (applied v.change s) (λ p c. refl))
    ∙ listed_own s.next name v.change.formatting (cleared_by v.change.cuts s.formatting)))
