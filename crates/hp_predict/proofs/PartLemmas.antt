-- The parts of a guessed state.
use Rattle.std.proofs.Common.{◌≡◌, ℕ, suc, ◌+◌, ◌<◌, ◌≤◌, Bool, true, false, cond, List, [], ◌∷◌, ◌++◌, length, drop, get_or, map, refl, sym, ap, subst, arith, length-append}
use Rattle.std.specs.Prelude.{Option, None, Some, IfSome, if◌then◌else◌}
use Rattle.std.specs.List.{All, count_by}
use Rattle.std.proofs.lemmas.List.Elements.{All-nil, All-cons}
use Rattle.std.proofs.lemmas.List.Sums.{sum_by-cons}
use Rattle.hp_elements.specs.Names.{text_of}
use Rattle.hp_elements.specs.Sets.{in_set}
use Rattle.hp_elements.specs.KnownNames as known
use Rattle.hp_elements.specs.declared.sets.Namespace.TheVariants.{Html}
use Rattle.hp_elements.specs.declared.sets.SetName.TheVariants.{Formatting, Markers}
use Rattle.hp_elements.specs.declared.token.Mode.{Mode}
use Rattle.hp_elements.specs.declared.token.Mode.TheVariants as mode
use Rattle.hp_control.specs.States.{AreIds, IsId, IsNew, IsFormatting, entry_ids, is_rooted, is_tall, is_template}
use Rattle.hp_control.specs.declared.element.OpenElement.{OpenElement}
use Rattle.hp_control.specs.declared.element.FormattingEntry.{FormattingEntry}
use Rattle.hp_control.specs.declared.element.FormattingEntry.TheVariants.{Marker, Element}
use Rattle.hp_predict.specs.OpenNames.{Names, is_name}
use Rattle.hp_predict.specs.Guess.{element, elements, entries, template_modes, first_of, first_form, top, rest_of_names}

-- body and html
abbrev pub page : Names
page = text_of known.Body ∷ text_of known.Html ∷ []

abbrev pub ids : List OpenElement → List ℕ
ids es = map (λ e. e.id) es

pub elements_length : (names : Names) → length (elements names) ≡ length names
unfolding elements
elements_length [] = refl
elements_length (n ∷ ns) = ap suc (elements_length ns)

pub page_length : (names : Names) → length (names ++ page) ≡ length names + 2
page_length names = length-append names page

pub top_name : (names : Names) (e : OpenElement) → 0 < length names → e ≡ get_or (elements names) 0 e → e.name ≡ top names
unfolding elements
top_name [] e h is = absurd (omega arith)
top_name (n ∷ ns) e h is = ap (λ (x : OpenElement). x.name) is

pub without_top : (names : Names) → drop 1 (elements names) ≡ elements (rest_of_names names)
unfolding elements
without_top [] = refl
without_top (n ∷ ns) = refl

rooted_below : (e : OpenElement) (es : List OpenElement) → is_rooted es ≡ true → is_rooted (e ∷ es) ≡ true
rooted_below e [] h = absurd (no h)
  where
    no : false ≡ true → ⊥
    no x = cc
rooted_below e (f ∷ fs) h = h

pub rooted : (names : Names) → is_rooted (elements (names ++ page)) ≡ true
unfolding elements
rooted [] = refl
rooted (n ∷ ns) = rooted_below (element (suc (length (ns ++ page))) n) (elements (ns ++ page)) (rooted ns)

pub tall : (names : Names) → is_tall (elements (names ++ page)) ≡ true
unfolding elements
tall [] = refl
tall (n ∷ []) = refl
tall (n ∷ m ∷ ns) = refl

new_id : (names : Names) (x : ℕ) → length names < x → IsNew x (ids (elements names))
unfolding elements
new_id [] x h = tt
new_id (n ∷ ns) x h = (λ e. omega arith, new_id ns x (omega arith))

pub stack_ids : (names : Names) (next : ℕ) → length names < next → AreIds 0 next (ids (elements names))
unfolding elements
stack_ids [] next h = tt
stack_ids (n ∷ ns) next h = (omega arith, h, new_id ns (suc (length ns)) (omega arith), stack_ids ns next (omega arith))

-- what an entry says, as two tests decide
abbrev entry_by : Bool → Bool → ℕ → List ℕ → List FormattingEntry
entry_by formatting marker id name =
    if formatting then Element id (record { namespace = Html; name = name; attributes = [] }) ∷ []
    else if marker then Marker ∷ []
    else []

new_by : (f m : Bool) (id x : ℕ) (name : List ℕ) (rest : List FormattingEntry) → (x ≡ id → ⊥) → IsNew x (entry_ids rest) → IsNew x (entry_ids (entry_by f m id name ++ rest))
new_by true m id x name rest h r = (h, r)
new_by false true id x name rest h r = r
new_by false false id x name rest h r = r

new_entry : (names : Names) (x : ℕ) → length names < x → IsNew x (entry_ids (entries names))
unfolding entries
new_entry [] x h = tt
new_entry (n ∷ ns) x h = new_by (in_set Formatting Html n) (in_set Markers Html n) (suc (length ns)) x n (entries ns) (λ e. omega arith) (new_entry ns x (omega arith))

ids_by : (f m : Bool) (id next : ℕ) (name : List ℕ) (rest : List FormattingEntry) → 1 < id → id < next → IsNew id (entry_ids rest) → AreIds 1 next (entry_ids rest) → AreIds 1 next (entry_ids (entry_by f m id name ++ rest))
ids_by true m id next name rest low high new r = (low, high, new, r)
ids_by false true id next name rest low high new r = r
ids_by false false id next name rest low high new r = r

no_entries : entries page ≡ []
unfolding entries
no_entries = refl

pub list_ids : (names : Names) (next : ℕ) → length (names ++ page) < next → AreIds 1 next (entry_ids (entries (names ++ page)))
unfolding entries
list_ids [] next h = subst (λ (es : List FormattingEntry). AreIds 1 next (entry_ids es)) (sym no_entries) tt
list_ids (n ∷ ns) next h =
    let e = page_length ns in
    ids_by (in_set Formatting Html n) (in_set Markers Html n) (suc (length (ns ++ page))) next n (entries (ns ++ page)) (omega arith) h (new_entry (ns ++ page) (suc (length (ns ++ page))) (omega arith)) (list_ids ns next (omega arith))

formatting_by : (f m : Bool) (id : ℕ) (name : List ℕ) (rest : List FormattingEntry) → in_set Formatting Html name ≡ f → All IsFormatting rest → All IsFormatting (entry_by f m id name ++ rest)
formatting_by true m id name rest e r = All-cons IsFormatting (Element id (record { namespace = Html; name = name; attributes = [] })) rest (refl, e) r
formatting_by false true id name rest e r = All-cons IsFormatting Marker rest tt r
formatting_by false false id name rest e r = r

pub formatting : (names : Names) → All IsFormatting (entries names)
unfolding entries
formatting [] = All-nil IsFormatting
formatting (n ∷ ns) = formatting_by (in_set Formatting Html n) (in_set Markers Html n) (suc (length ns)) n (entries ns) refl (formatting ns)

by_length : (f m : Bool) (id : ℕ) (name : List ℕ) (rest : List FormattingEntry) → length (entry_by f m id name ++ rest) ≤ suc (length rest)
by_length true m id name rest = omega arith
by_length false true id name rest = omega arith
by_length false false id name rest = omega arith

pub entries_length : (names : Names) → length (entries names) ≤ length names
unfolding entries
entries_length [] = omega arith
entries_length (n ∷ ns) =
    let h = by_length (in_set Formatting Html n) (in_set Markers Html n) (suc (length ns)) n (entries ns) in
    let k = entries_length ns in
    omega arith

form_by : (o : Option ℕ) (b : Bool) (id next : ℕ) → IfSome o (IsId next) → IsId next id → IfSome (first_of o (if b then Some id else None)) (IsId next)
form_by (Some x) b id next h k = h
form_by None true id next h k = k
form_by None false id next h k = tt

no_form : first_form page ≡ None
unfolding first_form
no_form = refl

pub form_is : (names : Names) (next : ℕ) → length (names ++ page) < next → IfSome (first_form (names ++ page)) (IsId next)
unfolding first_form
form_is [] next h = subst (λ (o : Option ℕ). IfSome o (IsId next)) (sym no_form) tt
form_is (n ∷ ns) next h =
    let e = page_length ns in
    form_by (first_form (ns ++ page)) (is_name known.Form n) (suc (length (ns ++ page))) next (form_is ns next (omega arith)) (omega arith, h)

counted_by : (b : Bool) (n : ℕ) (modes : List Mode) → n ≤ length modes → cond b 1 0 + n ≤ length (if b then mode.InTemplate ∷ modes else modes)
counted_by true n modes h = omega arith
counted_by false n modes h = omega arith

one_more : (e : OpenElement) (es : List OpenElement) → count_by is_template (e ∷ es) ≡ cond (is_template e) 1 0 + count_by is_template es
one_more e es = sum_by-cons (λ (x : OpenElement). cond (is_template x) 1 0) e es

pub templates : (names : Names) → count_by is_template (elements names) ≤ length (template_modes names)
unfolding elements template_modes
templates [] = omega arith
templates (n ∷ ns) =
    let e = one_more (element (suc (length ns)) n) (elements ns) in
    let h : cond (is_template (element (suc (length ns)) n)) 1 0 + count_by is_template (elements ns) ≤ length (template_modes (n ∷ ns)) = counted_by (is_name known.Template n) (count_by is_template (elements ns)) (template_modes ns) (templates ns) in
    omega arith
