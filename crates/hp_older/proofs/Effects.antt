-- The acts that pop leave so much of the new elements, and never pop the only element.
use Rattle.std.proofs.Common.{◌≡◌, ℕ, ◌+◌, ◌<◌, List, [], ◌∷◌, length, Bool, true, false, ◌||◌, ◌&&◌, not, refl, sym, ap, ◌∙◌, subst, arith, Option, None, Some}
use Rattle.std.specs.Prelude.{if◌then◌else◌}
use Rattle.std.specs.List.{list_all}
use Rattle.std.specs.Option.{is_some}
use Rattle.std.specs.Str.{bytes_eq}
use Rattle.std.proofs.lemmas.Bool.{and_parts, and_from, true≢false, lt-leb, false_from_ne_true, or_from}
use Rattle.hp_elements.specs.Names.{is_among, lowered, text_of, words}
use Rattle.hp_elements.specs.Sets.{members}
use Rattle.hp_elements.specs.declared.act.Scope.TheVariants as scope
use Rattle.hp_elements.specs.declared.kinds.Kinds.{Kinds}
use Rattle.hp_elements.specs.declared.kinds.Kinds.TheVariants as kinds
use Rattle.hp_elements.specs.declared.known.Known.{Known}
use Rattle.hp_elements.specs.declared.known.Known.TheVariants as names
use Rattle.hp_elements.specs.declared.element_name.ElementName.TheVariants as element
use Rattle.hp_elements.specs.KnownNames as known
use Rattle.hp_elements.specs.declared.sets.SetName.TheVariants as sets
use Rattle.hp_control.specs.declared.element.OpenElement.{OpenElement}
use Rattle.hp_control.specs.Acts.{above, pop_by, pop_run, pop_to, popped_by, through, through_named, walk, with_it}
use Rattle.hp_control.specs.Composed.{close, close_description, close_item, close_paragraph, implied, implied_but, implied_except, implied_thoroughly, is_item, named_in_scope}
use Rattle.hp_control.specs.Foreign.{pop_to_point, through_foreign}
use Rattle.hp_control.specs.KindTests.{within}
use Rattle.hp_control.specs.Outcome.{Act, and_then, choose, nothing_done}
use Rattle.hp_control.specs.States.{ControlState, is_html, is_named, is_rooted}
use Rattle.hp_control.specs.Walks.{reach, run_of, seen}
use Rattle.hp_model.specs.Steps.{implied_but_for}
use Rattle.hp_elements.proofs.FindLemmas.{equal_bytes}
use Rattle.hp_model.proofs.Courses.{bytes_eq-same}
use Rattle.hp_model.proofs.Stacks.{rooted-drop}
use Rattle.hp_older.specs.GoesOn.{is_new}
use Rattle.hp_older.proofs.Keys.{apart-foreign, apart-name, apart-set, named-named, named-within, named_in}
use Rattle.hp_older.proofs.Popping.{all-popped, kept-run, kept-through, kept-to, reach-root, reach-short, run-short, shown-reach, shown-run}
use Rattle.hp_older.proofs.Levels.{Strong, Thin, Weak, core_names, key_names, strong-weak, strong_pop, template_names, thin_pop, weak-thin, weak_all, weak_pop, weak_then}

pub or_left : (b : Bool) → b ≡ true → (b || false) ≡ true
or_left true h = refl
or_left false h = absurd (true≢false (sym h))

pub root-html : (e : OpenElement) → is_rooted (e ∷ []) ≡ true → named_in (words "html") e ≡ true
root-html e r =
    let parts = and_parts (is_html e) (bytes_eq e.name (text_of known.Html)) (and_parts (is_named known.Html e) _ r).0 in
    and_from (is_html e) (is_among (words "html") e.name) parts.0 (or_left (bytes_eq e.name (text_of known.Html)) parts.1)

-- kinds without html don't have the root
pub root-apart : (goals : Kinds) → ((e : OpenElement) → within goals e ≡ true → named_in (words "html") e ≡ false) → (e : OpenElement) → is_rooted (e ∷ []) ≡ true → within goals e ≡ false
root-apart goals h e r = false_from_ne_true (within goals e) (λ k. true≢false (sym (root-html e r) ∙ h e k))

-- what has none of many names has none of fewer
pub apart-fewer : (few many : List (List ℕ)) → list_all (is_among many) few ≡ true → (e : OpenElement) → named_in many e ≡ false → named_in few e ≡ false
apart-fewer few many h e k = false_from_ne_true (named_in few e) (λ f. true≢false (sym (named-named few many h e f) ∙ k))

new_apart : (s : ControlState) (names : List (List ℕ)) (e : OpenElement) → named_in names e ≡ false → (is_new s e && named_in names e) ≡ false
new_apart s names e h = go (is_new s e)
  where
    go : (b : Bool) → (b && named_in names e) ≡ false
    go true = h
    go false = refl

-- so much is left and nothing is spared
abbrev pub Leaves : (List OpenElement → Type 0) → Act → ControlState → Type 0
Leaves L f c = L (f c).control.stack × ((f c).spared ≡ false)

pub pops-by : (L : List OpenElement → Type 0) (k : ℕ) (c : ControlState) → k < length c.stack → L (popped_by k c.stack) → Leaves L (pop_by k) c
pops-by L k c l h = (h, lt-leb (length c.stack) k l)

pub run-strong : (s : ControlState) (names : Kinds) (c : ControlState) → is_rooted c.stack ≡ true → ((e : OpenElement) → within names e ≡ true → named_in key_names e ≡ false) → Leaves (Strong s c.stack) (pop_run names) c
run-strong s names c r h =
    let l = run-short names c.stack r (root-apart names (λ e k. apart-fewer (words "html") key_names refl e (h e k))) in
    pops-by (Strong s c.stack) (run_of names c.stack) c l
    (strong_pop s (run_of names c.stack) c.stack l (kept-run (λ e. is_new s e && named_in key_names e) names c.stack (λ e k. new_apart s key_names e (h e k))))

pub run-thin : (s : ControlState) (names : Kinds) (c : ControlState) → is_rooted c.stack ≡ true → ((e : OpenElement) → within names e ≡ true → named_in template_names e ≡ false) → ((e : OpenElement) → within names e ≡ true → named_in (words "html") e ≡ false) → Leaves (Thin s c.stack) (pop_run names) c
run-thin s names c r h g =
    let l = run-short names c.stack r (root-apart names g) in
    pops-by (Thin s c.stack) (run_of names c.stack) c l
    (thin_pop s (run_of names c.stack) c.stack l (kept-run (λ e. is_new s e && named_in template_names e) names c.stack (λ e k. new_apart s template_names e (h e k))))

pub implied-strong : (s : ControlState) (c : ControlState) → is_rooted c.stack ≡ true → Leaves (Strong s c.stack) implied c
implied-strong s c r = run-strong s (kinds.Set sets.Implied) c r (apart-set key_names (members sets.Implied) refl)

-- the implied end tags but one
pub but-apart : (k : Known) (e : OpenElement) → within (kinds.Set (implied_but k)) e ≡ true → named_in key_names e ≡ false
but-apart (names.Element element.Dd) e h = apart-set key_names (members sets.ImpliedButDd) refl e h
but-apart (names.Element element.Dt) e h = apart-set key_names (members sets.ImpliedButDt) refl e h
but-apart (names.Element element.Li) e h = apart-set key_names (members sets.ImpliedButLi) refl e h
but-apart (names.Element element.Optgroup) e h = apart-set key_names (members sets.ImpliedButOptgroup) refl e h
but-apart (names.Element element.Option) e h = apart-set key_names (members sets.ImpliedButOption) refl e h
but-apart (names.Element element.P) e h = apart-set key_names (members sets.ImpliedButP) refl e h
but-apart (names.Element element.Rb) e h = apart-set key_names (members sets.ImpliedButRb) refl e h
but-apart (names.Element element.Rp) e h = apart-set key_names (members sets.ImpliedButRp) refl e h
but-apart (names.Element element.Rt) e h = apart-set key_names (members sets.ImpliedButRt) refl e h
but-apart (names.Element element.Rtc) e h = apart-set key_names (members sets.ImpliedButRtc) refl e h
but-apart _ e h = apart-set key_names (members sets.Implied) refl e h

pub except-strong : (s : ControlState) (k : Known) (c : ControlState) → is_rooted c.stack ≡ true → Leaves (Strong s c.stack) (implied_except k) c
except-strong s k c r = run-strong s (kinds.Set (implied_but k)) c r (but-apart k)

pub but_for-strong : (s : ControlState) (o : Option Known) (c : ControlState) → is_rooted c.stack ≡ true → Leaves (Strong s c.stack) (implied_but_for o) c
but_for-strong s None c r = implied-strong s c r
but_for-strong s (Some k) c r = except-strong s k c r

pub thoroughly-thin : (s : ControlState) (c : ControlState) → is_rooted c.stack ≡ true → Leaves (Thin s c.stack) implied_thoroughly c
thoroughly-thin s c r = run-thin s (kinds.Set sets.ThoroughlyImplied) c r (apart-set template_names (members sets.ThoroughlyImplied) refl) (apart-set (words "html") (members sets.ThoroughlyImplied) refl)

-- through a goal
pub through-leaves : (L : List OpenElement → Type 0) (goals stops : Kinds) (c : ControlState) → is_rooted c.stack ≡ true → ((e : OpenElement) → within goals e ≡ true → named_in (words "html") e ≡ false) → L c.stack
    → ((k : ℕ) → reach goals stops c.stack ≡ Some k → k + 1 < length c.stack → L (popped_by (k + 1) c.stack)) → Leaves L (through goals stops) c
through-leaves L goals stops c r h all f = go (reach goals stops c.stack) refl
  where
    go : (o : Option ℕ) → reach goals stops c.stack ≡ o → L (if is_some o then pop_by (with_it o) c else nothing_done c).control.stack × ((if is_some o then pop_by (with_it o) c else nothing_done c).spared ≡ false)
    go None e = (all, refl)
    go (Some k) e = let l = reach-short goals stops c.stack k e r (root-apart goals h) in pops-by L (k + 1) c l (f k e l)

contra : (stops : Kinds) (names : List (List ℕ)) → ((e : OpenElement) → named_in names e ≡ true → within stops e ≡ true) → (e : OpenElement) → within stops e ≡ false → named_in names e ≡ false
contra stops names h e k = false_from_ne_true (named_in names e) (λ f. true≢false (sym (h e f) ∙ k))

-- where the stops have the names and the goals don't
pub through-weak : (s : ControlState) (goals stops : Kinds) (c : ControlState) → is_rooted c.stack ≡ true → ((e : OpenElement) → within goals e ≡ true → named_in (words "html") e ≡ false)
    → ((e : OpenElement) → within goals e ≡ true → named_in core_names e ≡ false) → ((e : OpenElement) → named_in core_names e ≡ true → within stops e ≡ true) → Leaves (Weak s c.stack) (through goals stops) c
through-weak s goals stops c r h g p = through-leaves (Weak s c.stack) goals stops c r h (weak_all s c.stack)
    (λ k e l. weak_pop s (k + 1) c.stack l (kept-through (λ x. is_new s x && named_in core_names x) goals stops c.stack (λ x m. new_apart s core_names x (g x m)) (λ x m. new_apart s core_names x (contra stops core_names p x m)) k e))

pub through-thin : (s : ControlState) (goals stops : Kinds) (c : ControlState) → is_rooted c.stack ≡ true → ((e : OpenElement) → within goals e ≡ true → named_in (words "html") e ≡ false)
    → ((e : OpenElement) → within goals e ≡ true → named_in template_names e ≡ false) → ((e : OpenElement) → named_in template_names e ≡ true → within stops e ≡ true) → Leaves (Thin s c.stack) (through goals stops) c
through-thin s goals stops c r h g p = through-leaves (Thin s c.stack) goals stops c r h (weak-thin s c.stack c.stack (weak_all s c.stack))
    (λ k e l. thin_pop s (k + 1) c.stack l (kept-through (λ x. is_new s x && named_in template_names x) goals stops c.stack (λ x m. new_apart s template_names x (g x m)) (λ x m. new_apart s template_names x (contra stops template_names p x m)) k e))

-- what a scope shows, without its ends
pub shown-weak : (s : ControlState) (goals ends : Kinds) (c : ControlState) → is_rooted c.stack ≡ true → ((e : OpenElement) → within goals e ≡ true → named_in (words "html") e ≡ false)
    → ((e : OpenElement) → within goals e ≡ true → named_in core_names e ≡ false) → ((e : OpenElement) → named_in core_names e ≡ true → within ends e ≡ true) → seen goals ends c.stack ≡ true → Leaves (Weak s c.stack) (through goals kinds.Nothing) c
shown-weak s goals ends c r h g p shown = through-leaves (Weak s c.stack) goals kinds.Nothing c r h (weak_all s c.stack)
    (λ k e l. weak_pop s (k + 1) c.stack l (kept-through (λ x. is_new s x && named_in core_names x) goals ends c.stack (λ x m. new_apart s core_names x (g x m)) (λ x m. new_apart s core_names x (contra ends core_names p x m)) k (sym (shown-reach goals ends c.stack shown) ∙ e)))

pub shown-thin : (s : ControlState) (goals ends : Kinds) (c : ControlState) → is_rooted c.stack ≡ true → ((e : OpenElement) → within goals e ≡ true → named_in (words "html") e ≡ false)
    → ((e : OpenElement) → within goals e ≡ true → named_in template_names e ≡ false) → ((e : OpenElement) → named_in template_names e ≡ true → within ends e ≡ true) → seen goals ends c.stack ≡ true → Leaves (Thin s c.stack) (through goals kinds.Nothing) c
shown-thin s goals ends c r h g p shown = through-leaves (Thin s c.stack) goals kinds.Nothing c r h (weak-thin s c.stack c.stack (weak_all s c.stack))
    (λ k e l. thin_pop s (k + 1) c.stack l (kept-through (λ x. is_new s x && named_in template_names x) goals ends c.stack (λ x m. new_apart s template_names x (g x m)) (λ x m. new_apart s template_names x (contra ends template_names p x m)) k (sym (shown-reach goals ends c.stack shown) ∙ e)))

-- down to the first of these kinds, which have html and templates
pub to-thin : (s : ControlState) (goals : Kinds) (c : ControlState) → is_rooted c.stack ≡ true → ((e : OpenElement) → named_in template_names e ≡ true → within goals e ≡ true) → ((e : OpenElement) → named_in (words "html") e ≡ true → within goals e ≡ true)
    → Leaves (Thin s c.stack) (pop_to goals) c
to-thin s goals c r h g = go (reach goals kinds.Nothing c.stack) refl (reach-root goals c.stack r (λ e k. g e (root-html e k)))
  where
    go : (o : Option ℕ) → reach goals kinds.Nothing c.stack ≡ o → above o c.stack < length c.stack → Leaves (Thin s c.stack) (pop_by (above o c.stack)) c
    go None e l = absurd (omega arith)
    go (Some k) e l = pops-by (Thin s c.stack) k c l (thin_pop s k c.stack l (kept-to (λ x. is_new s x && named_in template_names x) goals c.stack (λ x m. new_apart s template_names x (contra goals template_names h x m)) k e))

-- only foreign elements are popped
pub to_point-strong : (s : ControlState) (c : ControlState) → is_rooted c.stack ≡ true → Leaves (Strong s c.stack) pop_to_point c
to_point-strong s c r = go (reach kinds.HtmlOrPoint kinds.Nothing c.stack) refl (reach-root kinds.HtmlOrPoint c.stack r (λ e k. point e (and_parts (is_html e) _ (root-html e k)).0))
  where
    point : (e : OpenElement) → is_html e ≡ true → within kinds.HtmlOrPoint e ≡ true
    point e h = rw h refl

    foreign_one : (e : OpenElement) → within kinds.HtmlOrPoint e ≡ false → is_html e ≡ false
    foreign_one e h = false_from_ne_true (is_html e) (λ k. true≢false (sym (point e k) ∙ h))

    go : (o : Option ℕ) → reach kinds.HtmlOrPoint kinds.Nothing c.stack ≡ o → above o c.stack < length c.stack → Leaves (Strong s c.stack) (pop_by (above o c.stack)) c
    go None e l = absurd (omega arith)
    go (Some k) e l = pops-by (Strong s c.stack) k c l (strong_pop s k c.stack l (kept-to (λ x. is_new s x && named_in key_names x) kinds.HtmlOrPoint c.stack (λ x m. new_apart s key_names x (apart-foreign key_names x (foreign_one x m))) k e))

not_html : (name : List ℕ) (e : OpenElement) → within (kinds.Foreign name) e ≡ true → is_html e ≡ false
not_html name e h = go (is_html e) refl
  where
    go : (b : Bool) → is_html e ≡ b → b ≡ false
    go false k = refl
    go true k = absurd (true≢false (sym h ∙ ap (λ b. not b && bytes_eq (lowered name) (lowered e.name)) k))

pub foreign-strong : (s : ControlState) (name : List ℕ) (c : ControlState) → is_rooted c.stack ≡ true → Leaves (Strong s c.stack) (through_foreign name) c
foreign-strong s name c r = through-leaves (Strong s c.stack) (kinds.Foreign name) kinds.AnyHtml c r (λ e k. apart-foreign (words "html") e (not_html name e k)) refl
    (λ k e l. strong_pop s (k + 1) c.stack l (kept-through (λ x. is_new s x && named_in key_names x) (kinds.Foreign name) kinds.AnyHtml c.stack (λ x m. new_apart s key_names x (apart-foreign key_names x (not_html name x m))) (λ x m. new_apart s key_names x (apart-foreign key_names x m)) k e))

-- an element in scope, with what its end implies
pub leaves_then : (s : ControlState) (f g : Act) (c : ControlState) → Leaves (Weak s c.stack) f c → Leaves (Weak s (f c).control.stack) g (f c).control → Leaves (Weak s c.stack) (and_then f g) c
leaves_then s f g c h k = (weak_then s c.stack (f c).control.stack (g (f c).control).control.stack h.0 k.0, or_from (f c).spared (g (f c).control).spared h.1 k.1)

pub strong_leaves : (s : ControlState) (f : Act) (c : ControlState) → Leaves (Strong s c.stack) f c → Leaves (Weak s c.stack) f c
strong_leaves s f c h = (strong-weak s c.stack (f c).control.stack h.0, h.1)

pub run_rooted : (names : Kinds) (c : ControlState) → is_rooted c.stack ≡ true → run_of names c.stack < length c.stack → is_rooted (pop_run names c).control.stack ≡ true
run_rooted names c r l = subst (λ es. is_rooted es ≡ true) (sym (all-popped (run_of names c.stack) c.stack l)) (rooted-drop (run_of names c.stack) c.stack l r)

pub close-weak : (s : ControlState) (k : Known) (ends : Kinds) (c : ControlState) → is_rooted c.stack ≡ true → is_among (words "html") (text_of k) ≡ false → is_among core_names (text_of k) ≡ false
    → ((e : OpenElement) → within (kinds.Set (implied_but k)) e ≡ true → within (kinds.Html (text_of k)) e ≡ false) → ((e : OpenElement) → named_in core_names e ≡ true → within ends e ≡ true) → seen (kinds.Html (text_of k)) ends c.stack ≡ true → Leaves (Weak s c.stack) (close k) c
close-weak s k ends c r h g apart p shown =
    let names = kinds.Set (implied_but k) in
    let l = run-short names c.stack r (root-apart names (λ e m. apart-fewer (words "html") key_names refl e (but-apart k e m))) in
    let there : seen (kinds.Html (text_of k)) ends (pop_run names c).control.stack ≡ true = subst (λ es. seen (kinds.Html (text_of k)) ends es ≡ true) (sym (all-popped (run_of names c.stack) c.stack l)) (shown-run (kinds.Html (text_of k)) ends names c.stack apart shown) in
    leaves_then s (implied_except k) (through_named (text_of k)) c (strong_leaves s (implied_except k) c (except-strong s k c r))
    (shown-weak s (kinds.Html (text_of k)) ends (pop_run names c).control (run_rooted names c r l) (apart-name (words "html") (text_of k) h) (apart-name core_names (text_of k) g) p there)

pub choose_leaves : (s : ControlState) (test : ControlState → Bool) (f g : Act) (c : ControlState) → (test c ≡ true → Leaves (Weak s c.stack) f c) → (test c ≡ false → Leaves (Weak s c.stack) g c) → Leaves (Weak s c.stack) (choose test f g) c
choose_leaves s test f g c h k = go (test c) refl
  where
    go : (b : Bool) → test c ≡ b → Weak s c.stack (if b then f c else g c).control.stack × ((if b then f c else g c).spared ≡ false)
    go true e = h e
    go false e = k e

pub nothing_leaves : (s : ControlState) (c : ControlState) → Leaves (Weak s c.stack) nothing_done c
nothing_leaves s c = (weak_all s c.stack, refl)

pub named-of : (name : List ℕ) (e : OpenElement) → within (kinds.Html name) e ≡ true → named_in (name ∷ []) e ≡ true
named-of name e h =
    let parts = and_parts (is_html e) (bytes_eq name e.name) h in
    and_from (is_html e) (is_among (name ∷ []) e.name) parts.0 (or_left (bytes_eq e.name name) (subst (λ n. bytes_eq n name ≡ true) (equal_bytes true name e.name (sym parts.1) refl) (bytes_eq-same name)))

-- a set without the name has no element of it
pub other_name : (name : List ℕ) (e : OpenElement) → named_in (name ∷ []) e ≡ false → within (kinds.Html name) e ≡ false
other_name name e h = false_from_ne_true (within (kinds.Html name) e) (λ k. true≢false (sym (named-of name e k) ∙ h))

button_core : (e : OpenElement) → named_in core_names e ≡ true → within (kinds.Set sets.ButtonScopeEnds) e ≡ true
button_core = named-within core_names sets.ButtonScopeEnds refl

barrier_core : (e : OpenElement) → named_in core_names e ≡ true → within (kinds.Set sets.ItemBarriers) e ≡ true
barrier_core = named-within core_names sets.ItemBarriers refl

pub paragraph-weak : (s : ControlState) (c : ControlState) → is_rooted c.stack ≡ true → Leaves (Weak s c.stack) close_paragraph c
paragraph-weak s c r = choose_leaves s (named_in_scope scope.Button (text_of known.P)) (close known.P) nothing_done c
    (λ shown. close-weak s known.P (kinds.Set sets.ButtonScopeEnds) c r refl refl (λ e m. other_name (text_of known.P) e (apart-set (text_of known.P ∷ []) (members sets.ImpliedButP) refl e m)) button_core shown)
    (λ n. nothing_leaves s c)

pub item-weak : (s : ControlState) (c : ControlState) → is_rooted c.stack ≡ true → Leaves (Weak s c.stack) close_item c
item-weak s c r = choose_leaves s (is_item (kinds.Html (text_of known.Li))) (close known.Li) nothing_done c
    (λ shown. close-weak s known.Li (kinds.Set sets.ItemBarriers) c r refl refl (λ e m. other_name (text_of known.Li) e (apart-set (text_of known.Li ∷ []) (members sets.ImpliedButLi) refl e m)) barrier_core shown)
    (λ n. nothing_leaves s c)

pub description-weak : (s : ControlState) (c : ControlState) → is_rooted c.stack ≡ true → Leaves (Weak s c.stack) close_description c
description-weak s c r = choose_leaves s (is_item (kinds.Html (text_of known.Dd))) (close known.Dd) (choose (is_item (kinds.Html (text_of known.Dt))) (close known.Dt) nothing_done) c
    (λ shown. close-weak s known.Dd (kinds.Set sets.ItemBarriers) c r refl refl (λ e m. other_name (text_of known.Dd) e (apart-set (text_of known.Dd ∷ []) (members sets.ImpliedButDd) refl e m)) barrier_core shown)
    (λ n. choose_leaves s (is_item (kinds.Html (text_of known.Dt))) (close known.Dt) nothing_done c
    (λ shown. close-weak s known.Dt (kinds.Set sets.ItemBarriers) c r refl refl (λ e m. other_name (text_of known.Dt) e (apart-set (text_of known.Dt ∷ []) (members sets.ImpliedButDt) refl e m)) barrier_core shown)
    (λ z. nothing_leaves s c))

-- up to and with an element of the name, above which no special one stands
pub walk-weak : (s : ControlState) (name : List ℕ) (c : ControlState) → is_rooted c.stack ≡ true → is_among (words "html") name ≡ false → is_among core_names name ≡ false → Leaves (Weak s c.stack) (walk name) c
walk-weak s name c r h g = through-weak s (kinds.Html name) (kinds.Set sets.Special) c r (apart-name (words "html") name h) (apart-name core_names name g) (named-within core_names sets.Special refl)

pub walk-thin : (s : ControlState) (name : List ℕ) (c : ControlState) → is_rooted c.stack ≡ true → is_among (words "html") name ≡ false → is_among template_names name ≡ false → Leaves (Thin s c.stack) (walk name) c
walk-thin s name c r h g = through-thin s (kinds.Html name) (kinds.Set sets.Special) c r (apart-name (words "html") name h) (apart-name template_names name g) (named-within template_names sets.Special refl)
