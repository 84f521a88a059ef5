-- The acts of tree construction that thin the stack.
use Rattle.std.proofs.Common.{◌≡◌, ℕ, zero, suc, ◌+◌, ◌≤◌, ◌<◌, ◌==◌, List, [], ◌∷◌, ◌++◌, take, drop, length, Bool, true, false, Option, Some, None, refl, subst, arith}
use Rattle.std.specs.Prelude.{if◌then◌else◌, IfSome, All, slice_get}
use Rattle.std.proofs.lemmas.Bool.{eqb-true}
use Rattle.std.proofs.lemmas.List.Elements.{All-nil, All-cons, All-head, All-tail, All-take, All-drop, All-append}
use Rattle.hp_elements.specs.Names.{text_of}
use Rattle.hp_elements.specs.Sets.{in_set}
use Rattle.hp_elements.specs.declared.kinds.Kinds.{Kinds}
use Rattle.hp_elements.specs.declared.kinds.Kinds.TheVariants as kinds
use Rattle.hp_elements.specs.declared.known.Known.{Known}
use Rattle.hp_elements.specs.KnownNames as known
use Rattle.hp_elements.specs.declared.act.Scope.TheVariants as scope
use Rattle.hp_elements.specs.declared.sets.SetName.TheVariants as sets
use Rattle.hp_elements.specs.declared.tag.Tag.{Tag}
use Rattle.hp_control.specs.declared.element.OpenElement.{OpenElement}
use Rattle.hp_control.specs.declared.element.FormattingEntry.{FormattingEntry}
use Rattle.hp_control.specs.declared.element.FormattingEntry.TheVariants.{Marker, Element}
use Rattle.hp_control.specs.Acts.{pop_by, pop, pop_run, pop_to, pop_to_first, popped_by, through, through_named, with_it, walk, take_off, taken_off, without, without_entry, remove_entry, empty_form, element_for, insert}
use Rattle.hp_control.specs.Adoption.{Spot, find_id, spliced, spliced_at, edit_at, relist, renew, renew_entry, renew_down, reconstruct, stale, strike}
use Rattle.hp_control.specs.Composed.{implied, implied_but, implied_except, implied_thoroughly, close, close_paragraph, close_item, close_description, end_form, end_form_of, end_form_in_template, is_open_form, named_in_scope, is_item, template_in_stack, drop_entry}
use Rattle.hp_control.specs.Outcome.{and_then, choose, nothing_done}
use Rattle.hp_control.specs.States.{ControlState, IsId, IsFormatting}
use Rattle.hp_control.specs.Walks.{open_at, seen, reach, has_entry}
use Rattle.hp_model.proofs.Tally.{one, tally, tally-nil, tally-cons, tally-tail, tally-append, tally-split, tally-drop}
use Rattle.hp_model.proofs.Ids.{between, between-inside}
use Rattle.hp_model.proofs.Stacks.{Keeps, keeps_all, pushed-keeps, popped_by-keeps, without-keeps, formatting-uncounted, formatting-no_template}
use Rattle.hp_model.proofs.Thins.{Ready, Thins, Thinning, thins_all, thins_stack, thins_list, thinning_nothing, thinning_then, thinning_choose, entry_is}

pub thinning_pop_by : (count : ℕ) → Thinning (pop_by count)
thinning_pop_by count c r = thins_stack c (popped_by count c.stack) r (popped_by-keeps c.next c.next count c.stack)

pub thinning_pop : Thinning pop
thinning_pop = thinning_pop_by 1

pub thinning_pop_run : (names : Kinds) → Thinning (pop_run names)
thinning_pop_run names c r = thinning_pop_by _ c r

pub thinning_pop_to : (goals : Kinds) → Thinning (pop_to goals)
thinning_pop_to goals c r = thinning_pop_by _ c r

pub thinning_pop_to_first : Thinning pop_to_first
thinning_pop_to_first c r = thins_stack c (popped_by (length c.stack) c.stack) r (popped_by-keeps c.next c.next (length c.stack) c.stack)

pub thinning_through : (goals stops : Kinds) → Thinning (through goals stops)
thinning_through goals stops c r = thinning_choose (λ d. seen goals stops d.stack) (pop_by (with_it (reach goals stops c.stack))) nothing_done (thinning_pop_by (with_it (reach goals stops c.stack))) thinning_nothing c r

pub thinning_through_named : (name : List ℕ) → Thinning (through_named name)
thinning_through_named name = thinning_through (kinds.Html name) kinds.Nothing

pub thinning_walk : (name : List ℕ) → Thinning (walk name)
thinning_walk name = thinning_through (kinds.Html name) (kinds.Set sets.Special)

pub thinning_implied : Thinning implied
thinning_implied = thinning_pop_run (kinds.Set sets.Implied)

pub thinning_implied_except : (name : Known) → Thinning (implied_except name)
thinning_implied_except name = thinning_pop_run (kinds.Set (implied_but name))

pub thinning_implied_thoroughly : Thinning implied_thoroughly
thinning_implied_thoroughly = thinning_pop_run (kinds.Set sets.ThoroughlyImplied)

pub thinning_close : (name : Known) → Thinning (close name)
thinning_close name = thinning_then (implied_except name) (through_named (text_of name)) (thinning_implied_except name) (thinning_through_named (text_of name))

pub thinning_close_paragraph : Thinning close_paragraph
thinning_close_paragraph = thinning_choose (named_in_scope scope.Button (text_of known.P)) (close known.P) nothing_done (thinning_close known.P) thinning_nothing

pub thinning_close_item : Thinning close_item
thinning_close_item = thinning_choose (is_item (kinds.Html (text_of known.Li))) (close known.Li) nothing_done (thinning_close known.Li) thinning_nothing

pub thinning_close_description : Thinning close_description
thinning_close_description =
    thinning_choose (is_item (kinds.Html (text_of known.Dd))) (close known.Dd) (choose (is_item (kinds.Html (text_of known.Dt))) (close known.Dt) nothing_done)
    (thinning_close known.Dd) (thinning_choose (is_item (kinds.Html (text_of known.Dt))) (close known.Dt) nothing_done (thinning_close known.Dt) thinning_nothing)

pub not_root : (id : ℕ) → 1 < id → id ≡ 1 → ⊥
not_root id h e = absurd (omega arith)

-- an element that isn't the root is taken off
pub thinning_take_off : (id : ℕ) → 1 < id → Thinning (take_off id)
thinning_take_off id h c r = go (open_at id c.stack) refl
  where
    go : (o : Option ℕ) → open_at id c.stack ≡ o → Thins c (taken_off id o c).control
    go None e = thins_all c r
    go (Some zero) e = thinning_pop c r
    go (Some (suc k)) e = thins_stack c (without (suc k) c.stack) r (without-keeps c.next c.next id (suc k) c.stack e (not_root id h))

without_entry-few : (i id : ℕ) (es : List FormattingEntry) → tally (entry_is i) (without_entry id es) ≤ tally (entry_is i) es
without_entry-few i id [] = omega arith
without_entry-few i id (Marker ∷ es) =
    let e : tally (entry_is i) (Marker ∷ without_entry id es) ≡ 0 + tally (entry_is i) (without_entry id es) = tally-cons (entry_is i) Marker (without_entry id es) in
    let f : tally (entry_is i) (Marker ∷ es) ≡ 0 + tally (entry_is i) es = tally-cons (entry_is i) Marker es in
    let g : tally (entry_is i) (without_entry id es) ≤ tally (entry_is i) es = without_entry-few i id es in
    omega arith
without_entry-few i id (Element other tag ∷ es) = go (other == id) (without_entry-few i id es)
  where
    go : (b : Bool) → tally (entry_is i) (without_entry id es) ≤ tally (entry_is i) es → tally (entry_is i) (if b then es else Element other tag ∷ without_entry id es) ≤ tally (entry_is i) (Element other tag ∷ es)
    go true rest = tally-tail (entry_is i) (Element other tag) es
    go false rest =
        let e : tally (entry_is i) (Element other tag ∷ without_entry id es) ≡ one (other == i) + tally (entry_is i) (without_entry id es) = tally-cons (entry_is i) (Element other tag) (without_entry id es) in
        let f : tally (entry_is i) (Element other tag ∷ es) ≡ one (other == i) + tally (entry_is i) es = tally-cons (entry_is i) (Element other tag) es in
        omega arith

without_entry-formatting : (id : ℕ) (es : List FormattingEntry) → All IsFormatting es → All IsFormatting (without_entry id es)
without_entry-formatting id [] h = h
without_entry-formatting id (Marker ∷ es) h = All-cons IsFormatting Marker (without_entry id es) tt (without_entry-formatting id es (All-tail IsFormatting Marker es h))
without_entry-formatting id (Element other tag ∷ es) h = go (other == id) (without_entry-formatting id es (All-tail IsFormatting (Element other tag) es h))
  where
    rest : All IsFormatting es
    rest = All-tail IsFormatting (Element other tag) es h

    go : (b : Bool) → All IsFormatting (without_entry id es) → All IsFormatting (if b then es else Element other tag ∷ without_entry id es)
    go true fewer = rest
    go false fewer = All-cons IsFormatting (Element other tag) (without_entry id es) (All-head IsFormatting (Element other tag) es h) fewer

pub thinning_remove_entry : (id : ℕ) → Thinning (remove_entry id)
thinning_remove_entry id c r = thins_list c (without_entry id c.formatting) (λ i. without_entry-few i id c.formatting) (without_entry-formatting id c.formatting r.formatting)

pub thinning_drop_entry : (id : ℕ) → Thinning (drop_entry id)
thinning_drop_entry id = thinning_choose (λ c. has_entry id c.formatting) (remove_entry id) nothing_done (thinning_remove_entry id) thinning_nothing

pub thinning_empty_form : Thinning empty_form
thinning_empty_form c r = record {
  next = omega arith;
  stack = keeps_all c.next c.next c.stack;
  list = λ i. omega arith;
  formatting = r.formatting;
  form = tt;
  alike = record { mode = refl; original = refl; pending = refl; templates = refl; head = refl; lex = refl };
}

end_form_at : (id : ℕ) → 1 < id → Thinning (and_then empty_form (choose (is_open_form id) (and_then implied (take_off id)) nothing_done))
end_form_at id h = thinning_then empty_form (choose (is_open_form id) (and_then implied (take_off id)) nothing_done) thinning_empty_form
    (thinning_choose (is_open_form id) (and_then implied (take_off id)) nothing_done (thinning_then implied (take_off id) thinning_implied (thinning_take_off id h)) thinning_nothing)

end_form_by : (o : Option ℕ) (c : ControlState) → Ready c → IfSome o (IsId c.next) → Thins c (end_form_of o c).control
end_form_by None c r h = thins_all c r
end_form_by (Some id) c r h = end_form_at id h.0 c r

thinning_end_form_in_template : Thinning end_form_in_template
thinning_end_form_in_template = thinning_choose (named_in_scope scope.Default (text_of known.Form)) (and_then implied (through_named (text_of known.Form))) nothing_done
    (thinning_then implied (through_named (text_of known.Form)) thinning_implied (thinning_through_named (text_of known.Form))) thinning_nothing

pub thinning_end_form : Thinning end_form
thinning_end_form c r = thinning_choose template_in_stack end_form_in_template (λ d. end_form_of d.form d) thinning_end_form_in_template (λ d q. end_form_by d.form d q q.form) c r

-- items put into the list, in the place of others
pub spliced-few : {X : Type 0} (p : X → Bool) (depth count : ℕ) (items xs : List X) → tally p (spliced depth count items xs) ≤ tally p xs + tally p items
spliced-few p depth count items xs =
    let a : tally p (take depth xs ++ (items ++ drop count (drop depth xs))) ≡ tally p (take depth xs) + tally p (items ++ drop count (drop depth xs)) = tally-append p (take depth xs) (items ++ drop count (drop depth xs)) in
    let b : tally p (items ++ drop count (drop depth xs)) ≡ tally p items + tally p (drop count (drop depth xs)) = tally-append p items (drop count (drop depth xs)) in
    let d : tally p (drop count (drop depth xs)) ≤ tally p (drop depth xs) = tally-drop p count (drop depth xs) in
    let e : tally p (take depth xs) + tally p (drop depth xs) ≡ tally p xs = tally-split p depth xs in
    omega arith

pub spliced-formatting : (depth count : ℕ) (items xs : List FormattingEntry) → All IsFormatting items → All IsFormatting xs → All IsFormatting (spliced depth count items xs)
spliced-formatting depth count items xs h k =
    All-append IsFormatting (take depth xs) (items ++ drop count (drop depth xs)) (All-take IsFormatting depth xs k)
    (All-append IsFormatting items (drop count (drop depth xs)) h (All-drop IsFormatting count (drop depth xs) (All-drop IsFormatting depth xs k)))

pub edited-few : (p : FormattingEntry → Bool) (id count : ℕ) (items es : List FormattingEntry) → tally p (edit_at id count items es) ≤ tally p es + tally p items
edited-few p id count items es = go (find_id id es)
  where
    go : (o : Option Spot) → tally p (spliced_at o count items es) ≤ tally p es + tally p items
    go None = omega arith
    go (Some spot) = spliced-few p spot.depth count items es

pub edited-formatting : (id count : ℕ) (items es : List FormattingEntry) → All IsFormatting items → All IsFormatting es → All IsFormatting (edit_at id count items es)
edited-formatting id count items es h k = go (find_id id es)
  where
    go : (o : Option Spot) → All IsFormatting (spliced_at o count items es)
    go None = k
    go (Some spot) = spliced-formatting spot.depth count items es h k

-- an entry for the element that is made next
pub one_new : (n id : ℕ) → id ≡ n → (i : ℕ) → one (id == i) ≤ between n (n + 1) i
one_new n id s i = go (id == i) refl
  where
    go : (b : Bool) → (id == i) ≡ b → one b ≤ between n (n + 1) i
    go true e =
        let f : id ≡ i = eqb-true id i e in
        let g : between n (n + 1) i ≡ 1 = between-inside n (n + 1) i (omega arith) (omega arith) in
        omega arith
    go false e = omega arith

pub entry_new : (n : ℕ) (tag : Tag) (i : ℕ) → tally (entry_is i) (Element n tag ∷ []) ≤ between n (n + 1) i
entry_new n tag i =
    let e : tally (entry_is i) (Element n tag ∷ []) ≡ one (n == i) + tally (entry_is i) [] = tally-cons (entry_is i) (Element n tag) [] in
    let z : tally (entry_is i) [] ≡ 0 = tally-nil (entry_is i) in
    let f : one (n == i) ≤ between n (n + 1) i = one_new n n refl i in
    omega arith

pub one_entry : (n : ℕ) (tag : Tag) → IsFormatting (Element n tag) → All IsFormatting (Element n tag ∷ [])
one_entry n tag h = All-cons IsFormatting (Element n tag) [] h (All-nil IsFormatting)

pub formatting_pushed : (n : ℕ) (id : ℕ) (tag : Tag) (es : List OpenElement) → id ≡ n → in_set sets.Formatting tag.namespace tag.name ≡ true → Keeps n (n + 1) es (element_for id tag ∷ es)
formatting_pushed n id tag es s h = pushed-keeps n (n + 1) (element_for id tag) es (formatting-uncounted id tag h) (formatting-no_template id tag h) (one_new n id s)

renewing : (fostering : Bool) (depth id : ℕ) (tag : Tag) → IsFormatting (Element id tag) → Thinning (and_then (relist depth id tag) (insert fostering tag))
renewing fostering depth id tag h c r = record {
  next = omega arith;
  stack = formatting_pushed c.next c.next tag c.stack refl h.1;
  list = λ i.
      let e : tally (entry_is i) (spliced depth 1 (Element c.next tag ∷ []) c.formatting) ≤ tally (entry_is i) c.formatting + tally (entry_is i) (Element c.next tag ∷ []) = spliced-few (entry_is i) depth 1 (Element c.next tag ∷ []) c.formatting in
      let f : tally (entry_is i) (Element c.next tag ∷ []) ≤ between c.next (c.next + 1) i = entry_new c.next tag i in
      omega arith;
  formatting = spliced-formatting depth 1 (Element c.next tag ∷ []) c.formatting (one_entry c.next tag h) r.formatting;
  form = same c.form;
  alike = record { mode = refl; original = refl; pending = refl; templates = refl; head = refl; lex = refl };
}
  where
    same : (o : Option ℕ) → IfSome o (λ i. o ≡ Some i)
    same None = tt
    same (Some i) = refl

-- an entry of the list is one of formatting
pub got-formatting : (es : List FormattingEntry) (depth : ℕ) (e : FormattingEntry) → slice_get es depth ≡ Some e → All IsFormatting es → IsFormatting e
got-formatting [] depth e h a = absurd (none depth h)
  where
    none : (d : ℕ) → slice_get [] d ≡ Some e → ⊥
    none zero k = cc
    none (suc d) k = cc
got-formatting (x ∷ xs) zero e h a = subst IsFormatting (same h) (All-head IsFormatting x xs a)
  where
    same : Some x ≡ Some e → x ≡ e
    same k = cc
got-formatting (x ∷ xs) (suc d) e h a = got-formatting xs d e h (All-tail IsFormatting x xs a)

pub thinning_renew : (fostering : Bool) (depth : ℕ) → Thinning (renew fostering depth)
thinning_renew fostering depth c r = go (slice_get c.formatting depth) refl
  where
    go : (o : Option FormattingEntry) → slice_get c.formatting depth ≡ o → Thins c (renew_entry fostering o depth c).control
    go None e = thins_all c r
    go (Some Marker) e = thins_all c r
    go (Some (Element id tag)) e = renewing fostering depth id tag (got-formatting c.formatting depth (Element id tag) e r.formatting) c r

pub thinning_renew_down : (fostering : Bool) (depth : ℕ) → Thinning (renew_down fostering depth)
thinning_renew_down fostering zero = thinning_nothing
thinning_renew_down fostering (suc depth) = thinning_then (renew fostering depth) (renew_down fostering depth) (thinning_renew fostering depth) (thinning_renew_down fostering depth)

pub thinning_reconstruct : (fostering : Bool) → Thinning (reconstruct fostering)
thinning_reconstruct fostering c r = thinning_renew_down fostering (stale c.stack c.formatting) c r

pub thinning_strike : (entry : Spot) → Thinning (strike entry)
thinning_strike entry c r = thins_list c (edit_at entry.id 1 [] c.formatting)
    (λ i.
    let e : tally (entry_is i) (edit_at entry.id 1 [] c.formatting) ≤ tally (entry_is i) c.formatting + tally (entry_is i) [] = edited-few (entry_is i) entry.id 1 [] c.formatting in
    let z : tally (entry_is i) [] ≡ 0 = tally-nil (entry_is i) in
    omega arith)
    (edited-formatting entry.id 1 [] c.formatting (All-nil IsFormatting) r.formatting)
