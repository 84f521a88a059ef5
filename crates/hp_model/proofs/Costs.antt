-- What an act makes at most: so many elements, and so many entries of the formatting list more.
use Rattle.std.proofs.Common.{◌≡◌, ℕ, zero, suc, ◌+◌, ◌-◌, ◌≤◌, ◌<◌, ◌==◌, List, [], ◌∷◌, ◌++◌, take, drop, length, min, Bool, true, false, Option, Some, None, refl, sym, ap, ◌∙◌, subst, arith, length-append}
use Rattle.std.specs.Prelude.{if◌then◌else◌, slice_get, nat_lt, nat_le}
use Rattle.std.specs.Option.{is_some, option_map}
use Rattle.std.specs.List.{list_all}
use Rattle.std.specs.Str.{bytes_eq}
use Rattle.std.proofs.lemmas.Bool.{true≢false, eqb-true, eq-eqb, ltb-false}
use Rattle.std.proofs.lemmas.List.{length-drop, length-take}
use Rattle.hp_elements.specs.Names.{text_of}
use Rattle.hp_elements.specs.declared.kinds.Kinds.{Kinds}
use Rattle.hp_elements.specs.declared.kinds.Kinds.TheVariants as kinds
use Rattle.hp_elements.specs.declared.known.Known.{Known}
use Rattle.hp_elements.specs.KnownNames as known
use Rattle.hp_elements.specs.declared.act.Scope.TheVariants as scope
use Rattle.hp_elements.specs.declared.sets.SetName.TheVariants as sets
use Rattle.hp_elements.specs.declared.tag.Tag.{Tag}
use Rattle.hp_control.specs.declared.edit.Child.TheVariants as child
use Rattle.hp_control.specs.declared.edit.Ref.TheVariants.{Fixed}
use Rattle.hp_control.specs.declared.element.OpenElement.{OpenElement}
use Rattle.hp_control.specs.declared.element.FormattingEntry.{FormattingEntry}
use Rattle.hp_control.specs.declared.element.FormattingEntry.TheVariants.{Marker, Element}
use Rattle.hp_control.specs.Acts.{append_entry, append_to_list, clear, equal_ids, frameset_not_ok, head_element, make_room, pop_by, pop, pop_run, pop_to, push_head_of, put_here, remove_earliest, take_head_off_of, through, through_named, with_it, walk, take_off, taken_off, without_entry, remove_entry, empty_form, with_stack}
use Rattle.hp_control.specs.Adoption.{Climbed, Hidden, Seat, Spot, adopt, adopt_once, at_block, between as nodes_between, block_case, edit_at, entry_case, find_id, find_name, furthest, goes_on, hides, is_plain, lower, open_case, pass, pass_all, pass_listed, reconstruct, renew, renew_down, renew_entry, renewed, settled, spliced, spliced_at, stale, strike, turn, turn_in, turns}
use Rattle.hp_control.specs.Composed.{close, close_description, close_item, close_link, close_link_of, close_paragraph, drop_entry, end_form, end_form_in_template, end_form_of, flush, foster_characters, implied, implied_but, implied_except, is_item, is_open_form, is_white, named_in_scope, put_characters, template_in_stack}
use Rattle.hp_control.specs.Outcome.{Act, Outcome, and_then, becomes, choose, nothing_done}
use Rattle.hp_control.specs.States.{ControlState}
use Rattle.hp_control.specs.Walks.{cleared as cleared_list, has_entry, open_at, reach, seen}
use Rattle.hp_model.proofs.Stacks.{deeper}
use Rattle.hp_model.proofs.Reconstructed.{Fresh, reconstruct-fresh, reconstructed-fresh}

-- from c to d at most so many elements were made, and so many entries came
pub record Costs (made more : ℕ) (c d : ControlState) : Type 0 where
  pub next : d.next ≤ c.next + made
  pub list : length d.formatting ≤ length c.formatting + more

pub costs_none : (made more : ℕ) (c : ControlState) → Costs made more c c
costs_none made more c = record { next = omega arith; list = omega arith }

pub costs_then : (made more made_then more_then : ℕ) (c d e : ControlState) → Costs made more c d → Costs made_then more_then d e → Costs (made + made_then) (more + more_then) c e
costs_then made more made_then more_then c d e f g = record {
  next = let a : d.next ≤ c.next + made = f.next in let b : e.next ≤ d.next + made_then = g.next in omega arith;
  list = let a : length d.formatting ≤ length c.formatting + more = f.list in let b : length e.formatting ≤ length d.formatting + more_then = g.list in omega arith;
}

pub costs_within : (made more most_made most_more : ℕ) (c d : ControlState) → made ≤ most_made → more ≤ most_more → Costs made more c d → Costs most_made most_more c d
costs_within made more most_made most_more c d h k f = record {
  next = let a : d.next ≤ c.next + made = f.next in omega arith;
  list = let a : length d.formatting ≤ length c.formatting + more = f.list in omega arith;
}

-- an act that makes at most so much in every state
abbrev pub Within : ℕ → ℕ → Act → Type 0
Within made more f = (c : ControlState) → Costs made more c (f c).control

abbrev pub Free : Act → Type 0
Free f = Within 0 0 f

within_then : (made more made_then more_then : ℕ) (f g : Act) → Within made more f → Within made_then more_then g → Within (made + made_then) (more + more_then) (and_then f g)
within_then made more made_then more_then f g h k c = costs_then made more made_then more_then c (f c).control (g (f c).control).control (h c) (k (f c).control)

free_nothing : Free nothing_done
free_nothing c = costs_none 0 0 c

free_then : (f g : Act) → Free f → Free g → Free (and_then f g)
free_then f g h k c = costs_then 0 0 0 0 c (f c).control (g (f c).control).control (h c) (k (f c).control)

within_choose : (made more : ℕ) (test : ControlState → Bool) (f g : Act) → Within made more f → Within made more g → Within made more (choose test f g)
within_choose made more test f g h k c = go (test c)
  where
    go : (b : Bool) → Costs made more c (if b then f c else g c).control
    go true = h c
    go false = k c

free_choose : (test : ControlState → Bool) (f g : Act) → Free f → Free g → Free (choose test f g)
free_choose = within_choose 0 0

-- acts on the stack make nothing
pub free_pop_by : (count : ℕ) → Free (pop_by count)
free_pop_by count c = record { next = omega arith; list = omega arith }

pub free_pop_run : (names : Kinds) → Free (pop_run names)
free_pop_run names c = record { next = omega arith; list = omega arith }

pub free_pop_to : (goals : Kinds) → Free (pop_to goals)
free_pop_to goals c = record { next = omega arith; list = omega arith }

pub free_through : (goals stops : Kinds) → Free (through goals stops)
free_through goals stops c = free_choose (λ d. seen goals stops d.stack) (pop_by (with_it (reach goals stops c.stack))) nothing_done (free_pop_by (with_it (reach goals stops c.stack))) free_nothing c

pub free_through_named : (name : List ℕ) → Free (through_named name)
free_through_named name = free_through (kinds.Html name) kinds.Nothing

free_close : (name : Known) → Free (close name)
free_close name = free_then (implied_except name) (through_named (text_of name)) (free_pop_run (kinds.Set (implied_but name))) (free_through_named (text_of name))

pub free_close_paragraph : Free close_paragraph
free_close_paragraph = free_choose (named_in_scope scope.Button (text_of known.P)) (close known.P) nothing_done (free_close known.P) free_nothing

pub free_close_item : Free close_item
free_close_item = free_choose (is_item (kinds.Html (text_of known.Li))) (close known.Li) nothing_done (free_close known.Li) free_nothing

pub free_close_description : Free close_description
free_close_description =
    free_choose (is_item (kinds.Html (text_of known.Dd))) (close known.Dd) (choose (is_item (kinds.Html (text_of known.Dt))) (close known.Dt) nothing_done)
    (free_close known.Dd) (free_choose (is_item (kinds.Html (text_of known.Dt))) (close known.Dt) nothing_done (free_close known.Dt) free_nothing)

pub free_take_off : (id : ℕ) → Free (take_off id)
free_take_off id c = go (open_at id c.stack)
  where
    go : (o : Option ℕ) → Costs 0 0 c (taken_off id o c).control
    go None = costs_none 0 0 c
    go (Some zero) = record { next = omega arith; list = omega arith }
    go (Some (suc k)) = record { next = omega arith; list = omega arith }

pub free_take_head_off : (o : Option ℕ) → Free (take_head_off_of o)
free_take_head_off None c = costs_none 0 0 c
free_take_head_off (Some id) c = free_take_off id c

pub free_push_head : (o : Option ℕ) → Free (push_head_of o)
free_push_head None c = costs_none 0 0 c
free_push_head (Some id) c = go (is_some (open_at id c.stack))
  where
    go : (b : Bool) → Costs 0 0 c (if b then becomes c else with_stack (head_element id ∷ c.stack) c).control
    go true = costs_none 0 0 c
    go false = record { next = omega arith; list = omega arith }

end_form_at : (id : ℕ) → Free (and_then empty_form (choose (is_open_form id) (and_then implied (take_off id)) nothing_done))
end_form_at id = free_then empty_form (choose (is_open_form id) (and_then implied (take_off id)) nothing_done) (λ c. record { next = omega arith; list = omega arith })
    (free_choose (is_open_form id) (and_then implied (take_off id)) nothing_done (free_then implied (take_off id) (free_pop_run (kinds.Set sets.Implied)) (free_take_off id)) free_nothing)

end_form_by : (o : Option ℕ) → Free (end_form_of o)
end_form_by None c = costs_none 0 0 c
end_form_by (Some id) c = end_form_at id c

pub free_end_form : Free end_form
free_end_form c = free_choose template_in_stack end_form_in_template (λ d. end_form_of d.form d)
    (free_choose (named_in_scope scope.Default (text_of known.Form)) (and_then implied (through_named (text_of known.Form))) nothing_done
    (free_then implied (through_named (text_of known.Form)) (free_pop_run (kinds.Set sets.Implied)) (free_through_named (text_of known.Form))) free_nothing)
    (λ d. end_form_by d.form d) c

-- acts on the formatting list
without_entry-shorter : (id : ℕ) (es : List FormattingEntry) → length (without_entry id es) ≤ length es
without_entry-shorter id [] = omega arith
without_entry-shorter id (Marker ∷ es) = let h : length (without_entry id es) ≤ length es = without_entry-shorter id es in omega arith
without_entry-shorter id (Element other tag ∷ es) = go (other == id) (without_entry-shorter id es)
  where
    go : (b : Bool) → length (without_entry id es) ≤ length es → length (if b then es else Element other tag ∷ without_entry id es) ≤ length (Element other tag ∷ es)
    go true h = omega arith
    go false h = omega arith

free_remove_entry : (id : ℕ) → Free (remove_entry id)
free_remove_entry id c = record { next = omega arith; list = let h : length (without_entry id c.formatting) ≤ length c.formatting = without_entry-shorter id c.formatting in omega arith }

free_remove_earliest : (ids : List ℕ) → Free (remove_earliest ids)
free_remove_earliest [] = free_nothing
free_remove_earliest (id ∷ []) = free_remove_entry id
free_remove_earliest (id ∷ other ∷ ids) = free_remove_earliest (other ∷ ids)

free_make_room : (ids : List ℕ) → Free (make_room ids)
free_make_room ids = go (nat_le 3 (length ids))
  where
    go : (b : Bool) → Free (if b then remove_earliest ids else nothing_done)
    go true = free_remove_earliest ids
    go false = free_nothing

pub within_append_to_list : (tag : Tag) → Within 0 1 (append_to_list tag)
within_append_to_list tag = within_then 0 0 0 1 (λ c. make_room (equal_ids tag c.formatting) c) (append_entry tag) (λ c. free_make_room (equal_ids tag c.formatting) c) (λ c. record { next = omega arith; list = omega arith })

cleared-shorter : (es : List FormattingEntry) → length (cleared_list es) ≤ length es
cleared-shorter [] = omega arith
cleared-shorter (Marker ∷ es) = omega arith
cleared-shorter (Element id tag ∷ es) = let h : length (cleared_list es) ≤ length es = cleared-shorter es in omega arith

pub free_clear : Free clear
free_clear c = record { next = omega arith; list = let h : length (cleared_list c.formatting) ≤ length c.formatting = cleared-shorter c.formatting in omega arith }

pub free_drop_entry : (id : ℕ) → Free (drop_entry id)
free_drop_entry id = free_choose (λ c. has_entry id c.formatting) (remove_entry id) nothing_done (free_remove_entry id) free_nothing

-- entries in the place of others
spliced-length : (depth count : ℕ) (items es : List FormattingEntry) → length (spliced depth count items es) ≤ length es + length items
spliced-length depth count items es =
    let a : length (take depth es ++ (items ++ drop count (drop depth es))) ≡ length (take depth es) + length (items ++ drop count (drop depth es)) = length-append (take depth es) (items ++ drop count (drop depth es)) in
    let b : length (items ++ drop count (drop depth es)) ≡ length items + length (drop count (drop depth es)) = length-append items (drop count (drop depth es)) in
    let d : length (drop count (drop depth es)) ≡ length (drop depth es) - count = length-drop count (drop depth es) in
    let e : length (drop depth es) ≡ length es - depth = length-drop depth es in
    let f : length (take depth es) ≡ min depth (length es) = length-take depth es in
    omega arith

spliced-one : (depth : ℕ) (items es : List FormattingEntry) → depth < length es → length (spliced depth 1 items es) + 1 ≡ length es + length items
spliced-one depth items es h =
    let a : length (take depth es ++ (items ++ drop 1 (drop depth es))) ≡ length (take depth es) + length (items ++ drop 1 (drop depth es)) = length-append (take depth es) (items ++ drop 1 (drop depth es)) in
    let b : length (items ++ drop 1 (drop depth es)) ≡ length items + length (drop 1 (drop depth es)) = length-append items (drop 1 (drop depth es)) in
    let d : length (drop 1 (drop depth es)) ≡ length (drop depth es) - 1 = length-drop 1 (drop depth es) in
    let e : length (drop depth es) ≡ length es - depth = length-drop depth es in
    let f : length (take depth es) ≡ min depth (length es) = length-take depth es in
    omega arith

-- an entry that is found stands in the list
some_same : {X : Type 0} (a b : X) → Some a ≡ Some b → a ≡ b
some_same a b h = cc

none_some : {X : Type 0} (x : X) → None ≡ Some x → ⊥
none_some x h = cc

lower_some : (o : Option Spot) (spot : Spot) → option_map lower o ≡ Some spot → (x : Spot) × (o ≡ Some x) × (lower x ≡ spot)
lower_some None spot h = absurd (none_some spot h)
lower_some (Some x) spot h = (x, refl, some_same (lower x) spot h)

found-within : (wanted : ℕ) (es : List FormattingEntry) (spot : Spot) → find_id wanted es ≡ Some spot → spot.depth < length es
found-within wanted [] spot h = absurd (none_some spot h)
found-within wanted (Marker ∷ es) spot h =
    let (x, e, f) = lower_some (find_id wanted es) spot h in
    let k : x.depth < length es = found-within wanted es x e in
    let g : suc x.depth ≡ spot.depth = ap (λ (s : Spot). s.depth) f in
    omega arith
found-within wanted (Element id tag ∷ es) spot h = go (id == wanted) h (found-within wanted es)
  where
    go : (b : Bool) → (if b then Some (record { depth = 0; id = id; tag = tag }) else option_map lower (find_id wanted es)) ≡ Some spot → ((x : Spot) → find_id wanted es ≡ Some x → x.depth < length es) → spot.depth < length (Element id tag ∷ es)
    go true k later = let g : 0 ≡ spot.depth = ap (λ (s : Spot). s.depth) (some_same (record { depth = 0; id = id; tag = tag }) spot k) in omega arith
    go false k later =
        let (x, e, f) = lower_some (find_id wanted es) spot k in
        let n : x.depth < length es = later x e in
        let g : suc x.depth ≡ spot.depth = ap (λ (s : Spot). s.depth) f in
        omega arith

-- one entry in the place of another
replaced-length : (id : ℕ) (e : FormattingEntry) (es : List FormattingEntry) → length (edit_at id 1 (e ∷ []) es) ≤ length es
replaced-length id e es = go (find_id id es) refl
  where
    go : (o : Option Spot) → find_id id es ≡ o → length (spliced_at o 1 (e ∷ []) es) ≤ length es
    go None f = omega arith
    go (Some spot) f = let g : length (spliced spot.depth 1 (e ∷ []) es) + 1 ≡ length es + 1 = spliced-one spot.depth (e ∷ []) es (found-within id es spot f) in omega arith

struck-length : (id : ℕ) (es : List FormattingEntry) → length (edit_at id 1 [] es) ≤ length es
struck-length id es = go (find_id id es)
  where
    go : (o : Option Spot) → length (spliced_at o 1 [] es) ≤ length es
    go None = omega arith
    go (Some spot) = let g : length (spliced spot.depth 1 [] es) ≤ length es + 0 = spliced-length spot.depth 1 [] es in omega arith

added-length : (id : ℕ) (e : FormattingEntry) (es : List FormattingEntry) → length (edit_at id 0 (e ∷ []) es) ≤ length es + 1
added-length id e es = go (find_id id es)
  where
    go : (o : Option Spot) → length (spliced_at o 0 (e ∷ []) es) ≤ length es + 1
    go None = omega arith
    go (Some spot) = spliced-length spot.depth 0 (e ∷ []) es

-- the entry with this id is there
abbrev IsThere : ℕ → List FormattingEntry → Type 0
IsThere id es = is_some (find_id id es) ≡ true

there_gone : (id : ℕ) (es : List FormattingEntry) → IsThere id es → length (edit_at id 1 [] es) + 1 ≡ length es
there_gone id es h = go (find_id id es) refl h
  where
    go : (o : Option Spot) → find_id id es ≡ o → is_some o ≡ true → length (spliced_at o 1 [] es) + 1 ≡ length es
    go None f k = absurd (true≢false (sym k))
    go (Some spot) f k = let g : length (spliced spot.depth 1 [] es) + 1 ≡ length es + 0 = spliced-one spot.depth [] es (found-within id es spot f) in omega arith

lower_is : (o : Option Spot) → is_some (option_map lower o) ≡ is_some o
lower_is None = refl
lower_is (Some x) = refl

there-append : (id : ℕ) (items es : List FormattingEntry) → IsThere id es → IsThere id (items ++ es)
there-append id [] es h = h
there-append id (Marker ∷ items) es h = lower_is (find_id id (items ++ es)) ∙ there-append id items es h
there-append id (Element other tag ∷ items) es h = go (other == id) (there-append id items es h)
  where
    go : (b : Bool) → IsThere id (items ++ es) → is_some (if b then Some (record { depth = 0; id = other; tag = tag }) else option_map lower (find_id id (items ++ es))) ≡ true
    go true k = refl
    go false k = lower_is (find_id id (items ++ es)) ∙ k

-- an edit at another entry leaves it there
there_stays : (id other : ℕ) (items es : List FormattingEntry) → (id ≡ other → ⊥) → IsThere id es → IsThere id (edit_at other 1 items es)
there_stays id other items [] apart h = h
there_stays id other items (Marker ∷ es) apart h = go (find_id other es) (there_stays id other items es apart (sym (lower_is (find_id id es)) ∙ h))
  where
    go : (o : Option Spot) → IsThere id (spliced_at o 1 items es) → IsThere id (spliced_at (option_map lower o) 1 items (Marker ∷ es))
    go None k = lower_is (find_id id es) ∙ k
    go (Some x) k = lower_is (find_id id (spliced x.depth 1 items es)) ∙ k
there_stays id other items (Element own tag ∷ es) apart h = go (own == other) (own == id) refl refl h (there_stays id other items es apart)
  where
    deep : (o : Option Spot) (b : Bool) → (b ≡ false → IsThere id (spliced_at o 1 items es))
        → (own == id) ≡ b → IsThere id (spliced_at (option_map lower o) 1 items (Element own tag ∷ es))
    deep None true k e = ap (λ c. is_some (if c then Some (record { depth = 0; id = own; tag = tag }) else option_map lower (find_id id es))) e
    deep None false k e = ap (λ c. is_some (if c then Some (record { depth = 0; id = own; tag = tag }) else option_map lower (find_id id es))) e ∙ (lower_is (find_id id es) ∙ k refl)
    deep (Some x) true k e = ap (λ c. is_some (if c then Some (record { depth = 0; id = own; tag = tag }) else option_map lower (find_id id (spliced x.depth 1 items es)))) e
    deep (Some x) false k e = ap (λ c. is_some (if c then Some (record { depth = 0; id = own; tag = tag }) else option_map lower (find_id id (spliced x.depth 1 items es)))) e ∙ (lower_is (find_id id (spliced x.depth 1 items es)) ∙ k refl)

    rest : (own == id) ≡ false → is_some (if own == id then Some (record { depth = 0; id = own; tag = tag }) else option_map lower (find_id id es)) ≡ true → IsThere id es
    rest e k = sym (lower_is (find_id id es)) ∙ (sym (ap (λ c. is_some (if c then Some (record { depth = 0; id = own; tag = tag }) else option_map lower (find_id id es))) e) ∙ k)

    go : (a b : Bool) → (own == other) ≡ a → (own == id) ≡ b → is_some (if own == id then Some (record { depth = 0; id = own; tag = tag }) else option_map lower (find_id id es)) ≡ true → (IsThere id es → IsThere id (edit_at other 1 items es))
        → IsThere id (spliced_at (if a then Some (record { depth = 0; id = own; tag = tag }) else option_map lower (find_id other es)) 1 items (Element own tag ∷ es))
    go true true e f k later = absurd (apart (sym (eqb-true own id f) ∙ eqb-true own other e))
    go true false e f k later = there-append id items es (rest f k)
    go false b e f k later = deep (find_id other es) b (λ g. later (rest (f ∙ g) k)) f

-- nodes none of which has that id
abbrev AreOthers : ℕ → List OpenElement → Type 0
AreOthers id [] = Unit {0}
AreOthers id (e ∷ es) = (id ≡ e.id → ⊥) × AreOthers id es

others-drop : (id k : ℕ) (es : List OpenElement) → AreOthers id es → AreOthers id (drop k es)
others-drop id zero es h = h
others-drop id (suc k) [] h = h
others-drop id (suc k) (e ∷ es) h = others-drop id k es h.1

others-above : (id depth : ℕ) (es : List OpenElement) → open_at id es ≡ Some depth → AreOthers id (take depth es)
others-above id depth [] h = absurd (none_some depth h)
others-above id depth (e ∷ es) h = go (e.id == id) refl h (λ j. others-above id j es)
  where
    apart : (e.id == id) ≡ false → id ≡ e.id → ⊥
    apart f g = true≢false (sym (eq-eqb e.id id (sym g)) ∙ f)

    go : (b : Bool) → (e.id == id) ≡ b → (if b then Some 0 else option_map suc (open_at id es)) ≡ Some depth → ((j : ℕ) → open_at id es ≡ Some j → AreOthers id (take j es)) → AreOthers id (take depth (e ∷ es))
    go true f k later = subst (λ d. AreOthers id (take d (e ∷ es))) (some_same 0 depth k) tt
    go false f k later =
        let (j, there) = deeper (open_at id es) depth k in
        subst (λ d. AreOthers id (take d (e ∷ es))) (sym there.1) (apart f, later j there.0)

-- the climb past so many nodes
record Climbing (id turns : ℕ) (k l : Climbed) : Type 0 where
  pub next : l.next ≤ k.next + (3 - turns)
  pub list : length l.formatting ≤ length k.formatting
  pub there : IsThere id k.formatting → IsThere id l.formatting

climbing_pass : (id block turns : ℕ) (node : OpenElement) (k : Climbed) → (id ≡ node.id → ⊥)
    → (length (pass Fixed block (turns + 1) node k).formatting ≤ length k.formatting) × (IsThere id k.formatting → IsThere id (pass Fixed block (turns + 1) node k).formatting)
    × ((pass Fixed block (turns + 1) node k).next + (3 - (turns + 1)) ≤ k.next + (3 - turns))
climbing_pass id block turns node k apart = go (find_id node.id k.formatting)
  where
    over : (spot : Spot) (b : Bool) → nat_lt 3 (turns + 1) ≡ b
        → (length (if b then record k { formatting = edit_at node.id 1 [] k.formatting } else renewed Fixed block node.id spot.tag k).formatting ≤ length k.formatting)
        × (IsThere id k.formatting → IsThere id (if b then record k { formatting = edit_at node.id 1 [] k.formatting } else renewed Fixed block node.id spot.tag k).formatting)
        × ((if b then record k { formatting = edit_at node.id 1 [] k.formatting } else renewed Fixed block node.id spot.tag k).next + (3 - (turns + 1)) ≤ k.next + (3 - turns))
    over spot true e = (struck-length node.id k.formatting, λ h. there_stays id node.id [] k.formatting apart h, omega arith)
    over spot false e =
        let low : turns + 1 ≤ 3 = ltb-false 3 (turns + 1) e in
        (replaced-length node.id (Element k.next spot.tag) k.formatting, λ h. there_stays id node.id (Element k.next spot.tag ∷ []) k.formatting apart h, omega arith)

    go : (o : Option Spot) → (length (pass_listed Fixed block (turns + 1) node.id o k).formatting ≤ length k.formatting) × (IsThere id k.formatting → IsThere id (pass_listed Fixed block (turns + 1) node.id o k).formatting)
        × ((pass_listed Fixed block (turns + 1) node.id o k).next + (3 - (turns + 1)) ≤ k.next + (3 - turns))
    go None = (omega arith, λ h. h, omega arith)
    go (Some spot) = over spot (nat_lt 3 (turns + 1)) refl

climbing_all : (id block turns : ℕ) (nodes : List OpenElement) (k : Climbed) → AreOthers id nodes → Climbing id turns k (pass_all Fixed block turns nodes k)
climbing_all id block turns [] k h = record { next = omega arith; list = omega arith; there = λ t. t }
climbing_all id block turns (node ∷ nodes) k h =
    let j : Climbed = pass Fixed block (turns + 1) node k in
    let first = climbing_pass id block turns node k h.0 in
    let rest = climbing_all id block (turns + 1) nodes j h.1 in
    record {
      next = let a : (pass_all Fixed block (turns + 1) nodes j).next ≤ j.next + (3 - (turns + 1)) = rest.next in let b : j.next + (3 - (turns + 1)) ≤ k.next + (3 - turns) = first.2 in omega arith;
      list = let a : length (pass_all Fixed block (turns + 1) nodes j).formatting ≤ length j.formatting = rest.list in let b : length j.formatting ≤ length k.formatting = first.0 in omega arith;
      there = λ t. rest.there (first.1 t);
    }

settled-length : (bookmark : Option ℕ) (gone : ℕ) (e : FormattingEntry) (es : List FormattingEntry) → IsThere gone es → length (settled bookmark gone e es) ≤ length es
settled-length None gone e es h = replaced-length gone e es
settled-length (Some id) gone e es h =
    let a : length (edit_at id 0 (e ∷ []) (edit_at gone 1 [] es)) ≤ length (edit_at gone 1 [] es) + 1 = added-length id e (edit_at gone 1 [] es) in
    let b : length (edit_at gone 1 [] es) + 1 ≡ length es = there_gone gone es h in
    omega arith

costs_adopt_once : (fostering : Bool) (entry : Spot) (depth : ℕ) (block : Seat) (c : ControlState) → IsThere entry.id c.formatting → open_at entry.id c.stack ≡ Some depth → Costs 4 0 c (adopt_once fostering entry depth block c).control
costs_adopt_once fostering entry depth block c found opened =
    let nodes : List OpenElement = nodes_between block (take depth c.stack) in
    let k : Climbed = pass_all Fixed block.element.id 0 nodes (at_block block c.formatting c.next) in
    let climb = climbing_all entry.id block.element.id 0 nodes (at_block block c.formatting c.next) (others-drop entry.id (block.depth + 1) (take depth c.stack) (others-above entry.id depth c.stack opened)) in
    record {
      next = let a : k.next ≤ c.next + (3 - 0) = climb.next in omega arith;
      list =
          let a : length k.formatting ≤ length c.formatting = climb.list in
          let b : length (settled k.bookmark entry.id (Element k.next entry.tag) k.formatting) ≤ length k.formatting = settled-length k.bookmark entry.id (Element k.next entry.tag) k.formatting (climb.there found) in
          omega arith;
    }

there_named : (name : List ℕ) (es : List FormattingEntry) (spot : Spot) → find_name name es ≡ Some spot → IsThere spot.id es
there_named name [] spot h = absurd (none_some spot h)
there_named name (Marker ∷ es) spot h = absurd (none_some spot h)
there_named name (Element id tag ∷ es) spot h = go (bytes_eq name tag.name) h (there_named name es)
  where
    go : (b : Bool) → (if b then Some (record { depth = 0; id = id; tag = tag }) else option_map lower (find_name name es)) ≡ Some spot → ((x : Spot) → find_name name es ≡ Some x → IsThere x.id es) → IsThere spot.id (Element id tag ∷ es)
    go true k later =
        let e : id ≡ spot.id = ap (λ (s : Spot). s.id) (some_same (record { depth = 0; id = id; tag = tag }) spot k) in
        ap (λ c. is_some (if c then Some (record { depth = 0; id = id; tag = tag }) else option_map lower (find_id spot.id es))) (eq-eqb id spot.id e)
    go false k later =
        let (x, e, f) = lower_some (find_name name es) spot k in
        subst (λ i. IsThere i (Element id tag ∷ es)) (ap (λ (s : Spot). s.id) f) (there-append x.id (Element id tag ∷ []) es (later x e))

free_strike : (entry : Spot) → Free (strike entry)
free_strike entry c = record { next = omega arith; list = let a : length (edit_at entry.id 1 [] c.formatting) ≤ length c.formatting = struck-length entry.id c.formatting in omega arith }

costs_turn : (fostering : Bool) (name : List ℕ) → Within 4 0 (turn fostering name)
costs_turn fostering name c = go (find_name name c.formatting) refl
  where
    free : (f : Act) → Free f → Costs 4 0 c (f c).control
    free f h = costs_within 0 0 4 0 c (f c).control (omega arith) (omega arith) (h c)

    with_block : (entry : Spot) (depth : ℕ) (o : Option Seat) → IsThere entry.id c.formatting → open_at entry.id c.stack ≡ Some depth → Costs 4 0 c (turn_in fostering name (block_case entry depth o) c).control
    with_block entry depth None found opened = free (and_then (pop_by (depth + 1)) (strike entry)) (free_then (pop_by (depth + 1)) (strike entry) (free_pop_by (depth + 1)) (free_strike entry))
    with_block entry depth (Some block) found opened = costs_adopt_once fostering entry depth block c found opened

    with_hidden : (entry : Spot) (depth : ℕ) (b : Bool) → IsThere entry.id c.formatting → open_at entry.id c.stack ≡ Some depth
        → Costs 4 0 c (turn_in fostering name (if b then Hidden else block_case entry depth (furthest (take depth c.stack))) c).control
    with_hidden entry depth true found opened = costs_none 4 0 c
    with_hidden entry depth false found opened = with_block entry depth (furthest (take depth c.stack)) found opened

    with_open : (entry : Spot) (o : Option ℕ) → IsThere entry.id c.formatting → open_at entry.id c.stack ≡ o → Costs 4 0 c (turn_in fostering name (open_case entry o c.stack) c).control
    with_open entry None found e = free (strike entry) (free_strike entry)
    with_open entry (Some depth) found e = with_hidden entry depth (hides (take depth c.stack)) found e

    go : (o : Option Spot) → find_name name c.formatting ≡ o → Costs 4 0 c (turn_in fostering name (entry_case o c.stack) c).control
    go None e = free (walk name) (free_through (kinds.Html name) (kinds.Set sets.Special))
    go (Some entry) e = with_open entry (open_at entry.id c.stack) (there_named name c.formatting entry e) refl

abbrev four_times : ℕ → ℕ
four_times zero = 4
four_times (suc n) = 4 + four_times n

costs_turns : (n : ℕ) (fostering : Bool) (name : List ℕ) → Within (four_times n) 0 (turns n fostering name)
unfolding turns
costs_turns zero fostering name = λ c. costs_none 4 0 c
costs_turns (suc n) fostering name =
    within_choose (4 + four_times n) 0 (goes_on name) (and_then (turn fostering name) (turns n fostering name)) (turn fostering name)
    (within_then 4 0 (four_times n) 0 (turn fostering name) (turns n fostering name) (costs_turn fostering name) (costs_turns n fostering name))
    (λ c. costs_within 4 0 (4 + four_times n) 0 c (turn fostering name c).control (omega arith) (omega arith) (costs_turn fostering name c))

pub costs_adopt : (fostering : Bool) (name : List ℕ) → Within 36 0 (adopt fostering name)
costs_adopt fostering name = within_choose 36 0 (is_plain name) pop (turns 8 fostering name) (λ c. costs_within 0 0 36 0 c (pop c).control (omega arith) (omega arith) (free_pop_by 1 c)) (costs_turns 8 fostering name)

pub costs_close_link : (fostering : Bool) → Within 36 0 (close_link fostering)
costs_close_link fostering c = go (find_name (text_of known.A) c.formatting)
  where
    go : (o : Option Spot) → Costs 36 0 c (close_link_of fostering o c).control
    go None = costs_none 36 0 c
    go (Some entry) =
        within_then 36 0 0 0 (adopt fostering (text_of known.A)) (and_then (drop_entry entry.id) (take_off entry.id)) (costs_adopt fostering (text_of known.A))
        (free_then (drop_entry entry.id) (take_off entry.id) (free_drop_entry entry.id) (free_take_off entry.id)) c

-- reconstruction makes at most an element for each entry
got-within : (es : List FormattingEntry) (depth : ℕ) (e : FormattingEntry) → slice_get es depth ≡ Some e → depth < length es
got-within [] zero e h = absurd (none_some e h)
got-within [] (suc d) e h = absurd (none_some e h)
got-within (x ∷ xs) zero e h = omega arith
got-within (x ∷ xs) (suc d) e h = let k : d < length xs = got-within xs d e h in omega arith

costs_renew : (fostering : Bool) (depth : ℕ) → Within 1 0 (renew fostering depth)
costs_renew fostering depth c = go (slice_get c.formatting depth) refl
  where
    go : (o : Option FormattingEntry) → slice_get c.formatting depth ≡ o → Costs 1 0 c (renew_entry fostering o depth c).control
    go None e = costs_none 1 0 c
    go (Some Marker) e = costs_none 1 0 c
    go (Some (Element id tag)) e = record {
      next = omega arith;
      list = let a : length (spliced depth 1 (Element c.next tag ∷ []) c.formatting) + 1 ≡ length c.formatting + 1 = spliced-one depth (Element c.next tag ∷ []) c.formatting (got-within c.formatting depth (Element id tag) e) in omega arith;
    }

pub costs_renew_down : (fostering : Bool) (depth : ℕ) → Within depth 0 (renew_down fostering depth)
costs_renew_down fostering zero c = costs_none 0 0 c
costs_renew_down fostering (suc depth) c =
    costs_within (1 + depth) 0 (suc depth) 0 c (renew_down fostering (suc depth) c).control (omega arith) (omega arith)
    (within_then 1 0 depth 0 (renew fostering depth) (renew_down fostering depth) (costs_renew fostering depth) (costs_renew_down fostering depth) c)

pub stale-within : (stack : List OpenElement) (es : List FormattingEntry) → stale stack es ≤ length es
stale-within stack [] = omega arith
stale-within stack (Marker ∷ es) = omega arith
stale-within stack (Element id tag ∷ es) = go (is_some (open_at id stack)) (stale-within stack es)
  where
    go : (b : Bool) → stale stack es ≤ length es → (if b then 0 else suc (stale stack es)) ≤ length (Element id tag ∷ es)
    go true h = omega arith
    go false h = omega arith

pub costs_reconstruct : (most : ℕ) (fostering : Bool) (c : ControlState) → length c.formatting ≤ most → Costs most 0 c (reconstruct fostering c).control
costs_reconstruct most fostering c h =
    let a : stale c.stack c.formatting ≤ length c.formatting = stale-within c.stack c.formatting in
    costs_within (stale c.stack c.formatting) 0 most 0 c (reconstruct fostering c).control (omega arith) (omega arith) (costs_renew_down fostering (stale c.stack c.formatting) c)

-- the first pending character may reconstruct, and the others find nothing to
abbrev put_fostered : ℕ → Act
put_fostered x = and_then (put_here true (child.Text (x ∷ []))) (if is_white x then nothing_done else frameset_not_ok)

put_fostered-fresh : (x : ℕ) (c : ControlState) → Fresh c → Fresh (put_fostered x c).control
put_fostered-fresh x c h = go (is_white x)
  where
    go : (b : Bool) → Fresh (and_then (put_here true (child.Text (x ∷ []))) (if b then nothing_done else frameset_not_ok) c).control
    go true = h
    go false = h

free_put_fostered : (x : ℕ) → Free (put_fostered x)
free_put_fostered x c = go (is_white x)
  where
    go : (b : Bool) → Costs 0 0 c (and_then (put_here true (child.Text (x ∷ []))) (if b then nothing_done else frameset_not_ok) c).control
    go true = costs_none 0 0 c
    go false = record { next = omega arith; list = omega arith }

foster_fresh : (text : List ℕ) (c : ControlState) → Fresh c → Costs 0 0 c (foster_characters text c).control
foster_fresh [] c h = costs_none 0 0 c
foster_fresh (x ∷ xs) c h =
    let d : ControlState = (put_fostered x c).control in
    let rest : Costs 0 0 c (foster_characters xs d).control = costs_then 0 0 0 0 c d (foster_characters xs d).control (free_put_fostered x c) (foster_fresh xs d (put_fostered-fresh x c h)) in
    subst (λ (o : Outcome). Costs 0 0 c (foster_characters xs (put_fostered x o.control).control).control) (sym (reconstruct-fresh true c h)) rest

costs_foster : (most : ℕ) (text : List ℕ) (c : ControlState) → length c.formatting ≤ most → Costs most 0 c (foster_characters text c).control
costs_foster most [] c h = costs_none most 0 c
costs_foster most (x ∷ xs) c h =
    let r : ControlState = (reconstruct true c).control in
    let d : ControlState = (put_fostered x r).control in
    let rest : Costs 0 0 r (foster_characters xs d).control = costs_then 0 0 0 0 r d (foster_characters xs d).control (free_put_fostered x r) (foster_fresh xs d (put_fostered-fresh x r (reconstructed-fresh true c))) in
    costs_within (most + 0) 0 most 0 c (foster_characters (x ∷ xs) c).control (omega arith) (omega arith) (costs_then most 0 0 0 c r (foster_characters xs d).control (costs_reconstruct most true c h) rest)

free_put_characters : (text : List ℕ) → Free (put_characters text)
free_put_characters [] c = costs_none 0 0 c
free_put_characters (x ∷ xs) c = free_put_characters xs c

pub costs_flush : (most : ℕ) (c : ControlState) → length c.formatting ≤ most → Costs most 0 c (flush c).control
costs_flush most c h = go (list_all is_white c.pending)
  where
    emptied : ControlState
    emptied = record c { pending = [] }

    same : (made : ℕ) (d : ControlState) → Costs made 0 emptied d → Costs made 0 c d
    same made d f = record { next = f.next; list = f.list }

    go : (b : Bool) → Costs most 0 c ((if b then put_characters c.pending else foster_characters c.pending) emptied).control
    go true = costs_within 0 0 most 0 c (put_characters c.pending emptied).control (omega arith) (omega arith) (same 0 (put_characters c.pending emptied).control (free_put_characters c.pending emptied))
    go false = same most (foster_characters c.pending emptied).control (costs_foster most c.pending emptied h)
