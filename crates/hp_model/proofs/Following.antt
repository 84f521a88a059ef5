-- Each act leads from its course to the course after it: the one lemma beneath the test over the table.
use Rattle.std.proofs.Common.{◌≡◌, ℕ, ◌+◌, ◌≤◌, List, [], ◌∷◌, length, Bool, true, false, ◌||◌, ◌&&◌, not, refl, sym, ap, ◌∙◌, subst, arith, inl, inr, Option, None, Some, nat_le}
use Rattle.std.specs.Prelude.{if◌then◌else◌, All, IfSome}
use Rattle.std.specs.List.{list_all}
use Rattle.std.specs.Option.{is_some, unwrap_or}
use Rattle.std.specs.Str.{bytes_eq}
use Rattle.std.proofs.lemmas.Bool.{and_parts, and_from, true≢false}
use Rattle.std.proofs.lemmas.List.Elements.{All-cons}
use Rattle.hp_elements.specs.Kinds.{is_html as is_html_space}
use Rattle.hp_elements.specs.Names.{is_among, text_of, known_of}
use Rattle.hp_elements.specs.Quirks.{gives_quirks}
use Rattle.hp_elements.specs.Sets.{in_set}
use Rattle.hp_elements.specs.Tokens.{kind_of}
use Rattle.hp_elements.specs.declared.act.Act.{Act}
use Rattle.hp_elements.specs.declared.act.Act.TheVariants as act
use Rattle.hp_elements.specs.declared.act.Which.TheVariants.{Its, Named}
use Rattle.hp_elements.specs.declared.kinds.Kinds.TheVariants as kinds
use Rattle.hp_elements.specs.declared.known.Known.{Known}
use Rattle.hp_elements.specs.declared.known.Known.TheVariants as names
use Rattle.hp_elements.specs.declared.element_name.ElementName.TheVariants as element
use Rattle.hp_elements.specs.KnownNames as known
use Rattle.hp_elements.specs.declared.sets.Namespace.{Namespace}
use Rattle.hp_elements.specs.declared.sets.Namespace.TheVariants.{Html, MathMl, Svg}
use Rattle.hp_elements.specs.declared.sets.SetName.TheVariants as sets
use Rattle.hp_elements.specs.declared.tag.Tag.{Tag}
use Rattle.hp_elements.specs.declared.token.DoctypeParts.{DoctypeParts}
use Rattle.hp_elements.specs.declared.token.Kind.TheVariants.{Start}
use Rattle.hp_elements.specs.declared.token.Mode.{Mode}
use Rattle.hp_elements.specs.declared.token.Token.{Token}
use Rattle.hp_elements.specs.declared.token.Token.TheVariants as token
use Rattle.hp_elements.proofs.FindLemmas.{equal_bytes}
use Rattle.hp_elements.proofs.NameLemmas.{found_text, known_of_text}
use Rattle.hp_control.specs.declared.element.OpenElement.{OpenElement}
use Rattle.hp_control.specs.declared.element.FormattingEntry.{FormattingEntry}
use Rattle.hp_control.specs.declared.element.FormattingEntry.TheVariants.{Marker, Element}
use Rattle.hp_control.specs.Acts.{append_entry, append_to_list, current_id, element_for, equal_ids, push_head_of, remove_earliest, set_quirks, take_head_off_of, with_stack, head_element, insert, pop, without_entry}
use Rattle.hp_control.specs.Composed.{is_white, put_characters, foster_characters}
use Rattle.hp_control.specs.Foreign.{current_namespace, insert_in, opened_namespace, tag_in}
use Rattle.hp_control.specs.Outcome.{Act as ControlAct, becomes, nothing_done}
use Rattle.hp_control.specs.States.{ControlState, AreIds, IsId, IsNew, IsFormatting, entry_ids, is_html, is_named, is_rooted, is_settled, is_tall, is_template, is_template_mode}
use Rattle.hp_control.specs.Walks.{cleared as cleared_list, open_at, reset_mode}
use Rattle.hp_model.specs.Steps.{implied_but_for, quirks_of, step}
use Rattle.hp_model.specs.Tokens.{bare as bare_tag, is_self_closing, name_for, name_of, parts_of, tag_of}
use Rattle.hp_model.specs.Whole.{IsRead}
use Rattle.hp_model.proofs.Tally.{tally}
use Rattle.hp_model.proofs.Ids.{are_ids, between, between-none, is_id, new-none, none-new, once, within}
use Rattle.hp_model.proofs.Stacks.{counted, is_counted, pushed-keeps}
use Rattle.hp_model.proofs.Thins.{Ready, Thins, Thinning, entry_is, tally-entries, thins_all, thins_list, thinning_nothing, thinning_then, ready_after}
use Rattle.hp_model.proofs.Thinning.{thinning_pop, thinning_pop_to, thinning_pop_to_first, thinning_through, thinning_through_named, thinning_walk, thinning_implied, thinning_implied_except, thinning_implied_thoroughly, thinning_close_paragraph, thinning_close_item, thinning_close_description, thinning_end_form, thinning_take_off, thinning_remove_entry, thinning_reconstruct, one_new}
use Rattle.hp_model.proofs.Adopting.{thinning_adopt, thinning_close_link, thinning_flushed}
use Rattle.hp_model.proofs.Resetting.{reset-settled, reset-no_select}
use Rattle.hp_model.proofs.Course as course
use Rattle.hp_model.proofs.Course.{Course, Along, Base, bare, rooted, tall, alien, Count, fell, kept, unknown, Where, at, anywhere, left, Room, BaseIs, CountIs, PlaceIs, RoomIs, OriginalIs, IsMade, MadeIs, is_standing, is_bare, is_above, is_alien, thinner, higher, after_reset, is_settled_at, is_a_template, is_foreign_top, kind_is_template, kind_is_html, is_start, is_formatting_start, has_room, after, fits}
use Rattle.hp_model.proofs.Courses.{standing-rooted, ready, thin, push, push_html, push_head_along, through_along, template-stays, taken_off-tall, cleared-few, cleared-formatting, replaced-modes, replaced-room, dropped-modes, dropped-room, room-more}

-- what a known name says of a text
template-told : (id : ℕ) (tag : Tag) → is_html_space tag.namespace ≡ true → is_template (element_for id tag) ≡ kind_is_template (Start (known_of tag.name))
template-told id tag h = rw h (go (known_of tag.name) refl)
  where
    none_some : None ≡ Some known.Template → ⊥
    none_some k = cc

    unknown_name : known_of tag.name ≡ None → (b : Bool) → bytes_eq tag.name (text_of known.Template) ≡ b → b ≡ false
    unknown_name e false f = refl
    unknown_name e true f = absurd (none_some (sym e ∙ (ap known_of (equal_bytes true tag.name (text_of known.Template) (sym f) refl) ∙ known_of_text known.Template)))

    go : (o : Option Known) → known_of tag.name ≡ o → bytes_eq tag.name (text_of known.Template) ≡ kind_is_template (Start o)
    go (Some k) e = ap (λ t. bytes_eq t (text_of known.Template)) (sym (found_text tag.name k e))
    go None e = unknown_name e (bytes_eq tag.name (text_of known.Template)) refl

formatting-told : (name : List ℕ) → is_formatting_start (Start (known_of name)) ≡ true → in_set sets.Formatting Html name ≡ true
formatting-told name h = go (known_of name) refl h
  where
    go : (o : Option Known) → known_of name ≡ o → is_formatting_start (Start o) ≡ true → in_set sets.Formatting Html name ≡ true
    go (Some k) e f = subst (λ t. in_set sets.Formatting Html t ≡ true) (found_text name k e) f
    go None e f = absurd (true≢false (sym f))

html_known : (o : Option Known) → kind_is_html (Start o) ≡ true → o ≡ Some known.Html
html_known (Some (names.Element element.Html)) h = refl
html_known _ h = absurd (true≢false (sym h))

html-told : (name : List ℕ) → kind_is_html (Start (known_of name)) ≡ true → name ≡ text_of known.Html
html-told name h = sym (found_text name known.Html (html_known (known_of name) h))

html_tag-named : (tag : Tag) (id : ℕ) → is_html_space tag.namespace ≡ true → tag.name ≡ text_of known.Html → is_named known.Html (element_for id tag) ≡ true
html_tag-named tag id h e = and_from (is_html_space tag.namespace) (bytes_eq tag.name (text_of known.Html)) h (ap (λ t. bytes_eq t (text_of known.Html)) e)

html_tag-uncounted : (tag : Tag) (id : ℕ) → tag.name ≡ text_of known.Html → is_counted (element_for id tag) ≡ false
html_tag-uncounted tag id e = second (is_html_space tag.namespace) (is_among counted tag.name) (ap (is_among counted) e)
  where
    second : (a b : Bool) → b ≡ false → (a && b) ≡ false
    second true b k = k
    second false b k = refl

html_tag-plain : (tag : Tag) (id : ℕ) → tag.name ≡ text_of known.Html → is_template (element_for id tag) ≡ false
html_tag-plain tag id e = second (is_html_space tag.namespace) (bytes_eq tag.name (text_of known.Template)) (ap (λ t. bytes_eq t (text_of known.Template)) e)
  where
    second : (a b : Bool) → b ≡ false → (a && b) ≡ false
    second true b k = k
    second false b k = refl

pub was_not : (b : Bool) → not b ≡ true → b ≡ false
was_not true h = sym h
was_not false h = refl

insert_along : (fostering : Bool) (t : Token) → IsRead t → (v : Course) (n : ℕ) (s : ControlState) → Along v n s → fits (kind_of t) act.Insert v ≡ true → Along (after (kind_of t) act.Insert v) n (insert fostering (tag_of t) s).control
insert_along fostering (token.Start self_closing tag) read v n s g h =
    let parts = and_parts (is_standing v.base) _ h in
    let inner = and_parts (is_start (Start (known_of tag.name))) _ parts.1 in
    push true (kind_is_template (Start (known_of tag.name))) tag v n s g parts.0 (ap is_html_space read) (λ e. absurd (true≢false e)) (template-told s.next tag (ap is_html_space read)) inner.1
insert_along fostering t read v n s g h = absurd (true≢false (sym (and_parts (is_start (kind_of t)) (not (kind_is_template (kind_of t)) || has_room v.room) (and_parts (is_standing v.base) (is_start (kind_of t) && (not (kind_is_template (kind_of t)) || has_room v.room)) h).1).0))

insert_html_along : (t : Token) → IsRead t → (v : Course) (n : ℕ) (s : ControlState) → Along v n s → fits (kind_of t) act.InsertHtml v ≡ true → Along (after (kind_of t) act.InsertHtml v) n (record s { stack = element_for s.next (tag_of t) ∷ s.stack; next = s.next + 1 })
insert_html_along (token.Start self_closing tag) read v n s g h =
    let parts = and_parts (is_bare v.base) (kind_is_html (Start (known_of tag.name))) h in
    let name = html-told tag.name parts.1 in
    push_html tag v n s g parts.0 (λ id. html_tag-named tag id (ap is_html_space read) name) (λ id. html_tag-uncounted tag id name) (λ id. html_tag-plain tag id name)
insert_html_along t read v n s g h = absurd (true≢false (sym (and_parts (is_bare v.base) (kind_is_html (kind_of t)) h).1))

bare_along : (fostering : Bool) (k : Known) (v : Course) (n : ℕ) (s : ControlState) → Along v n s → is_standing v.base ≡ true → not (is_a_template (text_of k)) ≡ true → Along (higher (is_among counted (text_of k)) false v) n (insert fostering (bare_tag (text_of k)) s).control
bare_along fostering k v n s g h f = push (is_among counted (text_of k)) false (bare_tag (text_of k)) v n s g h refl (λ e. e) (was_not (is_a_template (text_of k)) f) refl

-- a foreign element, which may be popped again
pub foreign_thins : (space : Namespace) (fostering self_closing : Bool) (tag : Tag) → is_html_space space ≡ false → Thinning (insert_in space fostering self_closing tag)
foreign_thins space fostering self_closing tag h = thinning_then (insert fostering (tag_in space tag)) (if self_closing then pop else nothing_done) pushed (popped self_closing)
  where
    first : (a b : Bool) → a ≡ false → (a && b) ≡ false
    first true b k = absurd (true≢false k)
    first false b k = refl

    same : (o : Option ℕ) → IfSome o (λ i. o ≡ Some i)
    same None = tt
    same (Some i) = refl

    popped : (b : Bool) → Thinning (if b then pop else nothing_done)
    popped true = thinning_pop
    popped false = thinning_nothing

    pushed : Thinning (insert fostering (tag_in space tag))
    pushed c r = record {
      next = omega arith;
      stack = pushed-keeps c.next (c.next + 1) (element_for c.next (tag_in space tag)) c.stack (first (is_html_space space) _ h) (first (is_html_space space) _ h) (one_new c.next c.next refl);
      list = λ i. omega arith;
      formatting = r.formatting;
      form = same c.form;
      alike = record { mode = refl; original = refl; pending = refl; templates = refl; head = refl; lex = refl };
    }

pub opened-foreign : (name : List ℕ) → is_html_space (opened_namespace name) ≡ false
opened-foreign name = go (bytes_eq name (text_of known.Svg))
  where
    go : (b : Bool) → is_html_space (if b then Svg else MathMl) ≡ false
    go true = refl
    go false = refl

pub alien-foreign : (b : Base) (st : List OpenElement) (next : ℕ) → is_alien b ≡ true → BaseIs b st next → is_html_space (current_namespace st) ≡ false
alien-foreign alien [] next h k = absurd (true≢false (sym k.1))
alien-foreign alien (e ∷ es) next h k = was_not (is_html e) k.1
alien-foreign _ st next h k = absurd (true≢false (sym h))

pub alien-standing : (b : Base) → is_alien b ≡ true → is_standing b ≡ true
alien-standing alien h = refl
alien-standing _ h = absurd (true≢false (sym h))

-- the head element, pushed and taken off
head_pushed : (v : Course) (n : ℕ) (s : ControlState) → Along v n s → is_standing v.base ≡ true → (o : Option ℕ) → IfSome o (IsId s.next) → Along (thinner v) n (push_head_of o s).control
head_pushed v n s g h None i = thin v n s s h g (thins_all s (ready v n s h g))
head_pushed v n s g h (Some id) i = go (open_at id s.stack) refl
  where
    go : (o : Option ℕ) → open_at id s.stack ≡ o → Along (thinner v) n (if is_some o then becomes s else with_stack (head_element id ∷ s.stack) s).control
    go None e = push_head_along v n s id g h i e
    go (Some k) e = thin v n s s h g (thins_all s (ready v n s h g))

head_taken_thins : (o : Option ℕ) (s : ControlState) → Ready s → IfSome o (IsId s.next) → Thins s (take_head_off_of o s).control
head_taken_thins None s r i = thins_all s r
head_taken_thins (Some id) s r i = thinning_take_off id i.0 s r

head_taken_base : (made above : Bool) (s : ControlState) (o : Option ℕ) → is_rooted s.stack ≡ true → is_rooted (take_head_off_of o s).control.stack ≡ true → (above ≡ true → is_tall s.stack ≡ true) → MadeIs made s.stack s.formatting o s.next → IfSome o (IsId s.next)
    → BaseIs (if made && above then tall else rooted) (take_head_off_of o s).control.stack s.next
head_taken_base true true s None r q a m i = (q, a refl)
head_taken_base true true s (Some id) r q a m i = (q, taken_off-tall s id r (a refl) i.0 m.not_head)
head_taken_base true false s o r q a m i = q
head_taken_base false above s o r q a m i = q

above-tall : (b : Base) (st : List OpenElement) (next : ℕ) → BaseIs b st next → is_above b ≡ true → is_tall st ≡ true
above-tall tall st next k h = k.1
above-tall _ st next k h = absurd (true≢false (sym h))

base_next : (b : Bool) (st : List OpenElement) (n m : ℕ) → BaseIs (if b then tall else rooted) st n → BaseIs (if b then tall else rooted) st m
base_next true st n m h = h
base_next false st n m h = h

take_head_off_along : (v : Course) (n : ℕ) (s : ControlState) → Along v n s → is_standing v.base ≡ true → Along (record (thinner v) { base = if v.made && is_above v.base then tall else rooted }) n (take_head_off_of s.head s).control
take_head_off_along v n s g h =
    let t = head_taken_thins s.head s (ready v n s h g) g.head in
    let w = thin v n s (take_head_off_of s.head s).control h g t in
    record { base = base_next (v.made && is_above v.base) (take_head_off_of s.head s).control.stack s.next (take_head_off_of s.head s).control.next (head_taken_base v.made (is_above v.base) s s.head (standing-rooted v.base s.stack s.next h g.base) w.base (above-tall v.base s.stack s.next g.base) g.made g.head); count = w.count; place = w.place; original = w.original; pending = w.pending; room = w.room; there = w.there; made = w.made; template_modes = w.template_modes; formatting = w.formatting; stack_ids = w.stack_ids; list_ids = w.list_ids; head = w.head; form = w.form; lex = w.lex }

-- Noah's ark: the earliest of three equal entries goes, then the new one comes
remove_list : List ℕ → List FormattingEntry → List FormattingEntry
remove_list [] list = list
remove_list (id ∷ []) list = without_entry id list
remove_list (id ∷ other ∷ ids) list = remove_list (other ∷ ids) list

removed-control : (ids : List ℕ) (s : ControlState) → (remove_earliest ids s).control ≡ record s { formatting = remove_list ids s.formatting }
unfolding remove_list
removed-control [] s = refl
removed-control (id ∷ []) s = refl
removed-control (id ∷ other ∷ ids) s = removed-control (other ∷ ids) s

pub removed_thins : (ids : List ℕ) → Thinning (remove_earliest ids)
removed_thins [] = thinning_nothing
removed_thins (id ∷ []) = thinning_remove_entry id
removed_thins (id ∷ other ∷ ids) = removed_thins (other ∷ ids)

-- of ids some may go
fewer_ids : (low next : ℕ) (old new : List FormattingEntry) → ((i : ℕ) → tally (entry_is i) new ≤ tally (entry_is i) old) → AreIds low next (entry_ids old) → AreIds low next (entry_ids new)
fewer_ids low next old new few a = are_ids low next (entry_ids new)
    (λ i.
    let e : tally (is_id i) (entry_ids old) ≡ tally (entry_is i) old = tally-entries i old in
    let f : tally (is_id i) (entry_ids new) ≡ tally (entry_is i) new = tally-entries i new in
    let k : tally (entry_is i) new ≤ tally (entry_is i) old = few i in
    let o : tally (is_id i) (entry_ids old) ≤ 1 = once low next (entry_ids old) i a in
    omega arith)
    (λ i p.
    let e : tally (is_id i) (entry_ids old) ≡ tally (entry_is i) old = tally-entries i old in
    let f : tally (is_id i) (entry_ids new) ≡ tally (entry_is i) new = tally-entries i new in
    let k : tally (entry_is i) new ≤ tally (entry_is i) old = few i in
    within low next (entry_ids old) i a (omega arith))

unlisted_still : (id : ℕ) (old new : List FormattingEntry) → tally (entry_is id) new ≤ tally (entry_is id) old → IsNew id (entry_ids old) → IsNew id (entry_ids new)
unlisted_still id old new few h =
    let e : tally (is_id id) (entry_ids old) ≡ tally (entry_is id) old = tally-entries id old in
    let f : tally (is_id id) (entry_ids new) ≡ tally (entry_is id) new = tally-entries id new in
    let z : tally (is_id id) (entry_ids old) ≡ 0 = new-none id (entry_ids old) h in
    none-new id (entry_ids new) (omega arith)

list_few : (n : ℕ) (new old : List FormattingEntry) → ((i : ℕ) → tally (entry_is i) new ≤ tally (entry_is i) old + between n n i) → (i : ℕ) → tally (entry_is i) new ≤ tally (entry_is i) old
list_few n new old h i =
    let k : tally (entry_is i) new ≤ tally (entry_is i) old + between n n i = h i in
    let z : between n n i ≡ 0 = between-none n i in
    omega arith

-- the new entry in a list of which some may have gone
entry_added : (v : Course) (n : ℕ) (s : ControlState) (tag : Tag) (list : List FormattingEntry) → Along v n s → IsMade s.stack s.formatting s.head s.next → IsFormatting (Element (current_id s.stack) tag) → ((i : ℕ) → tally (entry_is i) list ≤ tally (entry_is i) s.formatting) → All IsFormatting list
    → Along (record v { made = false }) n (append_entry tag (record s { formatting = list })).control
entry_added v n s tag list g m f few all =
    let there : IsNew (current_id s.stack) (entry_ids list) = unlisted_still (current_id s.stack) s.formatting list (few (current_id s.stack)) m.unlisted in
    record { base = g.base; count = g.count; place = g.place; original = g.original; pending = g.pending; room = g.room; there = g.there; made = tt; template_modes = g.template_modes; formatting = All-cons IsFormatting (Element (current_id s.stack) tag) list f all; stack_ids = g.stack_ids; list_ids = (m.above, m.below, there, fewer_ids 1 s.next s.formatting list few g.list_ids); head = g.head; form = g.form; lex = g.lex }

append_along : (v : Course) (n : ℕ) (s : ControlState) (tag : Tag) → Along v n s → is_standing v.base ≡ true → IsMade s.stack s.formatting s.head s.next → IsFormatting (Element (current_id s.stack) tag) → Along (record v { made = false }) n (append_to_list tag s).control
append_along v n s tag g h m f = go (nat_le 3 (length (equal_ids tag s.formatting)))
  where
    go : (b : Bool) → Along (record v { made = false }) n (append_entry tag ((if b then remove_earliest (equal_ids tag s.formatting) else nothing_done) s).control).control
    go true =
        let t = removed_thins (equal_ids tag s.formatting) s (ready v n s h g) in
        let e = removed-control (equal_ids tag s.formatting) s in
        let u : Thins s (record s { formatting = remove_list (equal_ids tag s.formatting) s.formatting }) = subst (λ d. Thins s d) e t in
        subst (λ d. Along (record v { made = false }) n (append_entry tag d).control) (sym e) (entry_added v n s tag (remove_list (equal_ids tag s.formatting) s.formatting) g m f (list_few s.next (remove_list (equal_ids tag s.formatting) s.formatting) s.formatting u.list) u.formatting)
    go false = entry_added v n s tag s.formatting g m f (λ i. omega arith) g.formatting

made_made : (b : Bool) (st : List OpenElement) (list : List FormattingEntry) (hd : Option ℕ) (next : ℕ) → b ≡ true → MadeIs b st list hd next → IsMade st list hd next
made_made true st list hd next h m = m
made_made false st list hd next h m = absurd (true≢false (sym h))

made_marked : (b : Bool) (st : List OpenElement) (list : List FormattingEntry) (hd : Option ℕ) (next : ℕ) → MadeIs b st list hd next → MadeIs b st (Marker ∷ list) hd next
made_marked true st list hd next m = record { above = m.above; below = m.below; unlisted = m.unlisted; not_head = m.not_head }
made_marked false st list hd next m = tt

formatting_entry : (t : Token) (id : ℕ) → IsRead t → is_formatting_start (kind_of t) ≡ true → IsFormatting (Element id (tag_of t))
formatting_entry (token.Start self_closing tag) id read h = (read, subst (λ space. in_set sets.Formatting space tag.name ≡ true) (sym read) (formatting-told tag.name h))
formatting_entry t id read h = absurd (true≢false (sym h))

above-standing : (b : Base) → is_above b ≡ true → is_standing b ≡ true
above-standing tall h = refl
above-standing _ h = absurd (true≢false (sym h))

settled_at : (w : Where) (n : ℕ) (st : List OpenElement) (m : Mode) → is_settled_at w ≡ true → PlaceIs w n st m → is_settled m ≡ true
settled_at (at m) n st present h k = ap is_settled k ∙ h
settled_at _ n st present h k = absurd (true≢false (sym h))

original-settled : (has_original : Bool) (o : Option Mode) (present : Mode) → has_original ≡ true → OriginalIs has_original o → is_settled (unwrap_or o present) ≡ true
original-settled true None present h k = absurd k
original-settled true (Some m) present h k = k
original-settled false o present h k = absurd (true≢false (sym h))

reset-place : (c : Count) (n : ℕ) (st : List OpenElement) (modes : List Mode) (has_head : Bool) → All (λ m. is_template_mode m ≡ true) modes → CountIs c n st → PlaceIs (after_reset c) n st (reset_mode has_head modes st)
reset-place fell n st modes has_head h k = reset-settled modes has_head st h
reset-place kept n st modes has_head h k = reset-settled modes has_head st h
reset-place unknown n st modes has_head h k = reset-settled modes has_head st h
reset-place course.cleared n st modes has_head h (m, inl f) = (reset-settled modes has_head st h, inl f)
reset-place course.cleared n st modes has_head h (m, inr f) = (reset-settled modes has_head st h, inr (reset-no_select modes has_head st h f))

thin_by : (v : Course) (n : ℕ) (s : ControlState) (f : ControlAct) → is_standing v.base ≡ true → Along v n s → Thinning f → Along (thinner v) n (f s).control
thin_by v n s f h g t = thin v n s (f s).control h g (t s (ready v n s h g))

-- the flush empties the pending characters first
emptied : (v : Course) (n : ℕ) (s : ControlState) → Along v n s → Along (record v { has_pending = false }) n (record s { pending = [] })
emptied v n s g = record { base = g.base; count = g.count; place = g.place; original = g.original; pending = refl; room = g.room; there = g.there; made = g.made; template_modes = g.template_modes; formatting = g.formatting; stack_ids = g.stack_ids; list_ids = g.list_ids; head = g.head; form = g.form; lex = g.lex }

flush_along : (v : Course) (n : ℕ) (s : ControlState) (f : ControlAct) → is_standing v.base ≡ true → Along v n s → Thinning f → Along (record (thinner v) { has_pending = false }) n (f (record s { pending = [] })).control
flush_along v n s f h g t = thin_by (record v { has_pending = false }) n (record s { pending = [] }) f h (emptied v n s g) t

pub implied_but_thins : (o : Option Known) → Thinning (implied_but_for o)
implied_but_thins None = thinning_implied
implied_but_thins (Some name) = thinning_implied_except name

quirks_along : (v : Course) (n : ℕ) (s : ControlState) (parts : DoctypeParts) → Along v n s → Along v n (quirks_of parts s).control
quirks_along v n s parts g = go (gives_quirks parts)
  where
    go : (b : Bool) → Along v n ((if b then set_quirks else nothing_done) s).control
    go true = g
    go false = g

clear_along : (v : Course) (n : ℕ) (s : ControlState) (list : List FormattingEntry) → is_standing v.base ≡ true → Along v n s → ((i : ℕ) → tally (entry_is i) list ≤ tally (entry_is i) s.formatting) → All IsFormatting list → Along (record v { made = false }) n (record s { formatting = list })
clear_along v n s list h g few all =
    let r = ready_after s (record s { formatting = list }) (ready v n s h g) (thins_list s list few all) in
    record { base = g.base; count = g.count; place = g.place; original = g.original; pending = g.pending; room = g.room; there = g.there; made = tt; template_modes = g.template_modes; formatting = all; stack_ids = g.stack_ids; list_ids = r.list_ids; head = g.head; form = g.form; lex = g.lex }

pub act_along : (fostering : Bool) (t : Token) → IsRead t → (a : Act) (v : Course) (n : ℕ) (s : ControlState) → Along v n s → fits (kind_of t) a v ≡ true → Along (after (kind_of t) a v) n (step fostering t a s).control
act_along fostering t read act.QuirksOfDoctype v n s g h = quirks_along v n s (parts_of t) g
act_along fostering t read act.Insert v n s g h = insert_along fostering t read v n s g h
act_along fostering t read (act.InsertBare k) v n s g h = let parts = and_parts (is_standing v.base) (not (is_a_template (text_of k))) h in bare_along fostering k v n s g parts.0 parts.1
act_along fostering t read act.InsertHtml v n s g h = insert_html_along t read v n s g h
act_along fostering t read act.InsertBareHtml v n s g h = push_html (bare_tag (text_of known.Html)) v n s g h (λ id. refl) (λ id. refl) (λ id. refl)
act_along fostering t read act.InsertForeign v n s g h = thin_by v n s (step fostering t act.InsertForeign) h g (foreign_thins (opened_namespace (name_of t)) fostering (is_self_closing t) (tag_of t) (opened-foreign (name_of t)))
act_along fostering t read act.InsertAsCurrent v n s g h = thin_by v n s (insert_in (current_namespace s.stack) fostering (is_self_closing t) (tag_of t)) (alien-standing v.base h) g (foreign_thins (current_namespace s.stack) fostering (is_self_closing t) (tag_of t) (alien-foreign v.base s.stack s.next h g.base))
act_along fostering t read act.PushHead v n s g h = head_pushed v n s g h s.head g.head
act_along fostering t read act.Reconstruct v n s g h = thin_by v n s (step fostering t act.Reconstruct) h g (thinning_reconstruct fostering)
act_along fostering t read act.Pop v n s g h = thin_by v n s (step fostering t act.Pop) h g thinning_pop
act_along fostering t read (act.PopTo names) v n s g h = thin_by v n s (step fostering t (act.PopTo names)) h g (thinning_pop_to (kinds.Set names))
act_along fostering t read act.PopToFirst v n s g h = thin_by v n s (step fostering t act.PopToFirst) h g thinning_pop_to_first
act_along fostering t read act.PopToPoint v n s g h = thin_by v n s (step fostering t act.PopToPoint) h g (thinning_pop_to kinds.HtmlOrPoint)
act_along fostering t read (act.Through Its) v n s g h = thin_by v n s (step fostering t (act.Through Its)) h g (thinning_through_named (name_for t Its))
act_along fostering t read (act.Through (Named k)) v n s g h = let parts = and_parts (is_standing v.base) (not (bytes_eq (text_of known.Html) (text_of k))) h in through_along (text_of k) (was_not (bytes_eq (text_of known.Html) (text_of k)) parts.1) v n s parts.0 g (thinning_through_named (text_of k) s (ready v n s parts.0 g))
act_along fostering t read (act.ThroughFirstOf names) v n s g h = thin_by v n s (step fostering t (act.ThroughFirstOf names)) h g (thinning_through (kinds.Set names) kinds.Nothing)
act_along fostering t read act.ThroughForeign v n s g h = thin_by v n s (step fostering t act.ThroughForeign) h g (thinning_through (kinds.Foreign (name_of t)) kinds.AnyHtml)
act_along fostering t read act.Implied v n s g h = thin_by v n s (step fostering t act.Implied) h g thinning_implied
act_along fostering t read (act.ImpliedExcept which) v n s g h = thin_by v n s (step fostering t (act.ImpliedExcept which)) h g (implied_but_thins (known_of (name_for t which)))
act_along fostering t read act.ImpliedThoroughly v n s g h = let w = thin_by v n s (step fostering t act.ImpliedThoroughly) h g thinning_implied_thoroughly in record { base = w.base; count = w.count; place = w.place; original = w.original; pending = w.pending; room = w.room; there = template-stays v.there s.stack g.there; made = w.made; template_modes = w.template_modes; formatting = w.formatting; stack_ids = w.stack_ids; list_ids = w.list_ids; head = w.head; form = w.form; lex = w.lex }
act_along fostering t read act.CloseParagraph v n s g h = thin_by v n s (step fostering t act.CloseParagraph) h g thinning_close_paragraph
act_along fostering t read act.CloseItem v n s g h = thin_by v n s (step fostering t act.CloseItem) h g thinning_close_item
act_along fostering t read act.CloseDescription v n s g h = thin_by v n s (step fostering t act.CloseDescription) h g thinning_close_description
act_along fostering t read act.Walk v n s g h = thin_by v n s (step fostering t act.Walk) h g (thinning_walk (name_of t))
act_along fostering t read act.TakeHeadOff v n s g h = take_head_off_along v n s g h
act_along fostering t read act.EndForm v n s g h = thin_by v n s (step fostering t act.EndForm) h g thinning_end_form
act_along fostering t read act.CloseLink v n s g h = thin_by v n s (step fostering t act.CloseLink) h g (thinning_close_link fostering)
act_along fostering t read (act.Adopt which) v n s g h = thin_by v n s (step fostering t (act.Adopt which)) h g (thinning_adopt fostering (name_for t which))
act_along fostering t read act.AppendToList v n s g h = let parts = and_parts (is_formatting_start (kind_of t)) (is_above v.base && v.made) h in let inner = and_parts (is_above v.base) v.made parts.1 in append_along v n s (tag_of t) g (above-standing v.base inner.0) (made_made v.made s.stack s.formatting s.head s.next inner.1 g.made) (formatting_entry t (current_id s.stack) read parts.0)
act_along fostering t read act.Marker v n s g h = record { base = g.base; count = g.count; place = g.place; original = g.original; pending = g.pending; room = g.room; there = g.there; made = made_marked v.made s.stack s.formatting s.head s.next g.made; template_modes = g.template_modes; formatting = All-cons IsFormatting Marker s.formatting tt g.formatting; stack_ids = g.stack_ids; list_ids = g.list_ids; head = g.head; form = g.form; lex = g.lex }
act_along fostering t read act.ClearToMarker v n s g h = clear_along v n s (cleared_list s.formatting) h g (λ i. cleared-few i s.formatting) (cleared-formatting s.formatting g.formatting)
act_along fostering t read act.HeadPointer v n s g h = let m = made_made v.made s.stack s.formatting s.head s.next (and_parts (is_above v.base) v.made h).1 g.made in record { base = g.base; count = g.count; place = g.place; original = g.original; pending = g.pending; room = g.room; there = g.there; made = tt; template_modes = g.template_modes; formatting = g.formatting; stack_ids = g.stack_ids; list_ids = g.list_ids; head = (m.above, m.below); form = g.form; lex = g.lex }
act_along fostering t read act.FormPointer v n s g h = let m = made_made v.made s.stack s.formatting s.head s.next (and_parts (is_above v.base) v.made h).1 g.made in record { base = g.base; count = g.count; place = g.place; original = g.original; pending = g.pending; room = g.room; there = g.there; made = g.made; template_modes = g.template_modes; formatting = g.formatting; stack_ids = g.stack_ids; list_ids = g.list_ids; head = g.head; form = (m.above, m.below); lex = g.lex }
act_along fostering t read act.Reset v n s g h = record { base = g.base; count = g.count; place = reset-place v.count n s.stack s.templates (is_some s.head) g.template_modes g.count; original = g.original; pending = g.pending; room = g.room; there = g.there; made = g.made; template_modes = g.template_modes; formatting = g.formatting; stack_ids = g.stack_ids; list_ids = g.list_ids; head = g.head; form = g.form; lex = g.lex }
act_along fostering t read act.KeepOriginal v n s g h = record { base = g.base; count = g.count; place = g.place; original = settled_at v.place n s.stack s.mode h g.place; pending = g.pending; room = g.room; there = g.there; made = g.made; template_modes = g.template_modes; formatting = g.formatting; stack_ids = g.stack_ids; list_ids = g.list_ids; head = g.head; form = g.form; lex = g.lex }
act_along fostering t read act.ToOriginal v n s g h = record { base = g.base; count = g.count; place = original-settled v.has_original s.original s.mode h g.original; original = refl; pending = g.pending; room = g.room; there = g.there; made = g.made; template_modes = g.template_modes; formatting = g.formatting; stack_ids = g.stack_ids; list_ids = g.list_ids; head = g.head; form = g.form; lex = g.lex }
act_along fostering t read (act.Switch mode) v n s g h = record { base = g.base; count = g.count; place = refl; original = g.original; pending = g.pending; room = g.room; there = g.there; made = g.made; template_modes = g.template_modes; formatting = g.formatting; stack_ids = g.stack_ids; list_ids = g.list_ids; head = g.head; form = g.form; lex = g.lex }
act_along fostering t read (act.PushTemplateMode mode) v n s g h = record { base = g.base; count = g.count; place = g.place; original = g.original; pending = g.pending; room = room-more v.room (tally is_template s.stack) (length s.templates) (length (mode ∷ s.templates)) (omega arith) g.room; there = g.there; made = g.made; template_modes = All-cons (λ m. is_template_mode m ≡ true) mode s.templates h g.template_modes; formatting = g.formatting; stack_ids = g.stack_ids; list_ids = g.list_ids; head = g.head; form = g.form; lex = g.lex }
act_along fostering t read (act.ReplaceTemplateMode mode) v n s g h = record { base = g.base; count = g.count; place = g.place; original = g.original; pending = g.pending; room = replaced-room v.room (tally is_template s.stack) mode s.templates g.room; there = g.there; made = g.made; template_modes = replaced-modes mode s.templates h g.template_modes; formatting = g.formatting; stack_ids = g.stack_ids; list_ids = g.list_ids; head = g.head; form = g.form; lex = g.lex }
act_along fostering t read act.PopTemplateMode v n s g h = record { base = g.base; count = g.count; place = g.place; original = g.original; pending = g.pending; room = dropped-room v.room (tally is_template s.stack) s.templates h g.room; there = g.there; made = g.made; template_modes = dropped-modes s.templates g.template_modes; formatting = g.formatting; stack_ids = g.stack_ids; list_ids = g.list_ids; head = g.head; form = g.form; lex = g.lex }
act_along fostering t read act.EmptyPending v n s g h = record { base = g.base; count = g.count; place = g.place; original = g.original; pending = refl; room = g.room; there = g.there; made = g.made; template_modes = g.template_modes; formatting = g.formatting; stack_ids = g.stack_ids; list_ids = g.list_ids; head = g.head; form = g.form; lex = g.lex }
act_along fostering t read act.AppendPending v n s g h = record { base = g.base; count = g.count; place = g.place; original = g.original; pending = tt; room = g.room; there = g.there; made = g.made; template_modes = g.template_modes; formatting = g.formatting; stack_ids = g.stack_ids; list_ids = g.list_ids; head = g.head; form = g.form; lex = g.lex }
act_along fostering t read act.Flush v n s g h = flush_along v n s (if list_all is_white s.pending then put_characters s.pending else foster_characters s.pending) h g (thinning_flushed s.pending)
act_along fostering t read _ v n s g h = g
