-- Acts on the list of formatting elements, the form pointer and the modes, on their tracks.
use Rattle.std.proofs.Common.{◌≡◌, ℕ, ◌+◌, ◌<◌, List, [], ◌∷◌, drop, length, Bool, true, false, ◌||◌, ◌&&◌, refl, sym, ap, subst, arith, inl, inr, Option, None, Some, nat_le, nat_lt}
use Rattle.std.specs.Prelude.{if◌then◌else◌, All, ◌⊎◌}
use Rattle.std.specs.Option.{is_some, unwrap_or}
use Rattle.std.proofs.lemmas.Bool.{and_parts, and_from, true≢false, lt-ltb, le-leb, not-true}
use Rattle.std.proofs.lemmas.List.Elements.{All-nil, All-cons, All-head, All-tail}
use Rattle.hp_elements.specs.declared.tag.Tag.{Tag}
use Rattle.hp_elements.specs.declared.token.Mode.{Mode}
use Rattle.hp_elements.specs.declared.token.Mode.TheVariants as mode
use Rattle.hp_control.specs.declared.element.OpenElement.{OpenElement}
use Rattle.hp_control.specs.declared.element.FormattingEntry.{FormattingEntry}
use Rattle.hp_control.specs.declared.element.FormattingEntry.TheVariants.{Marker, Element}
use Rattle.hp_control.specs.Acts.{add_marker, append_entry, append_to_list, clear, current_id, equal_ids, keep_original, point_form, pop_template_mode, push_template_mode, remove_earliest, replace_template_mode, replaced_first, reset, switch_to, to_original}
use Rattle.hp_control.specs.Outcome.{Act, nothing_done, touches_any}
use Rattle.hp_control.specs.States.{ControlState, AreIds, IsNew, IsSettled, entry_ids, is_settled}
use Rattle.hp_control.specs.Walks.{cleared}
use Rattle.hp_model.specs.Finding.{is_empty}
use Rattle.hp_model.proofs.Course.{Course, Along, OriginalIs, is_standing}
use Rattle.hp_model.proofs.Courses.{ready}
use Rattle.hp_model.proofs.Following.{removed_thins}
use Rattle.hp_model.proofs.Resetting.{reset-settled}
use Rattle.hp_model.proofs.Thins.{Thins, ids_of, thins_all}
use Rattle.hp_older.specs.GoesOn.{IsFree, comes, fits_mode, is_a, is_key, is_new, kept, own}
use Rattle.hp_older.proofs.Kept.{kept-no}
use Rattle.hp_older.proofs.Keys.{named_in}
use Rattle.hp_older.proofs.Levels.{core_names, fewer, key_names, own_of}
use Rattle.hp_older.proofs.Moves.{Did}
use Rattle.hp_older.proofs.Resets.{is_sorted, reset-fits}
use Rattle.hp_older.proofs.Steps.{is_at, kept_back}
use Rattle.hp_older.proofs.Track.{Balance, even, over, under, BackIs, BalanceIs, On, PlaceIs, Top, made, TopIs, Track, Where, at, fitted, lost, is_made, is_over, is_under, knows, strongly}
use Rattle.hp_older.proofs.Tracking.{on_strong}

pub free_map : (l m : List FormattingEntry) (o p : Option ℕ) → ((e : OpenElement) → IsFree l o e → IsFree m p e) → (es : List OpenElement) → All (IsFree l o) es → All (IsFree m p) es
free_map l m o p f [] h = All-nil (IsFree m p)
free_map l m o p f (e ∷ es) h = All-cons (IsFree m p) e es (f e (All-head (IsFree l o) e es h)) (free_map l m o p f es (All-tail (IsFree l o) e es h))

pub marker_did : (s : ControlState) (w : Track) (c : ControlState) → On w s c → Did s add_marker w c
marker_did s w c on = (
  refl,
  inr (record {
    html = on.html;
    balance = on.balance;
    free = free_map c.formatting (Marker ∷ c.formatting) c.form c.form (λ e x. record { unlisted = x.unlisted; no_form = x.no_form }) (own s (is_a "template td th") c.stack) on.free;
    top = on.top;
    there = on.there;
    cell = on.cell;
    select = on.select;
    bare = on.bare;
    still = on.still;
    back = on.back;
    place = on.place;
  }),
)

cleared_new : (id : ℕ) (l : List FormattingEntry) → IsNew id (entry_ids l) → IsNew id (entry_ids (cleared l))
cleared_new id [] h = h
cleared_new id (Marker ∷ l) h = h
cleared_new id (Element other tag ∷ l) h = cleared_new id l h.1

pub clear_did : (s : ControlState) (w : Track) (c : ControlState) → On w s c → Did s clear w c
clear_did s w c on = (
  refl,
  inr (record {
    html = on.html;
    balance = on.balance;
    free = free_map c.formatting (cleared c.formatting) c.form c.form (λ e x. record { unlisted = cleared_new e.id c.formatting x.unlisted; no_form = x.no_form }) (own s (is_a "template td th") c.stack) on.free;
    top = on.top;
    there = on.there;
    cell = on.cell;
    select = on.select;
    bare = on.bare;
    still = on.still;
    back = on.back;
    place = on.place;
  }),
)

-- the elements kept track of aren't the current node, where it is plain
apart_below : (p : OpenElement → Bool) (x : ℕ) (st : List OpenElement) → IsNew x (ids_of st) → All (λ (e : OpenElement). x ≡ e.id → ⊥) (kept p st)
apart_below p x [] h = All-nil (λ (e : OpenElement). x ≡ e.id → ⊥)
apart_below p x (e ∷ es) h = go (p e) (apart_below p x es h.1)
  where
    go : (b : Bool) → All (λ (y : OpenElement). x ≡ y.id → ⊥) (kept p es) → All (λ (y : OpenElement). x ≡ y.id → ⊥) (if b then e ∷ kept p es else kept p es)
    go true r = All-cons (λ (y : OpenElement). x ≡ y.id → ⊥) e (kept p es) h.0 r
    go false r = r

apart_top : (s : ControlState) (tp : Top) (next : ℕ) (st : List OpenElement) → is_made tp ≡ true → TopIs tp s st → AreIds 0 next (ids_of st) → All (λ (e : OpenElement). current_id st ≡ e.id → ⊥) (own s (is_a "template td th") st)
apart_top s made next [] h k a = absurd k
apart_top s made next (e ∷ es) h k a =
    let same : own_of s key_names (e ∷ es) ≡ own_of s key_names es = kept-no (λ x. is_new s x && named_in key_names x) e es (not-true (is_new s e && is_key e) k.1) in
    subst (λ l. All (λ (y : OpenElement). e.id ≡ y.id → ⊥) l) (sym (fewer s core_names key_names es (e ∷ es) refl same)) (apart_below (λ x. is_new s x && is_a "template td th" x) e.id es a.2)
apart_top s _ next st h k a = absurd (true≢false (sym h))

both : (P Q R : OpenElement → Type 0) → ((e : OpenElement) → P e → Q e → R e) → (es : List OpenElement) → All P es → All Q es → All R es
both P Q R f [] h k = All-nil R
both P Q R f (e ∷ es) h k = All-cons R e es (f e (All-head P e es h) (All-head Q e es k)) (both P Q R f es (All-tail P e es h) (All-tail Q e es k))

pub form_did : (s : ControlState) (w : Track) (v : Course) (n : ℕ) (c : ControlState) → Along v n c → On w s c → is_made w.top ≡ true → Did s point_form w c
form_did s w v n c g on h = (
  refl,
  inr (record {
    html = on.html;
    balance = on.balance;
    free = both (IsFree c.formatting c.form) (λ (e : OpenElement). current_id c.stack ≡ e.id → ⊥) (IsFree c.formatting (Some (current_id c.stack))) (λ e x y. record { unlisted = x.unlisted; no_form = y }) (own s (is_a "template td th") c.stack) on.free (apart_top s w.top c.next c.stack h on.top g.stack_ids);
    top = on.top;
    there = on.there;
    cell = on.cell;
    select = on.select;
    bare = on.bare;
    still = on.still;
    back = on.back;
    place = on.place;
  }),
)

-- an entry for the current node
earliest_stack : (ids : List ℕ) (c : ControlState) → (remove_earliest ids c).control.stack ≡ c.stack
earliest_stack [] c = refl
earliest_stack (id ∷ []) c = refl
earliest_stack (id ∷ other ∷ ids) c = earliest_stack (other ∷ ids) c

earliest_spared : (ids : List ℕ) (c : ControlState) → (remove_earliest ids c).spared ≡ false
earliest_spared [] c = refl
earliest_spared (id ∷ []) c = refl
earliest_spared (id ∷ other ∷ ids) c = earliest_spared (other ∷ ids) c

appended : (s : ControlState) (w : Track) (c : ControlState) (tag : Tag) → On w s c → All (λ (e : OpenElement). current_id c.stack ≡ e.id → ⊥) (own s (is_a "template td th") c.stack) → On w s (append_entry tag c).control
appended s w c tag on a = record {
  html = on.html;
  balance = on.balance;
  free = both (IsFree c.formatting c.form) (λ (e : OpenElement). current_id c.stack ≡ e.id → ⊥) (IsFree (Element (current_id c.stack) tag ∷ c.formatting) c.form) (λ e x y. record { unlisted = ((λ q. y (sym q)), x.unlisted); no_form = x.no_form }) (own s (is_a "template td th") c.stack) on.free a;
  top = on.top;
  there = on.there;
  cell = on.cell;
  select = on.select;
  bare = on.bare;
  still = on.still;
  back = on.back;
  place = on.place;
}

or_nothing : (b : Bool) → b ≡ false → (b || false) ≡ false
or_nothing true h = absurd (true≢false h)
or_nothing false h = refl

pub append_did : (s : ControlState) (tag : Tag) (w : Track) (v : Course) (n : ℕ) (c : ControlState) → Along v n c → On w s c → is_standing v.base ≡ true → is_made w.top ≡ true → Did s (append_to_list tag) (strongly w) c
append_did s tag w v n c g on r h = go (nat_le 3 (length (equal_ids tag c.formatting)))
  where
    apart : All (λ (e : OpenElement). current_id c.stack ≡ e.id → ⊥) (own s (is_a "template td th") c.stack)
    apart = apart_top s w.top c.next c.stack h on.top g.stack_ids

    by : (f : Act) → Thins c (f c).control → (f c).control.stack ≡ c.stack → (f c).spared ≡ false → ((f c).spared || false) ≡ false × On (strongly w) s (append_entry tag (f c).control).control
    by f t e q =
        (or_nothing (f c).spared q, appended s (strongly w) (f c).control tag (on_strong w s c (f c).control on g.stack_ids t (ap (own_of s key_names) e)) (subst (λ st. All (λ (x : OpenElement). current_id st ≡ x.id → ⊥) (own s (is_a "template td th") st)) (sym e) apart))

    go : (b : Bool) → (((if b then remove_earliest (equal_ids tag c.formatting) else nothing_done) c).spared || false) ≡ false
        × ((touches_any s (append_to_list tag c) ≡ true) ⊎ On (strongly w) s (append_entry tag ((if b then remove_earliest (equal_ids tag c.formatting) else nothing_done) c).control).control)
    go true = let x = by (remove_earliest (equal_ids tag c.formatting)) (removed_thins (equal_ids tag c.formatting) c (ready v n c r g)) (earliest_stack (equal_ids tag c.formatting) c) (earliest_spared (equal_ids tag c.formatting) c) in (x.0, inr x.1)
    go false = let x = by nothing_done (thins_all c (ready v n c r g)) refl refl in (x.0, inr x.1)

-- modes
pub reset_did : (s : ControlState) (w : Track) (v : Course) (n : ℕ) (c : ControlState) → is_sorted s c.stack ≡ true → Along v n c → On w s c → w.still ≡ true → Did s reset (record w { place = fitted }) c
reset_did s w v n c srt g on h = (
  refl,
  inr (record {
    html = on.html;
    balance = on.balance;
    free = on.free;
    top = on.top;
    there = on.there;
    cell = on.cell;
    select = on.select;
    bare = on.bare;
    still = on.still;
    back = on.back;
    place = (reset-settled c.templates (is_some c.head) c.stack g.template_modes, reset-fits s (is_some c.head) c.templates c.stack g.template_modes srt (on.still h));
  }),
)

-- the track tells that a mode fits
pub knows-fits : (m : Mode) (w : Track) (s c : ControlState) → On w s c → knows m w ≡ true → fits_mode s m c.stack ≡ true
knows-fits mode.InCell w s c on h = let parts = and_parts w.cell w.still h in and_from (comes (is_a "td th") (own s (is_a "template td th") c.stack)) (is_empty (own s (is_a "frameset") c.stack)) (on.cell parts.0) (ap is_empty (on.still parts.1))
knows-fits mode.InSelect w s c on h = let parts = and_parts w.select w.still h in and_from (comes (is_a "select") (own s (is_a "template select") c.stack)) (is_empty (own s (is_a "frameset") c.stack)) (on.select parts.0) (ap is_empty (on.still parts.1))
knows-fits mode.InSelectInTable w s c on h = let parts = and_parts w.select w.still h in and_from (comes (is_a "select") (own s (is_a "template select") c.stack)) (is_empty (own s (is_a "frameset") c.stack)) (on.select parts.0) (ap is_empty (on.still parts.1))
knows-fits mode.InFrameset w s c on h = ap is_empty (on.bare h)
knows-fits mode.AfterFrameset w s c on h = ap is_empty (on.bare h)
knows-fits mode.AfterAfterFrameset w s c on h = ap is_empty (on.bare h)
knows-fits _ w s c on h = ap is_empty (on.still h)

pub keep_did : (s : ControlState) (w : Track) (c : ControlState) → On w s c → is_at w.place ≡ true → Did s keep_original (kept_back w.place w) c
keep_did s w c on h = go w.place h on.place
  where
    back : (m : Mode) (b : Bool) → knows m w ≡ b → BackIs b s (Some m) c.stack
    back m true e = knows-fits m w s c on e
    back m false e = tt

    go : (p : Where) → is_at p ≡ true → PlaceIs p s c.mode c.stack → Did s keep_original (kept_back p w) c
    go (at m) k e = (refl, inr (record { html = on.html; balance = on.balance; free = on.free; top = on.top; there = on.there; cell = on.cell; select = on.select; bare = on.bare; still = on.still; back = subst (λ x. BackIs (knows m w) s (Some x) c.stack) (sym e) (back m (knows m w) refl); place = on.place }))
    go fitted k e = absurd (true≢false (sym k))
    go lost k e = absurd (true≢false (sym k))

pub original_did : (s : ControlState) (w : Track) (v : Course) (n : ℕ) (c : ControlState) → Along v n c → On w s c → v.has_original ≡ true → w.back ≡ true → Did s to_original (record w { place = fitted; back = false }) c
original_did s w v n c g on h k = (refl, inr (record { html = on.html; balance = on.balance; free = on.free; top = on.top; there = on.there; cell = on.cell; select = on.select; bare = on.bare; still = on.still; back = tt; place = go c.original (settled v.has_original h g.original) (backed w.back k on.back) }))
  where
    settled : (b : Bool) → b ≡ true → OriginalIs b c.original → IsSettled c.original
    settled true e x = x
    settled false e x = absurd (true≢false (sym e))

    backed : (b : Bool) → b ≡ true → BackIs b s c.original c.stack → BackIs true s c.original c.stack
    backed true e x = x
    backed false e x = absurd (true≢false (sym e))

    go : (o : Option Mode) → IsSettled o → BackIs true s o c.stack → (is_settled (unwrap_or o c.mode) ≡ true) × (fits_mode s (unwrap_or o c.mode) c.stack ≡ true)
    go None a b = absurd b
    go (Some m) a b = (a, b)

pub switch_did : (s : ControlState) (m : Mode) (w : Track) (c : ControlState) → On w s c → Did s (switch_to m) (record w { place = at m }) c
switch_did s m w c on = (refl, inr (record { html = on.html; balance = on.balance; free = on.free; top = on.top; there = on.there; cell = on.cell; select = on.select; bare = on.bare; still = on.still; back = on.back; place = refl }))

-- template modes
pub push_did : (s : ControlState) (m : Mode) (w : Track) (c : ControlState) → On w s c → is_over w.balance ≡ true → Did s (push_template_mode m) (record w { balance = even }) c
push_did s m w c on h = (refl, inr (record { html = on.html; balance = go w.balance h on.balance; free = on.free; top = on.top; there = on.there; cell = on.cell; select = on.select; bare = on.bare; still = on.still; back = on.back; place = on.place }))
  where
    go : (b : Balance) → is_over b ≡ true → BalanceIs b (length (own s (is_a "template") c.stack)) (length c.templates) (length s.templates) → length (m ∷ c.templates) ≡ length s.templates + length (own s (is_a "template") c.stack)
    go over k x = omega arith
    go even k x = absurd (true≢false (sym k))
    go under k x = absurd (true≢false (sym k))

replaced_length : (m : Mode) (ms : List Mode) → length (replaced_first m ms) ≡ length ms
replaced_length m [] = refl
replaced_length m (x ∷ xs) = refl

pub replace_did : (s : ControlState) (m : Mode) (w : Track) (c : ControlState) → On w s c → Did s (replace_template_mode m) w c
replace_did s m w c on = (refl, inr (record { html = on.html; balance = subst (λ k. BalanceIs w.balance (length (own s (is_a "template") c.stack)) k (length s.templates)) (sym (replaced_length m c.templates)) on.balance; free = on.free; top = on.top; there = on.there; cell = on.cell; select = on.select; bare = on.bare; still = on.still; back = on.back; place = on.place }))

dropped_length : (ms : List Mode) (k : ℕ) → length ms ≡ k + 1 → length (drop 1 ms) ≡ k
dropped_length [] k h = absurd (omega arith)
dropped_length (m ∷ ms) k h = omega arith

pub pop_mode_did : (s : ControlState) (w : Track) (c : ControlState) → 0 < s.next → On w s c → is_under w.balance ≡ true → Did s pop_template_mode (record w { balance = even }) c
pop_mode_did s w c first on h = go w.balance h on.balance
  where
    go : (b : Balance) → is_under b ≡ true → BalanceIs b (length (own s (is_a "template") c.stack)) (length c.templates) (length s.templates) → Did s pop_template_mode (record w { balance = even }) c
    go under k (inl x) = (refl, inr (record { html = on.html; balance = dropped_length c.templates (length s.templates + length (own s (is_a "template") c.stack)) x; free = on.free; top = on.top; there = on.there; cell = on.cell; select = on.select; bare = on.bare; still = on.still; back = on.back; place = on.place }))
    go under k (inr x) = (refl, inl (ap (λ b. b || false) (and_from (nat_lt 0 s.next) (nat_le (length c.templates) (length s.templates)) (lt-ltb 0 s.next first) (le-leb (length c.templates) (length s.templates) (let z : length c.templates ≡ length s.templates = x.1 in omega arith)))))
    go even k x = absurd (true≢false (sym k))
    go over k x = absurd (true≢false (sym k))
