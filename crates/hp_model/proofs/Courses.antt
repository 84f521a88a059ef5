-- What each change of a state does to its course.
use Rattle.std.proofs.Common.{◌≡◌, ℕ, zero, suc, ◌+◌, ◌-◌, ◌≤◌, ◌<◌, ◌==◌, List, [], ◌∷◌, ◌++◌, take, drop, length, min, Bool, true, false, ◌||◌, ◌&&◌, not, refl, sym, ap, ◌∙◌, subst, arith, inl, inr, Option, None, Some}
use Rattle.std.specs.Prelude.{if◌then◌else◌, All, IfSome}
use Rattle.std.specs.List.{list_any}
use Rattle.std.specs.Option.{is_some, option_map}
use Rattle.std.specs.Str.{bytes_eq}
use Rattle.std.proofs.lemmas.Bool.{and_parts, and_from, true≢false, eqb-true}
use Rattle.std.proofs.lemmas.Slice.Eq.{bytes_eq-Decides}
use Rattle.std.proofs.lemmas.List.Elements.{All-cons, All-tail}
use Rattle.hp_elements.specs.Kinds.{is_html as is_html_space}
use Rattle.hp_elements.specs.Names.{is_among, text_of}
use Rattle.hp_elements.specs.Sets.{members}
use Rattle.hp_elements.specs.declared.kinds.Kinds.TheVariants as kinds
use Rattle.hp_elements.specs.KnownNames as known
use Rattle.hp_elements.specs.declared.sets.SetName.TheVariants as sets
use Rattle.hp_elements.specs.declared.tag.Tag.{Tag}
use Rattle.hp_elements.specs.declared.token.Mode.{Mode}
use Rattle.hp_elements.proofs.FindLemmas.{equal_bytes}
use Rattle.hp_control.specs.declared.element.OpenElement.{OpenElement}
use Rattle.hp_control.specs.declared.element.FormattingEntry.{FormattingEntry}
use Rattle.hp_control.specs.declared.element.FormattingEntry.TheVariants.{Marker, Element}
use Rattle.hp_control.specs.Acts.{current_id, element_for, head_element, popped_by, replaced_first, take_off, taken_off, through_named, with_it, without}
use Rattle.hp_control.specs.KindTests.{within as is_within}
use Rattle.hp_control.specs.States.{ControlState, AreIds, IsId, IsNew, IsFormatting, LexFits, entry_ids, is_html, is_named, is_rooted, is_tall, is_template, is_template_mode}
use Rattle.hp_control.specs.Walks.{open_at, reach, seen, run_of, cleared as cleared_list}
use Rattle.hp_model.proofs.Tally.{tally, tally-yes, tally-no, tally-tail, tally-most}
use Rattle.hp_model.proofs.Ids.{eqb-same}
use Rattle.hp_model.proofs.Stacks.{counted, is_counted, refused, rooted-cons, rooted-without, deeper}
use Rattle.hp_model.proofs.Thins.{Ready, Thins, ready_after, next-more, id_later, entry_is, ids_of}
use Rattle.hp_model.proofs.Thinning.{not_root}
use Rattle.hp_model.proofs.Course as course
use Rattle.hp_model.proofs.Course.{Course, Along, Base, bare, rooted, tall, alien, Count, fell, kept, unknown, Where, at, anywhere, left, Room, lacking, enough, spare, BaseIs, CountIs, PlaceIs, RoomIs, ThereIs, OriginalIs, PendingIs, IsMade, IsOther, MadeIs, is_standing, is_bare, is_above, less, loose, less_room, more_room, has_room, has_spare, thinner, higher, through_course, fallen, without_select, is_there, keep_template, is_select, is_a_template}

pub standing-rooted : (b : Base) (st : List OpenElement) (next : ℕ) → is_standing b ≡ true → BaseIs b st next → is_rooted st ≡ true
standing-rooted bare st next h k = absurd (true≢false (sym h))
standing-rooted rooted st next h k = k
standing-rooted tall st next h k = k.0
standing-rooted alien st next h k = k.0

pub bare-empty : (b : Base) (st : List OpenElement) (next : ℕ) → is_bare b ≡ true → BaseIs b st next → (st ≡ []) × (next ≡ 1)
bare-empty bare st next h k = k
bare-empty _ st next h k = absurd (true≢false (sym h))

pub ready : (v : Course) (n : ℕ) (s : ControlState) → is_standing v.base ≡ true → Along v n s → Ready s
ready v n s h g = record {
  rooted = standing-rooted v.base s.stack s.next h g.base;
  stack_ids = g.stack_ids;
  list_ids = g.list_ids;
  head = g.head;
  form = g.form;
  formatting = g.formatting;
}

pub count-less : (c : Count) (n : ℕ) (old new : List OpenElement) → tally is_counted new ≤ tally is_counted old → CountIs c n old → CountIs (less c) n new
count-less fell n old new h k = omega arith
count-less kept n old new h k = omega arith
count-less course.cleared n old new h k = let j : tally is_counted old ≤ n = k.0 in omega arith
count-less unknown n old new h k = tt

pub count-fallen : (c : Count) (n : ℕ) (old new : List OpenElement) → tally is_counted new < tally is_counted old → CountIs c n old → CountIs (fallen c) n new
count-fallen fell n old new h k = omega arith
count-fallen kept n old new h k = omega arith
count-fallen course.cleared n old new h k = let j : tally is_counted old ≤ n = k.0 in omega arith
count-fallen unknown n old new h k = tt

pub place-loose : (w : Where) (n : ℕ) (old new : List OpenElement) (m : Mode) → PlaceIs w n old m → PlaceIs (loose w) n new m
place-loose (at m) n old new present h = h
place-loose anywhere n old new m h = h
place-loose left n old new m h = h.0

pub room-less : (r : Room) (before now modes : ℕ) → now ≤ before → RoomIs r before modes → RoomIs r now modes
room-less lacking before now modes h k = omega arith
room-less enough before now modes h k = omega arith
room-less spare before now modes h k = omega arith

room-pushed : (r : Room) (before now modes : ℕ) → has_room r ≡ true → now ≤ before + 1 → RoomIs r before modes → RoomIs (less_room r) now modes
room-pushed lacking before now modes f h k = absurd (true≢false (sym f))
room-pushed enough before now modes f h k = omega arith
room-pushed spare before now modes f h k = omega arith

room-popped : (r : Room) (before now modes : ℕ) → now < before → RoomIs r before modes → RoomIs (more_room r) now modes
room-popped lacking before now modes h k = omega arith
room-popped enough before now modes h k = omega arith
room-popped spare before now modes h k = omega arith

pub room-more : (r : Room) (templates modes more : ℕ) → modes < more → RoomIs r templates modes → RoomIs (more_room r) templates more
room-more lacking templates modes more h k = omega arith
room-more enough templates modes more h k = omega arith
room-more spare templates modes more h k = omega arith

-- a thinning act
pub thin : (v : Course) (n : ℕ) (s d : ControlState) → is_standing v.base ≡ true → Along v n s → Thins s d → Along (thinner v) n d
thin v n s d h g t =
    let r = ready_after s d (ready v n s h g) t in
    record {
      base = r.rooted;
      count = count-less v.count n s.stack d.stack t.stack.counted g.count;
      place = subst (λ m. PlaceIs (loose v.place) n d.stack m) (sym t.alike.mode) (place-loose v.place n s.stack d.stack s.mode g.place);
      original = subst (λ o. OriginalIs v.has_original o) (sym t.alike.original) g.original;
      pending = subst (λ p. PendingIs v.has_pending p) (sym t.alike.pending) g.pending;
      room = subst (λ ms. RoomIs v.room (tally is_template d.stack) (length ms)) (sym t.alike.templates) (room-less v.room (tally is_template s.stack) (tally is_template d.stack) (length s.templates) t.stack.templates g.room);
      there = tt;
      made = tt;
      template_modes = subst (λ ms. All (λ m. is_template_mode m ≡ true) ms) (sym t.alike.templates) g.template_modes;
      formatting = r.formatting;
      stack_ids = r.stack_ids;
      list_ids = r.list_ids;
      head = r.head;
      form = r.form;
      lex = subst (λ l. LexFits l) (sym t.alike.lex) g.lex;
    }

-- an element came
pub counted_count : (is_counted_name : Bool) (c : Count) (n : ℕ) (e : OpenElement) (st : List OpenElement) → (is_counted_name ≡ false → is_counted e ≡ false) → CountIs c n st → CountIs (if is_counted_name then unknown else less c) n (e ∷ st)
counted_count true c n e st h k = tt
counted_count false c n e st h k =
    let f : tally is_counted (e ∷ st) ≡ tally is_counted st = tally-no is_counted e st (h refl) in
    count-less c n st (e ∷ st) (omega arith) k

pub template_room : (is_template_name : Bool) (r : Room) (e : OpenElement) (st : List OpenElement) (modes : ℕ) → is_template e ≡ is_template_name → (not is_template_name || has_room r) ≡ true → RoomIs r (tally is_template st) modes → RoomIs (if is_template_name then less_room r else r) (tally is_template (e ∷ st)) modes
template_room true r e st modes h f k = room-pushed r (tally is_template st) (tally is_template (e ∷ st)) modes f (tally-most is_template e st) k
template_room false r e st modes h f k =
    let same : tally is_template (e ∷ st) ≡ tally is_template st = tally-no is_template e st h in
    room-less r (tally is_template st) (tally is_template (e ∷ st)) modes (omega arith) k

pub tall-cons : (e : OpenElement) (st : List OpenElement) → is_html e ≡ true → is_rooted st ≡ true → is_tall (e ∷ st) ≡ true
tall-cons e [] h r = absurd (true≢false (sym r))
tall-cons e (f ∷ fs) h r = h

pub later_ids : (low n m : ℕ) (xs : List ℕ) → n ≤ m → AreIds low n xs → AreIds low m xs
later_ids low n m [] h a = tt
later_ids low n m (x ∷ xs) h a = let e : x < n = a.1 in (a.0, omega arith, a.2, later_ids low n m xs h a.3)

pub new-above : (low next : ℕ) (xs : List ℕ) → AreIds low next xs → IsNew next xs
new-above low next [] a = tt
new-above low next (x ∷ xs) a = ((λ e. let h : x < next = a.1 in let same : next ≡ x = e in absurd (omega arith)), new-above low next xs a.3)

pub head_other : (hd : Option ℕ) (next : ℕ) → IfSome hd (IsId next) → IsOther hd next
head_other None next h = tt
head_other (Some id) next h = λ e. let f : id < next = h.1 in let same : id ≡ next = e in absurd (omega arith)

-- the element that is made next
pub next_ids : (low next id : ℕ) (xs : List ℕ) → low < next → id ≡ next → AreIds low next xs → AreIds low (next + 1) (id ∷ xs)
next_ids low next id xs l s a = (omega arith, omega arith, subst (λ i. IsNew i xs) (sym s) (new-above low next xs a), later_ids low next (next + 1) xs (omega arith) a)

pub push : (is_counted_name is_template_name : Bool) (tag : Tag) (v : Course) (n : ℕ) (s : ControlState) → Along v n s → is_standing v.base ≡ true → is_html_space tag.namespace ≡ true
    → (is_counted_name ≡ false → is_counted (element_for s.next tag) ≡ false) → is_template (element_for s.next tag) ≡ is_template_name → (not is_template_name || has_room v.room) ≡ true
    → Along (higher is_counted_name is_template_name v) n (record s { stack = element_for s.next tag ∷ s.stack; next = s.next + 1 })
push b t tag v n s g h html hc ht f =
    let r = standing-rooted v.base s.stack s.next h g.base in
    let more : 1 < s.next = next-more s.next s.stack r g.stack_ids in
    record {
      base = (rooted-cons (element_for s.next tag) s.stack r, tall-cons (element_for s.next tag) s.stack html r);
      count = counted_count b v.count n (element_for s.next tag) s.stack hc g.count;
      place = place-loose v.place n s.stack (element_for s.next tag ∷ s.stack) s.mode g.place;
      original = g.original;
      pending = g.pending;
      room = template_room t v.room (element_for s.next tag) s.stack (length s.templates) ht f g.room;
      there = tt;
      made = record { above = more; below = omega arith; unlisted = new-above 1 s.next (entry_ids s.formatting) g.list_ids; not_head = head_other s.head s.next g.head };
      template_modes = g.template_modes;
      formatting = g.formatting;
      stack_ids = next_ids 0 s.next s.next (ids_of s.stack) (omega arith) refl g.stack_ids;
      list_ids = later_ids 1 s.next (s.next + 1) (entry_ids s.formatting) (omega arith) g.list_ids;
      head = id_later s.next (s.next + 1) s.head (omega arith) g.head;
      form = id_later s.next (s.next + 1) s.form (omega arith) g.form;
      lex = g.lex;
    }

-- the root
root_now : (next : ℕ) (tag : Tag) (st : List OpenElement) → next ≡ 1 → st ≡ [] → is_named known.Html (element_for next tag) ≡ true → is_rooted (element_for next tag ∷ st) ≡ true
root_now next tag st e f h = subst (λ xs. is_rooted (element_for next tag ∷ xs) ≡ true) (sym f) (and_from (is_named known.Html (element_for next tag)) (next == 1) h (subst (λ i. (i == 1) ≡ true) (sym e) refl))

pub push_html : (tag : Tag) (v : Course) (n : ℕ) (s : ControlState) → Along v n s → is_bare v.base ≡ true → ((id : ℕ) → is_named known.Html (element_for id tag) ≡ true) → ((id : ℕ) → is_counted (element_for id tag) ≡ false) → ((id : ℕ) → is_template (element_for id tag) ≡ false)
    → Along (record (higher false false v) { base = rooted; made = false }) n (record s { stack = element_for s.next tag ∷ s.stack; next = s.next + 1 })
push_html tag v n s g h named uncounted plain =
    let b = bare-empty v.base s.stack s.next h g.base in
    let one_next : s.next ≡ 1 = b.1 in
    record {
      base = root_now s.next tag s.stack b.1 b.0 (named s.next);
      count = counted_count false v.count n (element_for s.next tag) s.stack (λ e. uncounted s.next) g.count;
      place = place-loose v.place n s.stack (element_for s.next tag ∷ s.stack) s.mode g.place;
      original = g.original;
      pending = g.pending;
      room = template_room false v.room (element_for s.next tag) s.stack (length s.templates) (plain s.next) refl g.room;
      there = tt;
      made = tt;
      template_modes = g.template_modes;
      formatting = g.formatting;
      stack_ids = next_ids 0 s.next s.next (ids_of s.stack) (omega arith) refl g.stack_ids;
      list_ids = later_ids 1 s.next (s.next + 1) (entry_ids s.formatting) (omega arith) g.list_ids;
      head = id_later s.next (s.next + 1) s.head (omega arith) g.head;
      form = id_later s.next (s.next + 1) s.form (omega arith) g.form;
      lex = g.lex;
    }

-- an element that isn't open has a new id
pub open-none : (id : ℕ) (es : List OpenElement) → open_at id es ≡ None → IsNew id (ids_of es)
open-none id [] h = tt
open-none id (e ∷ es) h = go (e.id == id) refl h (open-none id es)
  where
    none_mapped : (o : Option ℕ) → option_map suc o ≡ None → o ≡ None
    none_mapped None k = refl
    none_mapped (Some j) k = absurd (cc)

    apart : (a b : ℕ) → (a == b) ≡ false → b ≡ a → ⊥
    apart a b f k = true≢false (sym (eqb-same b) ∙ (ap (λ z. z == b) k ∙ f))

    go : (b : Bool) → (e.id == id) ≡ b → (if b then Some 0 else option_map suc (open_at id es)) ≡ None → (open_at id es ≡ None → IsNew id (ids_of es)) → IsNew id (ids_of (e ∷ es))
    go true f k later = absurd (cc)
    go false f k later = (apart e.id id f, later (none_mapped (open_at id es) k))

pub push_head_along : (v : Course) (n : ℕ) (s : ControlState) (id : ℕ) → Along v n s → is_standing v.base ≡ true → IsId s.next id → open_at id s.stack ≡ None → Along (thinner v) n (record s { stack = head_element id ∷ s.stack })
push_head_along v n s id g h i k =
    let above_one : 1 < id = i.0 in
    record {
      base = rooted-cons (head_element id) s.stack (standing-rooted v.base s.stack s.next h g.base);
      count = counted_count false v.count n (head_element id) s.stack (λ e. refl) g.count;
      place = place-loose v.place n s.stack (head_element id ∷ s.stack) s.mode g.place;
      original = g.original;
      pending = g.pending;
      room = template_room false v.room (head_element id) s.stack (length s.templates) refl refl g.room;
      there = tt;
      made = tt;
      template_modes = g.template_modes;
      formatting = g.formatting;
      stack_ids = (omega arith, i.1, open-none id s.stack k, g.stack_ids);
      list_ids = g.list_ids;
      head = g.head;
      form = g.form;
      lex = g.lex;
    }

pub bytes_eq-same : (text : List ℕ) → bytes_eq text text ≡ true
bytes_eq-same text = (bytes_eq-Decides text text).1 refl

pub bytes_eq-swap : (a b : List ℕ) → bytes_eq a b ≡ bytes_eq b a
bytes_eq-swap a b = go (bytes_eq a b) (bytes_eq b a) refl refl
  where
    go : (x y : Bool) → bytes_eq a b ≡ x → bytes_eq b a ≡ y → x ≡ y
    go true true e f = refl
    go true false e f = absurd (true≢false (sym (subst (λ t. bytes_eq t a ≡ true) (equal_bytes true a b (sym e) refl) (bytes_eq-same a)) ∙ f))
    go false true e f = absurd (true≢false (sym (subst (λ t. bytes_eq t b ≡ true) (equal_bytes true b a (sym f) refl) (bytes_eq-same b)) ∙ e))
    go false false e f = refl

-- an HTML element of that name
abbrev pub named : List ℕ → OpenElement → Bool
named name e = is_html e && bytes_eq e.name name

is_some_mapped : (o : Option ℕ) → is_some (option_map suc o) ≡ is_some o
is_some_mapped None = refl
is_some_mapped (Some k) = refl

-- what is seen is what stands somewhere
pub seen-any : (name : List ℕ) (es : List OpenElement) → seen (kinds.Html name) kinds.Nothing es ≡ list_any (named name) es
seen-any name [] = refl
seen-any name (e ∷ es) = go (is_html e) (bytes_eq name e.name) (bytes_eq e.name name) (bytes_eq-swap name e.name) (is_some_mapped (reach (kinds.Html name) kinds.Nothing es) ∙ seen-any name es)
  where
    go : (a b d : Bool) → b ≡ d → is_some (option_map suc (reach (kinds.Html name) kinds.Nothing es)) ≡ list_any (named name) es → is_some (if a && b then Some 0 else option_map suc (reach (kinds.Html name) kinds.Nothing es)) ≡ ((a && d) || list_any (named name) es)
    go true true true s rest = refl
    go true false false s rest = rest
    go true true false s rest = absurd (true≢false s)
    go true false true s rest = absurd (true≢false (sym s))
    go false b d s rest = rest

-- through an element that is there and isn't the root
module _ (name : List ℕ) (other : bytes_eq (text_of known.Html) name ≡ false) (q : OpenElement → Bool) (counts : (e : OpenElement) → is_within (kinds.Html name) e ≡ true → q e ≡ true) where
  root_other : (e : OpenElement) → is_rooted (e ∷ []) ≡ true → is_within (kinds.Html name) e ≡ true → ⊥
  root_other e r h =
      let a = and_parts (is_html e) (bytes_eq e.name (text_of known.Html)) (and_parts (is_named known.Html e) (e.id == 1) r).0 in
      let b = and_parts (is_html e) (bytes_eq name e.name) h in
      let same : e.name ≡ text_of known.Html = equal_bytes true e.name (text_of known.Html) (sym a.1) refl in
      true≢false (sym (subst (λ t. bytes_eq name t ≡ true) same b.1) ∙ (bytes_eq-swap name (text_of known.Html) ∙ other))

  none_some : (k : ℕ) → None ≡ Some k → ⊥
  none_some k h = cc

  zero_found : (a b : ℕ) → Some a ≡ Some b → b ≡ a
  zero_found a b h = cc

  reach-falls : (es : List OpenElement) (k : ℕ) → reach (kinds.Html name) kinds.Nothing es ≡ Some k → is_rooted es ≡ true → (k + 1 < length es) × (tally q (drop (k + 1) es) < tally q es)
  reach-falls [] k h r = absurd (none_some k h)
  reach-falls (e ∷ []) k h r = go (is_within (kinds.Html name) e) refl h
    where
      go : (b : Bool) → is_within (kinds.Html name) e ≡ b → (if b then Some 0 else option_map suc (reach (kinds.Html name) kinds.Nothing [])) ≡ Some k → (k + 1 < length (e ∷ [])) × (tally q (drop (k + 1) (e ∷ [])) < tally q (e ∷ []))
      go true f g = absurd (root_other e r f)
      go false f g = absurd (none_some k g)
  reach-falls (e ∷ f ∷ es) k h r = go (is_within (kinds.Html name) e) refl h (λ j there. reach-falls (f ∷ es) j there r)
    where
      go : (b : Bool) → is_within (kinds.Html name) e ≡ b → (if b then Some 0 else option_map suc (reach (kinds.Html name) kinds.Nothing (f ∷ es))) ≡ Some k
          → ((j : ℕ) → reach (kinds.Html name) kinds.Nothing (f ∷ es) ≡ Some j → (j + 1 < length (f ∷ es)) × (tally q (drop (j + 1) (f ∷ es)) < tally q (f ∷ es)))
          → (k + 1 < length (e ∷ f ∷ es)) × (tally q (drop (k + 1) (e ∷ f ∷ es)) < tally q (e ∷ f ∷ es))
      go true d g later =
          let t : tally q (e ∷ f ∷ es) ≡ tally q (f ∷ es) + 1 = tally-yes q e (f ∷ es) (counts e d) in
          subst (λ j. (j + 1 < length (e ∷ f ∷ es)) × (tally q (drop (j + 1) (e ∷ f ∷ es)) < tally q (e ∷ f ∷ es))) (sym (zero_found 0 k g)) (omega arith, omega arith)
      go false d g later =
          let (j, there) = deeper (reach (kinds.Html name) kinds.Nothing (f ∷ es)) k g in
          let rest = later j there.0 in
          let short : j + 1 < length (f ∷ es) = rest.0 in
          let few : tally q (drop (j + 1) (f ∷ es)) < tally q (f ∷ es) = rest.1 in
          let t : tally q (f ∷ es) ≤ tally q (e ∷ f ∷ es) = tally-tail q e (f ∷ es) in
          let at_k : suc (j + 1) ≡ k + 1 = omega (arith, there.1) in
          let fewer : tally q (drop (suc (j + 1)) (e ∷ f ∷ es)) < tally q (e ∷ f ∷ es) = omega arith in
          (omega (arith, there.1), subst (λ i. tally q (drop i (e ∷ f ∷ es)) < tally q (e ∷ f ∷ es)) at_k fewer)

  pub through-falls : (s : ControlState) → is_rooted s.stack ≡ true → seen (kinds.Html name) kinds.Nothing s.stack ≡ true → tally q (through_named name s).control.stack < tally q s.stack
  through-falls s r h = rw h (go (reach (kinds.Html name) kinds.Nothing s.stack) refl h)
    where
      go : (o : Option ℕ) → reach (kinds.Html name) kinds.Nothing s.stack ≡ o → is_some o ≡ true → tally q (popped_by (with_it o) s.stack) < tally q s.stack
      go None e k = absurd (true≢false (sym k))
      go (Some j) e k =
          let found = reach-falls s.stack j e r in
          let short : j + 1 < length s.stack = found.0 in
          let whole : min (j + 1) (length s.stack - 1) ≡ j + 1 = omega arith in
          subst (λ i. tally q (drop i s.stack) < tally q s.stack) (sym whole) found.1

pub named-among : (texts : List (List ℕ)) (name : List ℕ) (e : OpenElement) → is_among texts name ≡ true → is_within (kinds.Html name) e ≡ true → (is_html e && is_among texts e.name) ≡ true
named-among texts name e h k =
    let parts = and_parts (is_html e) (bytes_eq name e.name) k in
    and_from (is_html e) (is_among texts e.name) parts.0 (subst (λ t. is_among texts t ≡ true) (equal_bytes true name e.name (sym parts.1) refl) h)

pub named-template : (name : List ℕ) (e : OpenElement) → is_a_template name ≡ true → is_within (kinds.Html name) e ≡ true → is_template e ≡ true
named-template name e h k =
    let parts = and_parts (is_html e) (bytes_eq name e.name) k in
    and_from (is_html e) (bytes_eq e.name (text_of known.Template)) parts.0 (subst (λ t. bytes_eq t (text_of known.Template) ≡ true) (equal_bytes true name e.name (sym parts.1) refl) h)

there-seen : (there : Option (List ℕ)) (name : List ℕ) (st : List OpenElement) → is_there there name ≡ true → ThereIs there st → seen (kinds.Html name) kinds.Nothing st ≡ true
there-seen None name st h k = absurd (true≢false (sym h))
there-seen (Some x) name st h k = subst (λ t. seen (kinds.Html t) kinds.Nothing st ≡ true) (equal_bytes true x name (sym h) refl) k

-- through an element of a name other than html
module _ (name : List ℕ) (other : bytes_eq (text_of known.Html) name ≡ false) (v : Course) (n : ℕ) (s : ControlState) (stands : is_standing v.base ≡ true) (g : Along v n s) (t : Thins s (through_named name s).control) where
  root : is_rooted s.stack ≡ true
  root = standing-rooted v.base s.stack s.next stands g.base

  fewer_counted : is_among counted name ≡ true → seen (kinds.Html name) kinds.Nothing s.stack ≡ true → tally is_counted (through_named name s).control.stack < tally is_counted s.stack
  fewer_counted a h = through-falls name other is_counted (λ e. named-among counted name e a) s root h

  through_count : (hit is_select_name : Bool) → (hit ≡ true → (is_there v.there name && is_among counted name) ≡ true) → (is_select_name ≡ true → text_of known.Select ≡ name)
      → CountIs (if hit then fallen v.count else if is_select_name then without_select v.count else less v.count) n (through_named name s).control.stack
  through_count true b h k =
      let parts = and_parts (is_there v.there name) (is_among counted name) (h refl) in
      count-fallen v.count n s.stack (through_named name s).control.stack (fewer_counted parts.1 (there-seen v.there name s.stack parts.0 g.there)) g.count
  through_count false false h k = count-less v.count n s.stack (through_named name s).control.stack t.stack.counted g.count
  through_count false true h k = go v.count g.count
    where
      unseen : list_any (named name) s.stack ≡ false → list_any is_select s.stack ≡ false
      unseen e = subst (λ x. list_any (named x) s.stack ≡ false) (sym (k refl)) e

      fell_or_none : (b : Bool) → seen (kinds.Html name) kinds.Nothing s.stack ≡ b → tally is_counted s.stack ≤ n → CountIs course.cleared n (through_named name s).control.stack
      fell_or_none true e m =
          let f : tally is_counted (through_named name s).control.stack < tally is_counted s.stack = fewer_counted (subst (λ x. is_among counted x ≡ true) (k refl) refl) e in
          (omega arith, inl (omega arith))
      fell_or_none false e m = rw e (m, inr (unseen (sym (seen-any name s.stack) ∙ e)))

      go : (c : Count) → CountIs c n s.stack → CountIs (without_select c) n (through_named name s).control.stack
      go fell m = count-less fell n s.stack (through_named name s).control.stack t.stack.counted m
      go kept m = fell_or_none (seen (kinds.Html name) kinds.Nothing s.stack) refl m
      go course.cleared m = count-less course.cleared n s.stack (through_named name s).control.stack t.stack.counted m
      go unknown m = tt

  through_room : (hit : Bool) → (hit ≡ true → (is_there v.there name && is_a_template name) ≡ true) → RoomIs (if hit then more_room v.room else v.room) (tally is_template (through_named name s).control.stack) (length s.templates)
  through_room true h =
      let parts = and_parts (is_there v.there name) (is_a_template name) (h refl) in
      room-popped v.room (tally is_template s.stack) (tally is_template (through_named name s).control.stack) (length s.templates)
      (through-falls name other is_template (λ e. named-template name e parts.1) s root (there-seen v.there name s.stack parts.0 g.there)) g.room
  through_room false h = room-less v.room (tally is_template s.stack) (tally is_template (through_named name s).control.stack) (length s.templates) t.stack.templates g.room

  pub through_along : Along (through_course name v) n (through_named name s).control
  through_along =
      let w = thin v n s (through_named name s).control stands g t in
      record {
        base = w.base;
        count = through_count (is_there v.there name && is_among counted name) (bytes_eq (text_of known.Select) name) (λ e. e) (λ e. equal_bytes true (text_of known.Select) name (sym e) refl);
        place = w.place;
        original = w.original;
        pending = w.pending;
        room = subst (λ ms. RoomIs (if is_there v.there name && is_a_template name then more_room v.room else v.room) (tally is_template (through_named name s).control.stack) (length ms)) (sym t.alike.templates) (through_room (is_there v.there name && is_a_template name) (λ e. e));
        there = tt;
        made = tt;
        template_modes = w.template_modes;
        formatting = w.formatting;
        stack_ids = w.stack_ids;
        list_ids = w.list_ids;
        head = w.head;
        form = w.form;
        lex = w.lex;
      }

-- templates stay where elements of thoroughly implied end tags are popped
thorough-apart : (e : OpenElement) → is_within (kinds.Set sets.ThoroughlyImplied) e ≡ true → is_within (kinds.Html (text_of known.Template)) e ≡ false
thorough-apart e h = second (is_html e) (bytes_eq (text_of known.Template) e.name) (refused (λ name. bytes_eq (text_of known.Template) name) (members sets.ThoroughlyImplied) e.namespace e.name refl h)
  where
    second : (a b : Bool) → b ≡ false → (a && b) ≡ false
    second true b k = k
    second false b k = refl

seen-run : (k : ℕ) (es : List OpenElement) → k ≤ run_of (kinds.Set sets.ThoroughlyImplied) es → seen (kinds.Html (text_of known.Template)) kinds.Nothing es ≡ true → seen (kinds.Html (text_of known.Template)) kinds.Nothing (drop k es) ≡ true
seen-run zero es h s = s
seen-run (suc k) [] h s = absurd (omega arith)
seen-run (suc k) (e ∷ es) h s = go (is_within (kinds.Set sets.ThoroughlyImplied) e) refl h (seen-run k es)
  where
    passed : (b : Bool) → b ≡ false → is_some (if b then Some 0 else option_map suc (reach (kinds.Html (text_of known.Template)) kinds.Nothing es)) ≡ true → seen (kinds.Html (text_of known.Template)) kinds.Nothing es ≡ true
    passed true f x = absurd (true≢false f)
    passed false f x = sym (is_some_mapped (reach (kinds.Html (text_of known.Template)) kinds.Nothing es)) ∙ x

    go : (b : Bool) → is_within (kinds.Set sets.ThoroughlyImplied) e ≡ b → suc k ≤ (if b then suc (run_of (kinds.Set sets.ThoroughlyImplied) es) else 0) → (k ≤ run_of (kinds.Set sets.ThoroughlyImplied) es → seen (kinds.Html (text_of known.Template)) kinds.Nothing es ≡ true → seen (kinds.Html (text_of known.Template)) kinds.Nothing (drop k es) ≡ true) → seen (kinds.Html (text_of known.Template)) kinds.Nothing (drop k es) ≡ true
    go true f m later = later (omega arith) (passed (is_within (kinds.Html (text_of known.Template)) e) (thorough-apart e f) s)
    go false f m later = absurd (omega arith)

pub template-stays : (there : Option (List ℕ)) (es : List OpenElement) → ThereIs there es → ThereIs (keep_template there) (popped_by (run_of (kinds.Set sets.ThoroughlyImplied) es) es)
template-stays None es h = tt
template-stays (Some name) es h = go (bytes_eq name (text_of known.Template)) refl
  where
    go : (b : Bool) → bytes_eq name (text_of known.Template) ≡ b → ThereIs (if b then Some (text_of known.Template) else None) (popped_by (run_of (kinds.Set sets.ThoroughlyImplied) es) es)
    go true e = seen-run (min (run_of (kinds.Set sets.ThoroughlyImplied) es) (length es - 1)) es (omega arith)
        (subst (λ t. seen (kinds.Html t) kinds.Nothing es ≡ true) (equal_bytes true name (text_of known.Template) (sym e) refl) h)
    go false e = tt

-- the head element is taken off below a current node that was just made
pub without-suc : (k : ℕ) (e : OpenElement) (es : List OpenElement) → without (suc k) (e ∷ es) ≡ e ∷ without k es
without-suc k e es = let s : suc k + 1 ≡ suc (k + 1) = omega arith in ap (λ j. (e ∷ take k es) ++ drop j (e ∷ es)) s

taken-tall : (s : ControlState) (id : ℕ) (st : List OpenElement) → s.stack ≡ st → is_rooted st ≡ true → is_tall st ≡ true → 1 < id → (id ≡ current_id st → ⊥) → (o : Option ℕ) → open_at id st ≡ o → is_tall (taken_off id o s).control.stack ≡ true
taken-tall s id [] e r h a d o f = absurd (true≢false (sym r))
taken-tall s id (x ∷ []) e r h a d o f = absurd (true≢false (sym h))
taken-tall s id (x ∷ y ∷ ys) e r h a d None f = subst (λ xs. is_tall xs ≡ true) (sym e) h
taken-tall s id (x ∷ y ∷ ys) e r h a d (Some zero) f = go (x.id == id) refl f
  where
    later : (o : Option ℕ) → option_map suc o ≡ Some 0 → ⊥
    later None k = cc
    later (Some j) k = let (i, there) = deeper (Some j) 0 k in let wrong : 0 ≡ suc i = there.1 in absurd (omega arith)

    go : (b : Bool) → (x.id == id) ≡ b → (if b then Some 0 else option_map suc (open_at id (y ∷ ys))) ≡ Some 0 → is_tall (taken_off id (Some 0) s).control.stack ≡ true
    go true k m = absurd (d (sym (eqb-true x.id id k)))
    go false k m = absurd (later (open_at id (y ∷ ys)) m)
taken-tall s id (x ∷ y ∷ ys) e r h a d (Some (suc k)) f = go (x.id == id) refl f
  where
    same : Some 0 ≡ Some (suc k) → 0 ≡ suc k
    same z = cc

    zero_suc : Some 0 ≡ Some (suc k) → ⊥
    zero_suc m = let wrong : 0 ≡ suc k = same m in absurd (omega arith)

    tail : (j : ℕ) → open_at id (y ∷ ys) ≡ Some j → suc k ≡ suc j → is_tall (taken_off id (Some (suc k)) s).control.stack ≡ true
    tail j there m =
        let same_k : k ≡ j = omega arith in
        let rest : is_rooted (without k (y ∷ ys)) ≡ true = subst (λ i. is_rooted (without i (y ∷ ys)) ≡ true) (sym same_k) (rooted-without id j (y ∷ ys) there (not_root id a) r) in
        subst (λ xs. is_tall (without (suc k) xs) ≡ true) (sym e) (subst (λ xs. is_tall xs ≡ true) (sym (without-suc k x (y ∷ ys))) (tall-cons x (without k (y ∷ ys)) h rest))

    go : (b : Bool) → (x.id == id) ≡ b → (if b then Some 0 else option_map suc (open_at id (y ∷ ys))) ≡ Some (suc k) → is_tall (taken_off id (Some (suc k)) s).control.stack ≡ true
    go true q m = absurd (zero_suc m)
    go false q m = let (j, there) = deeper (open_at id (y ∷ ys)) (suc k) m in tail j there.0 there.1

pub taken_off-tall : (s : ControlState) (id : ℕ) → is_rooted s.stack ≡ true → is_tall s.stack ≡ true → 1 < id → (id ≡ current_id s.stack → ⊥) → is_tall (take_off id s).control.stack ≡ true
taken_off-tall s id r h a d = taken-tall s id s.stack refl r h a d (open_at id s.stack) refl

-- a clearing
pub cleared-few : (i : ℕ) (es : List FormattingEntry) → tally (entry_is i) (cleared_list es) ≤ tally (entry_is i) es
cleared-few i [] = omega arith
cleared-few i (Marker ∷ es) = tally-tail (entry_is i) Marker es
cleared-few i (Element id tag ∷ es) =
    let a : tally (entry_is i) (cleared_list es) ≤ tally (entry_is i) es = cleared-few i es in
    let b : tally (entry_is i) es ≤ tally (entry_is i) (Element id tag ∷ es) = tally-tail (entry_is i) (Element id tag) es in
    omega arith

pub cleared-formatting : (es : List FormattingEntry) → All IsFormatting es → All IsFormatting (cleared_list es)
cleared-formatting [] h = h
cleared-formatting (Marker ∷ es) h = All-tail IsFormatting Marker es h
cleared-formatting (Element id tag ∷ es) h = cleared-formatting es (All-tail IsFormatting (Element id tag) es h)

-- template modes
pub replaced-modes : (m : Mode) (ms : List Mode) → is_template_mode m ≡ true → All (λ x. is_template_mode x ≡ true) ms → All (λ x. is_template_mode x ≡ true) (replaced_first m ms)
replaced-modes m [] h k = k
replaced-modes m (x ∷ xs) h k = All-cons (λ y. is_template_mode y ≡ true) m xs h (All-tail (λ y. is_template_mode y ≡ true) x xs k)

pub replaced-room : (r : Room) (templates : ℕ) (m : Mode) (ms : List Mode) → RoomIs r templates (length ms) → RoomIs r templates (length (replaced_first m ms))
replaced-room r templates m [] h = h
replaced-room r templates m (x ∷ xs) h = h

pub dropped-modes : (ms : List Mode) → All (λ x. is_template_mode x ≡ true) ms → All (λ x. is_template_mode x ≡ true) (drop 1 ms)
dropped-modes [] h = h
dropped-modes (x ∷ xs) h = All-tail (λ y. is_template_mode y ≡ true) x xs h

pub dropped-room : (r : Room) (templates : ℕ) (ms : List Mode) → has_spare r ≡ true → RoomIs r templates (length ms) → RoomIs (less_room r) templates (length (drop 1 ms))
dropped-room spare templates [] h k = absurd (omega arith)
dropped-room spare templates (x ∷ xs) h k = omega arith
dropped-room _ templates ms h k = absurd (true≢false (sym h))
