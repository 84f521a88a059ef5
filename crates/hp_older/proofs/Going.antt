-- A row that passes the test is told up to the first act that touches something older, and where nothing is touched it ends on a
-- track that goes on.
use Rattle.std.proofs.Common.{◌≡◌, ℕ, ◌+◌, ◌<◌, List, [], ◌∷◌, drop, length, Bool, true, false, ◌||◌, ◌&&◌, not, refl, sym, ap, ◌∙◌, subst, arith, inl, inr, Option, None, Some}
use Rattle.std.specs.Prelude.{if◌then◌else◌, ◌⊎◌, Result, Ok, Err, slice_get}
use Rattle.std.specs.List.{list_any}
use Rattle.std.specs.Str.{bytes_eq}
use Rattle.std.proofs.Math.Bool.{or-true}
use Rattle.std.proofs.lemmas.Bool.{and_parts, and_from, true≢false, false_from_ne_true, and_right}
use Rattle.hp_elements.specs.Names.{is_among, text_of, words}
use Rattle.hp_elements.specs.Sets.{members}
use Rattle.hp_elements.specs.Tokens.{kind_of}
use Rattle.hp_elements.specs.declared.act.Act.{Act}
use Rattle.hp_elements.specs.declared.act.Act.TheVariants as act
use Rattle.hp_elements.specs.declared.act.Scope.{Scope}
use Rattle.hp_elements.specs.declared.act.Test.{Test}
use Rattle.hp_elements.specs.declared.act.Test.TheVariants as test
use Rattle.hp_elements.specs.declared.act.Which.{Which}
use Rattle.hp_elements.specs.declared.kinds.Kinds.{Kinds}
use Rattle.hp_elements.specs.declared.kinds.Kinds.TheVariants as kinds
use Rattle.hp_elements.specs.declared.known.Known.TheVariants as names
use Rattle.hp_elements.specs.declared.element_name.ElementName.TheVariants as element
use Rattle.hp_elements.specs.KnownNames as known
use Rattle.hp_elements.specs.declared.sets.SetName.TheVariants as sets
use Rattle.hp_elements.specs.declared.token.Kind.{Kind}
use Rattle.hp_elements.specs.declared.token.Token.{Token}
use Rattle.hp_elements.proofs.FindLemmas.{equal_bytes}
use Rattle.hp_control.specs.declared.element.OpenElement.{OpenElement}
use Rattle.hp_control.specs.declared.question.Crossing.{Crossing}
use Rattle.hp_control.specs.Apply.{applied}
use Rattle.hp_control.specs.Composed.{ends_of, is_one}
use Rattle.hp_control.specs.Faithful.{Split, StandsOn, any_after, state_over}
use Rattle.hp_control.specs.KindTests.{within}
use Rattle.hp_control.specs.Outcome.{Outcome, Touch, after, is_older, is_touch, same_crossing, touches_any}
use Rattle.hp_control.specs.Plan.{end_by}
use Rattle.hp_control.specs.States.{ControlState, AreIds, is_html, is_rooted}
use Rattle.hp_control.specs.Truth.{answer_of}
use Rattle.hp_control.specs.Walks.{seen}
use Rattle.hp_views.specs.OwnIds.{ids_drop}
use Rattle.hp_views.specs.Quiet.{paged_part}
use Rattle.hp_views.specs.StackLaws.{full_stack}
use Rattle.hp_model.specs.Steps.{holds, step}
use Rattle.hp_model.specs.Tokens.{name_for}
use Rattle.hp_model.specs.Turns.{Handled, Turn, goes_on, done, again, before, and_then, as_part, left_by}
use Rattle.hp_model.specs.Whole.{IsRead}
use Rattle.hp_model.proofs.Course.{Course, Along, fits}
use Rattle.hp_model.proofs.Course as course
use Rattle.hp_model.proofs.Following.{act_along}
use Rattle.hp_model.proofs.Thins.{ids_of}
use Rattle.hp_acts.specs.Plans.{act_plan, by_plan}
use Rattle.hp_acts.specs.Suiting.{while_own}
use Rattle.hp_acts.specs.Told.{is_act_told, is_test_told, reads_told}
use Rattle.hp_acts.proofs.Matching.{MatchesAlike}
use Rattle.hp_acts.proofs.OlderMatches.{acts_older}
use Rattle.hp_acts.proofs.RowMatches.{is_row_act}
use Rattle.hp_older.specs.GoesOn.{is_key, is_new}
use Rattle.hp_older.proofs.Acting.{common-sort, name-told}
use Rattle.hp_older.proofs.Keys.{apart-name, apart-set, named_in}
use Rattle.hp_older.proofs.Effects.{apart-fewer}
use Rattle.hp_older.proofs.Leading.{Over, act_did, act_reads}
use Rattle.hp_older.proofs.Levels.{key_names}
use Rattle.hp_older.proofs.Links.{top-short}
use Rattle.hp_older.proofs.Moves.{with_there, with_top}
use Rattle.hp_older.proofs.Resets.{is_sorted, sorted-over}
use Rattle.hp_older.proofs.Steps.{Asks, can_test, highly, is_common, is_ending, plainly as plainer, there_of, touches, track_after, track_assume, track_deny, track_fits, well}
use Rattle.hp_older.proofs.Track.{On, There, among, ThereIs, Top, unknown, high, plain, made, TopIs, Track, name_told, sort_of}

-- a state that a view stands for, on a course and a track that pass
pub record Here (s : ControlState) (n : ℕ) (next : Asks) (c : ControlState) : Type 0 where
  pub course : Course
  pub track : Track
  pub view : Split
  pub stands : StandsOn s view
  pub is : state_over view s ≡ c
  pub along : Along course n c
  pub on : On track s c
  pub asked : next course track ≡ true

left_ids : (s : ControlState) (d : Split) → StandsOn s d → AreIds 0 s.next (ids_of (drop d.change.popped s.stack))
left_ids s d st = ids_drop 0 s.next d.change.popped s.stack st.older.stack_ids

-- its new elements stand above the older ones
pub over_view : (s : ControlState) (d : Split) → 0 < s.next → StandsOn s d → Over s (state_over d s)
over_view s d first st = record {
  first = first;
  later = let e : (state_over d s).next ≡ s.next + d.change.made = paged_part d.page (λ c. c.next) (applied d.change s) (λ p c. refl) in omega arith;
  sorted = subst (λ es. is_sorted s es ≡ true) (sym (full_stack s d)) (sorted-over s d.change.stack (drop d.change.popped s.stack) (left_ids s d st));
}

any_touch : (s : ControlState) (crossing : Crossing) (ts : List Touch) → list_any (is_touch s crossing) ts ≡ true → list_any (is_older s) ts ≡ true
any_touch s crossing [] h = absurd (true≢false (sym h))
any_touch s crossing (x ∷ xs) h = go (same_crossing crossing x.crossing) (is_older s x) h (any_touch s crossing xs)
  where
    go : (a b : Bool) → ((a && b) || list_any (is_touch s crossing) xs) ≡ true → (list_any (is_touch s crossing) xs ≡ true → list_any (is_older s) xs ≡ true) → (b || list_any (is_older s) xs) ≡ true
    go a true k later = refl
    go true false k later = later k
    go false false k later = later k

row_of : (kind : Kind) (a : Act) (w : Track) → track_fits kind a w ≡ true → is_row_act a ≡ true
row_of kind (act.If x otherwise) w h = absurd (true≢false (sym h))
row_of kind (act.Unless x otherwise) w h = absurd (true≢false (sym h))
row_of kind _ w h = refl

module _ (s : ControlState) (first : 0 < s.next) (n : ℕ) where
  -- what a turn left goes on by what was asked, or something older was touched
  abbrev pub Leads : Asks → Asks → Turn → Type 0
  Leads next last (goes_on h) = (touches_any s h.outcome ≡ true) ⊎ Here s n next (left_by h)
  Leads next last (done h) = (touches_any s h.outcome ≡ true) ⊎ Here s n last (left_by h)
  Leads next last (again t h) = (touches_any s h.outcome ≡ true) ⊎ (Here s n well (left_by h) × (is_ending (kind_of t) ≡ false))

  either : {X : Type 0} (o p : Outcome) → (touches_any s p ≡ true) ⊎ X → (touches_any s (after o p) ≡ true) ⊎ X
  either o p (inl t) = inl (any_after s o p ∙ (ap (λ b. touches_any s o || b) t ∙ or-true (touches_any s o)))
  either o p (inr x) = inr x

  pub leads_before : (h : Handled) (u : Turn) (next last : Asks) → Leads next last u → Leads next last (before h u)
  leads_before h (goes_on k) next last m = either h.outcome k.outcome m
  leads_before h (done k) next last m = either h.outcome k.outcome m
  leads_before h (again t k) next last m = either h.outcome k.outcome m

  touched_first : (o p : Outcome) → touches_any s o ≡ true → touches_any s (after o p) ≡ true
  touched_first o p t = any_after s o p ∙ ap (λ b. b || touches_any s p) t

  pub leads_touched : (h : Handled) (u : Turn) (next last : Asks) → touches_any s h.outcome ≡ true → Leads next last (before h u)
  leads_touched h (goes_on k) next last t = inl (touched_first h.outcome k.outcome t)
  leads_touched h (done k) next last t = inl (touched_first h.outcome k.outcome t)
  leads_touched h (again x k) next last t = inl (touched_first h.outcome k.outcome t)

  pub leads_then : (u : Turn) (f : ControlState → Turn) (middle next last : Asks) → Leads middle last u → ((c : ControlState) → Here s n middle c → Leads next last (f c)) → Leads next last (and_then u f)
  leads_then (goes_on h) f middle next last (inl t) rest = leads_touched h (f (left_by h)) next last t
  leads_then (goes_on h) f middle next last (inr x) rest = leads_before h (f (left_by h)) next last (rest (left_by h) x)
  leads_then (done h) f middle next last m rest = m
  leads_then (again t h) f middle next last m rest = m

  pub leads_part : (u : Turn) (next last : Asks) → Leads next next u → Leads next last (as_part u)
  leads_part (goes_on h) next last m = m
  leads_part (done h) next last m = m
  leads_part (again t h) next last m = m

  -- what is asked of the rest holds where it goes on
  pub rest_told : (u : Turn) (rest : ControlState → Bool) (middle last : Asks) → Leads middle last u → ((c : ControlState) → Here s n middle c → rest c ≡ true) → while_own s u rest ≡ true
  rest_told (goes_on h) rest middle last (inl t) f = ap (λ b. b || rest (left_by h)) t
  rest_told (goes_on h) rest middle last (inr x) f = ap (λ b. touches_any s h.outcome || b) (f (left_by h) x) ∙ or-true (touches_any s h.outcome)
  rest_told (done h) rest middle last m f = refl
  rest_told (again t h) rest middle last m f = refl

  -- an act on a view
  module _ (t : Token) (read : IsRead t) (fostering : Bool) where
    told_by : (a : Act) (w : Track) (c : ControlState) → On w s c → track_fits (kind_of t) a w ≡ true → (step fostering t a c).spared ≡ false → is_act_told s fostering t a c ≡ true
    told_by a w c on k q = and_from (reads_told s a c) (not (step fostering t a c).spared) (act_reads s (kind_of t) a w c on k) (ap not q)

    act_here : (a : Act) (v : Course) (w : Track) (d : Split) (next : Asks) → StandsOn s d → Along v n (state_over d s) → On w s (state_over d s) → fits (kind_of t) a v ≡ true → track_fits (kind_of t) a w ≡ true → next (course.after (kind_of t) a v) (track_after (kind_of t) a w) ≡ true
        → (is_act_told s fostering t a (state_over d s) ≡ true) × ((touches_any s (step fostering t a (state_over d s)) ≡ true) ⊎ Here s n next (step fostering t a (state_over d s)).control)
    act_here a v w d next st g on h k q = go (act_did s fostering t read a v n w c (over_view s d first st) g on h k)
      where
        c : ControlState
        c = state_over d s

        viewed : (end : Result Split Crossing) → MatchesAlike s d end (step fostering t a c) → On (track_after (kind_of t) a w) s (step fostering t a c).control → (touches_any s (step fostering t a c) ≡ true) ⊎ Here s n next (step fostering t a c).control
        viewed (Err crossing) m x = inl (any_touch s crossing (step fostering t a c).touched m)
        viewed (Ok e) m x = inr (record { course = course.after (kind_of t) a v; track = track_after (kind_of t) a w; view = e; stands = m.stands; is = m.control; along = act_along fostering t read a v n c g h; on = x; asked = q })

        go : ((step fostering t a c).spared ≡ false) × ((touches_any s (step fostering t a c) ≡ true) ⊎ On (track_after (kind_of t) a w) s (step fostering t a c).control)
            → (is_act_told s fostering t a c ≡ true) × ((touches_any s (step fostering t a c) ≡ true) ⊎ Here s n next (step fostering t a c).control)
        go (x, inl y) = (told_by a w c on k x, inl y)
        go (x, inr y) =
            let tell = told_by a w c on k x in
            (tell, viewed (end_by (answer_of s) (by_plan (act_plan fostering t a) d)) (acts_older s t n read fostering a v d st g h (row_of (kind_of t) a w k) tell) y)

    -- the same for a state that a view stands for
    pub act_leads : (a : Act) (c : ControlState) (asks next : Asks) → (p : Here s n asks c) → touches a ≡ false → (fits (kind_of t) a p.course && (track_fits (kind_of t) a p.track && next (course.after (kind_of t) a p.course) (track_after (kind_of t) a p.track))) ≡ true
        → (is_act_told s fostering t a c ≡ true) × ((touches_any s (step fostering t a c) ≡ true) ⊎ Here s n next (step fostering t a c).control)
    act_leads a c asks next p off h =
        let parts = and_parts (fits (kind_of t) a p.course) (track_fits (kind_of t) a p.track && next (course.after (kind_of t) a p.course) (track_after (kind_of t) a p.track)) h in
        let inner = and_parts (track_fits (kind_of t) a p.track) (next (course.after (kind_of t) a p.course) (track_after (kind_of t) a p.track)) parts.1 in
        subst (λ x. (is_act_told s fostering t a x ≡ true) × ((touches_any s (step fostering t a x) ≡ true) ⊎ Here s n next (step fostering t a x).control)) p.is
        (act_here a p.course p.track p.view next p.stands (subst (λ x. Along p.course n x) (sym p.is) p.along) (subst (λ x. On p.track s x) (sym p.is) p.on) parts.0 inner.0 inner.1)

-- what a test says, on a track
plain_still : (s : ControlState) (tp : Top) (e : OpenElement) (es : List OpenElement) → TopIs tp s (e ∷ es) → 0 < length es → not (is_new s e && is_key e) ≡ true → TopIs (plainer tp) s (e ∷ es)
plain_still s made e es y l m = y
plain_still s unknown e es y l m = (l, m)
plain_still s high e es y l m = (l, m)
plain_still s plain e es y l m = (l, m)

current_plain : (s : ControlState) (goals : Kinds) (tp : Top) (st : List OpenElement) → is_rooted st ≡ true → ((e : OpenElement) → within goals e ≡ true → named_in key_names e ≡ false) → is_one goals (slice_get st 0) ≡ true → TopIs tp s st → TopIs (plainer tp) s st
current_plain s goals tp [] r k h q = absurd (true≢false (sym h))
current_plain s goals tp (e ∷ es) r k h q =
    let off = k e h in
    let short : 1 < length (e ∷ es) = top-short e es r (apart-fewer (words "html") key_names refl e off) in
    plain_still s tp e es q (omega arith) (ap not (and_right (is_new s e) (is_key e) off))

high_still : (s : ControlState) (tp : Top) (st : List OpenElement) → 1 < length st → TopIs tp s st → TopIs (highly tp) s st
high_still s unknown st l q = l
high_still s high st l q = q
high_still s plain st l q = q
high_still s made st l q = q

not_root : (st : List OpenElement) → is_rooted st ≡ true → is_one (kinds.Html (text_of known.Html)) (slice_get st 0) ≡ false → 1 < length st
not_root [] r h = absurd (true≢false (sym r))
not_root (e ∷ es) r h = top-short e es r (false_from_ne_true (named_in (words "html") e) (λ k. true≢false (sym (back k) ∙ h)))
  where
    or_one : (b : Bool) → (b || false) ≡ true → b ≡ true
    or_one true z = refl
    or_one false z = absurd (true≢false (sym z))

    back : named_in (words "html") e ≡ true → within (kinds.Html (text_of known.Html)) e ≡ true
    back k =
        let parts = and_parts (is_html e) (is_among (words "html") e.name) k in
        let same : e.name ≡ text_of known.Html = equal_bytes true e.name (text_of known.Html) (sym (or_one (bytes_eq e.name (text_of known.Html)) parts.1)) refl in
        and_from (is_html e) (bytes_eq (text_of known.Html) e.name) parts.0 (subst (λ x. bytes_eq (text_of known.Html) x ≡ true) (sym same) refl)

told_there : (t : Token) (where_ : Scope) (which : Which) (o : Option (List ℕ)) (there : There) (st : List OpenElement) → name_told (kind_of t) which ≡ o → seen (kinds.Html (name_for t which)) (kinds.Set (ends_of where_)) st ≡ true → ThereIs there st → ThereIs (there_of where_ o there) st
told_there t where_ which None there st e h k = k
told_there t where_ which (Some name) there st e h k = subst (λ x. seen (kinds.Html x) (kinds.Set (ends_of where_)) st ≡ true) (name-told t which name e) h

pub assume_on : (s : ControlState) (t : Token) (x : Test) (w : Track) (c : ControlState) → is_rooted c.stack ≡ true → On w s c → holds t x c ≡ true → On (track_assume (kind_of t) x w) s c
assume_on s t (test.InScope where_ which) w c r on h = with_there (there_of where_ (name_told (kind_of t) which) w.there) w s c on (told_there t where_ which (name_told (kind_of t) which) w.there c.stack refl h on.there)
assume_on s t (test.OneInScope where_ names) w c r on h = with_there (among where_ names) w s c on h
assume_on s t (test.CurrentIs x) w c r on h = go (is_common (sort_of (text_of x))) refl
  where
    go : (b : Bool) → is_common (sort_of (text_of x)) ≡ b → On (if b then record w { top = plainer w.top } else w) s c
    go true e = with_top (plainer w.top) w s c on (current_plain s (kinds.Html (text_of x)) w.top c.stack r (apart-name key_names (text_of x) (common-sort (text_of x) e)) h on.top)
    go false e = on
assume_on s t (test.CurrentIsIn sets.Headings) w c r on h = with_top (plainer w.top) w s c on (current_plain s (kinds.Set sets.Headings) w.top c.stack r (apart-set key_names (members sets.Headings) refl) h on.top)
assume_on s t _ w c r on h = on

pub deny_on : (s : ControlState) (t : Token) (x : Test) (w : Track) (c : ControlState) → is_rooted c.stack ≡ true → On w s c → holds t x c ≡ false → On (track_deny x w) s c
deny_on s t (test.CurrentIs (names.Element element.Html)) w c r on h = with_top (highly w.top) w s c on (high_still s w.top c.stack (not_root c.stack r h) on.top)
deny_on s t _ w c r on h = on

pub test_told : (s : ControlState) (x : Test) (c : ControlState) → can_test x ≡ true → is_test_told s x c ≡ true
test_told s test.HasTemplateModes c h = absurd (true≢false (sym h))
test_told s _ c h = refl
