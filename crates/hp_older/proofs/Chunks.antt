-- From a state that goes on from an older one each token is told up to the first act that touches something older, and where
-- nothing is touched what is left goes on.
use Rattle.std.proofs.Common.{◌≡◌, ℕ, zero, suc, ◌<◌, List, [], ◌∷◌, length, Bool, true, false, ◌||◌, ◌&&◌, not, refl, sym, ap, ◌∙◌, subst, arith, inl, inr, Option, None, Some}
use Rattle.std.specs.Prelude.{if◌then◌else◌, ◌⊎◌}
use Rattle.std.specs.Option.{unwrap_or}
use Rattle.std.proofs.Math.Bool.{or-true}
use Rattle.std.proofs.lemmas.Bool.{and_parts, and_from, true≢false, lt-ltb}
use Rattle.hp_elements.specs.Rules.{plan_for}
use Rattle.hp_elements.specs.Tokens.{kind_of}
use Rattle.hp_elements.specs.declared.token.Mode.{Mode}
use Rattle.hp_elements.specs.declared.token.Mode.TheVariants as mode
use Rattle.hp_elements.specs.declared.token.Token.{Token}
use Rattle.hp_elements.specs.declared.token.Token.TheVariants as token
use Rattle.hp_control.specs.declared.element.OpenElement.{OpenElement}
use Rattle.hp_control.specs.Apply.{applied}
use Rattle.hp_control.specs.Faithful.{Split, StandsOn, any_after, state_over}
use Rattle.hp_control.specs.Foreign.{is_foreign}
use Rattle.hp_control.specs.Acts.{headed, touching}
use Rattle.hp_control.specs.Outcome.{becomes, touches_any}
use Rattle.hp_control.specs.States.{ControlState, IsValid, OriginalFits, StackFits, is_settled, is_tall}
use Rattle.hp_rules_rest.specs.Foreign.{foreign}
use Rattle.hp_views.specs.Quiet.{paged, stands_kept}
use Rattle.hp_model.specs.AtOnce.{after_first, handle_at_once, handle_rest}
use Rattle.hp_model.specs.Finding.{is_empty, nothing_missing}
use Rattle.hp_model.specs.Growth.{IsInside}
use Rattle.hp_model.specs.Handling.{all_turns, bound, settled}
use Rattle.hp_model.specs.Rows.{entering, foreign_turn, is_head_mode, mode_turn, rules, turn}
use Rattle.hp_model.specs.Tokens.{is_line_feed}
use Rattle.hp_model.specs.Turns.{Handled, Turn, goes_on, done, again, after_turn, before, before_all, left_by, turns, unchanged}
use Rattle.hp_model.specs.Whole.{IsRead}
use Rattle.hp_model.proofs.Course.{alien}
use Rattle.hp_model.proofs.Handled.{Leaves, along-foreign, along-start, foreign-base, foreign-standing, foreign-top, settled-valid, turn-leaves, weigh}
use Rattle.hp_model.proofs.Passes.{base_of, goes_foreign, start}
use Rattle.hp_model.proofs.Stacks.{is_counted}
use Rattle.hp_model.proofs.Tally.{tally}
use Rattle.hp_acts.specs.Handling.{unskipped}
use Rattle.hp_acts.specs.Suiting.{plan_suits, rules_suit, turn_suits, turns_suit, where_again}
use Rattle.hp_acts.specs.Told.{is_act_told, is_rest_told, is_test_told, is_told, is_told_at_once}
use Rattle.hp_older.specs.GoesOn.{GoesOn, back_mode, comes, fits_mode, is_a, is_plain_top, own, top_fits}
use Rattle.hp_older.proofs.Going.{Here, Leads, leads_before, leads_touched}
use Rattle.hp_older.proofs.Kept.{empty-nil}
use Rattle.hp_older.proofs.Listing.{knows-fits}
use Rattle.hp_older.proofs.Rows.{or_rest, plan_leads, plan_told, rules_lead, rules_told}
use Rattle.hp_older.proofs.Steps.{foreign_goes, is_ending, mode_goes, plan_goes, rules_go, well}
use Rattle.hp_older.proofs.Table.{each_foreign_goes, each_mode_goes}
use Rattle.hp_older.proofs.Track.{BackIs, On, PlaceIs, Top, unknown, high, plain, made, TopIs, Track, Where, at, fitted, lost, begin, ends_at, ends_well, is_even, is_mode_between, is_mode_cell, is_mode_frames, is_mode_select, is_mode_text, is_plain_one}
use Rattle.hp_older.proofs.Tracking.{even_modes}

-- where a turn begins
text_top : (s : ControlState) (st : List OpenElement) → is_tall st ≡ true → is_plain_top s st ≡ true → TopIs plain s st
text_top s [] h k = absurd (true≢false (sym h))
text_top s (e ∷ []) h k = absurd (true≢false (sym h))
text_top s (e ∷ f ∷ es) h k = (omega arith, k)

top_of : (s c : ControlState) (m : Mode) → top_fits s m c.stack ≡ true → StackFits m c → TopIs (if is_mode_text m then plain else unknown) s c.stack
top_of s c mode.Text h k = text_top s c.stack k.1 h
top_of s c _ h k = tt

cell_of : (s : ControlState) (m : Mode) (o : Option Mode) (st : List OpenElement) → fits_mode s (back_mode m o) st ≡ true → is_mode_cell m ≡ true → comes (is_a "td th") (own s (is_a "template td th") st) ≡ true
cell_of s mode.InCell o st h k = (and_parts (comes (is_a "td th") (own s (is_a "template td th") st)) (is_empty (own s (is_a "frameset") st)) h).0
cell_of s _ o st h k = absurd (true≢false (sym k))

select_of : (s : ControlState) (m : Mode) (o : Option Mode) (st : List OpenElement) → fits_mode s (back_mode m o) st ≡ true → is_mode_select m ≡ true → comes (is_a "select") (own s (is_a "template select") st) ≡ true
select_of s mode.InSelect o st h k = (and_parts (comes (is_a "select") (own s (is_a "template select") st)) (is_empty (own s (is_a "frameset") st)) h).0
select_of s mode.InSelectInTable o st h k = (and_parts (comes (is_a "select") (own s (is_a "template select") st)) (is_empty (own s (is_a "frameset") st)) h).0
select_of s _ o st h k = absurd (true≢false (sym k))

bare_of : (s : ControlState) (m : Mode) (o : Option Mode) (st : List OpenElement) → fits_mode s (back_mode m o) st ≡ true → is_mode_frames m ≡ true → own s (is_a "template") st ≡ []
bare_of s mode.InFrameset o st h k = empty-nil (own s (is_a "template") st) h
bare_of s mode.AfterFrameset o st h k = empty-nil (own s (is_a "template") st) h
bare_of s mode.AfterAfterFrameset o st h k = empty-nil (own s (is_a "template") st) h
bare_of s _ o st h k = absurd (true≢false (sym k))

still_of : (s : ControlState) (m : Mode) (o : Option Mode) (st : List OpenElement) → fits_mode s (back_mode m o) st ≡ true → (not (is_mode_frames m) && not (is_mode_between m)) ≡ true → own s (is_a "frameset") st ≡ []
still_of s mode.InCell o st h k = empty-nil (own s (is_a "frameset") st) (and_parts (comes (is_a "td th") (own s (is_a "template td th") st)) (is_empty (own s (is_a "frameset") st)) h).1
still_of s mode.InSelect o st h k = empty-nil (own s (is_a "frameset") st) (and_parts (comes (is_a "select") (own s (is_a "template select") st)) (is_empty (own s (is_a "frameset") st)) h).1
still_of s mode.InSelectInTable o st h k = empty-nil (own s (is_a "frameset") st) (and_parts (comes (is_a "select") (own s (is_a "template select") st)) (is_empty (own s (is_a "frameset") st)) h).1
still_of s mode.InFrameset o st h k = absurd (true≢false (sym k))
still_of s mode.AfterFrameset o st h k = absurd (true≢false (sym k))
still_of s mode.AfterAfterFrameset o st h k = absurd (true≢false (sym k))
still_of s mode.Text o st h k = absurd (true≢false (sym k))
still_of s mode.InTableText o st h k = absurd (true≢false (sym k))
still_of s _ o st h k = empty-nil (own s (is_a "frameset") st) h

back_of : (s : ControlState) (m : Mode) (o : Option Mode) (st : List OpenElement) → fits_mode s (back_mode m o) st ≡ true → OriginalFits m o → BackIs (is_mode_between m) s o st
back_of s mode.Text None st h k = absurd k
back_of s mode.Text (Some x) st h k = h
back_of s mode.InTableText None st h k = absurd k
back_of s mode.InTableText (Some x) st h k = h
back_of s _ o st h k = tt

begin_on : (s c : ControlState) → GoesOn s c → IsValid c → On (begin c.mode) s c
begin_on s c g v = record {
  html = g.html;
  balance = g.together;
  free = g.free;
  top = top_of s c c.mode g.top v.stack;
  there = tt;
  cell = cell_of s c.mode c.original c.stack g.mode;
  select = select_of s c.mode c.original c.stack g.mode;
  bare = bare_of s c.mode c.original c.stack g.mode;
  still = still_of s c.mode c.original c.stack g.mode;
  back = back_of s c.mode c.original c.stack g.mode v.original;
  place = refl;
}

-- where a row ends
plain_end : (s : ControlState) (tp : Top) (st : List OpenElement) → is_plain_one tp ≡ true → TopIs tp s st → is_plain_top s st ≡ true
plain_end s unknown st h k = absurd (true≢false (sym h))
plain_end s high st h k = absurd (true≢false (sym h))
plain_end s plain [] h k = refl
plain_end s plain (e ∷ st) h k = k.1
plain_end s made [] h k = refl
plain_end s made (e ∷ st) h k = k.1

back_end : (s : ControlState) (b : Bool) (o : Option Mode) (st : List OpenElement) → b ≡ true → BackIs b s o st → BackIs true s o st
back_end s true o st h k = k
back_end s false o st h k = absurd (true≢false (sym h))

text_back : (s : ControlState) (o : Option Mode) (st : List OpenElement) → BackIs true s o st → (fits_mode s (back_mode mode.Text o) st ≡ true) × (fits_mode s (back_mode mode.InTableText o) st ≡ true)
text_back s None st h = absurd h
text_back s (Some x) st h = (h, h)

abbrev Fit : ControlState → ControlState → Mode → Type 0
Fit s c m = (fits_mode s (back_mode m c.original) c.stack ≡ true) × (top_fits s m c.stack ≡ true)

at_end : (s c : ControlState) (w : Track) (m : Mode) → On w s c → ends_at (at m) w ≡ true → Fit s c m
at_end s c w mode.Text on h =
    let parts = and_parts w.back (is_plain_one w.top) h in
    ((text_back s c.original c.stack (back_end s w.back c.original c.stack parts.0 on.back)).0, plain_end s w.top c.stack parts.1 on.top)
at_end s c w mode.InTableText on h = ((text_back s c.original c.stack (back_end s w.back c.original c.stack (and_parts w.back true h).0 on.back)).1, refl)
at_end s c w m on h = (knows-fits m w s c on h, refl)

settled_end : (s c : ControlState) (m : Mode) → is_settled m ≡ true → fits_mode s m c.stack ≡ true → Fit s c m
settled_end s c mode.Text h k = absurd (true≢false (sym h))
settled_end s c mode.InTableText h k = absurd (true≢false (sym h))
settled_end s c m h k = (k, refl)

fit_end : (s c : ControlState) (w : Track) (p : Where) → On w s c → ends_at p w ≡ true → PlaceIs p s c.mode c.stack → Fit s c c.mode
fit_end s c w (at m) on h k = subst (λ x. Fit s c x) (sym k) (at_end s c w m on h)
fit_end s c w fitted on h k = settled_end s c c.mode k.0 k.1
fit_end s c w lost on h k = absurd (true≢false (sym h))

on_end : (s c : ControlState) (w : Track) → On w s c → ends_well w ≡ true → GoesOn s c
on_end s c w on h =
    let parts = and_parts (is_even w.balance) (ends_at w.place w) h in
    let fit = fit_end s c w w.place on parts.1 on.place in
    record { html = on.html; together = even_modes w.balance (length (own s (is_a "template") c.stack)) (length c.templates) (length s.templates) parts.0 on.balance; free = on.free; mode = fit.0; top = fit.1 }

-- a state that a view stands for, and that goes on
pub record Chunk (s c : ControlState) : Type 0 where
  pub view : Split
  pub stands : StandsOn s view
  pub is : state_over view s ≡ c
  pub goes_on : GoesOn s c

here_end : (s : ControlState) (n : ℕ) (c : ControlState) → Here s n well c → Chunk s c
here_end s n c p = record { view = p.view; stands = p.stands; is = p.is; goes_on = on_end s c p.track p.on p.asked }

not_or_second : (a b : Bool) → a ≡ true → (not a || b) ≡ true → b ≡ true
not_or_second true b h k = k
not_or_second false b h k = absurd (true≢false (sym h))

-- the kind of a token inside a page
inside-kind : (t : Token) → IsInside t → is_ending (kind_of t) ≡ false
inside-kind (token.Start self_closing tag) h = refl
inside-kind (token.EndTag name) h = refl
inside-kind (token.Characters class text) h = refl
inside-kind (token.Comment text) h = refl
inside-kind (token.Doctype parts) h = refl
inside-kind token.EndOfInput h = absurd h

module _ (s : ControlState) (first : 0 < s.next) where
  abbrev Ends : ControlState → Turn → Type 0
  Ends c u = Leads s first (tally is_counted c.stack) well well u

  head_touched : (c : ControlState) → is_head_mode c.mode ≡ true → touches_any s (entering c).outcome ≡ true
  head_touched c h = ap (λ b. touches_any s (if b then touching headed (becomes c) else becomes c)) h ∙ ap (λ b. b || false) (lt-ltb 0 s.next first)

  -- dispatch, past the head
  dispatch : (t : Token) (c : ControlState) → IsRead t → is_ending (kind_of t) ≡ false → IsValid c → Chunk s c → is_head_mode c.mode ≡ false → (b : Bool) → is_foreign (kind_of t) c.stack ≡ b
      → ((if b then plan_suits s (is_act_told s) (is_test_told s) t (rules 4 t) (mode_turn t c.mode) (rules_suit s (is_act_told s) (is_test_told s) t 4) (rules_suit s (is_act_told s) (is_test_told s) t 4 false c.mode) false (plan_for foreign (kind_of t)) nothing_missing c else rules_suit s (is_act_told s) (is_test_told s) t 4 false c.mode c) ≡ true)
      × Ends c (if b then foreign_turn t c else mode_turn t c.mode c)
  unfolding mode_goes foreign_goes
  dispatch t c read inside valid k off true e =
      let n = tally is_counted c.stack in
      let far = foreign-standing (kind_of t) c.mode c valid.stack e in
      let row = not_or_second (goes_foreign (base_of c.mode)) _ far (or_rest (is_ending (kind_of t)) _ inside (or_rest (is_head_mode c.mode) _ off (each_foreign_goes c.mode (kind_of t)))) in
      let p : Here s n (λ v w. plan_goes (kind_of t) (rules_go (kind_of t) 4) (rules_go (kind_of t) 4 c.mode) (plan_for foreign (kind_of t)) v w well well) c =
      record { course = record (start c.mode) { base = alien }; track = begin c.mode; view = k.view; stands = k.stands; is = k.is; along = along-foreign c valid (foreign-base c.mode c valid.stack far) (foreign-top (kind_of t) c.stack e); on = begin_on s c k.goes_on valid; asked = row } in (
        plan_told s first n t read inside (rules 4 t) (mode_turn t c.mode) (rules_go (kind_of t) 4) (rules_go (kind_of t) 4 c.mode) (rules_lead s first n t read inside 4) (λ d z q. rules_lead s first n t read inside 4 false c.mode d z q)
            (rules_suit s (is_act_told s) (is_test_told s) t 4) (rules_suit s (is_act_told s) (is_test_told s) t 4 false c.mode) (rules_told s first n t read inside 4) (λ d z q. rules_told s first n t read inside 4 false c.mode d z q) false (plan_for foreign (kind_of t)) c nothing_missing well well p (λ d q. refl),
        plan_leads s first n t read inside (rules 4 t) (mode_turn t c.mode) (rules_go (kind_of t) 4) (rules_go (kind_of t) 4 c.mode) (rules_lead s first n t read inside 4) (λ d z q. rules_lead s first n t read inside 4 false c.mode d z q)
            (rules_suit s (is_act_told s) (is_test_told s) t 4) (rules_suit s (is_act_told s) (is_test_told s) t 4 false c.mode) (rules_told s first n t read inside 4) (λ d z q. rules_told s first n t read inside 4 false c.mode d z q) false (plan_for foreign (kind_of t)) c well well p,
      )
  dispatch t c read inside valid k off false e =
      let n = tally is_counted c.stack in
      let row = or_rest (is_ending (kind_of t)) _ inside (or_rest (is_head_mode c.mode) _ off (each_mode_goes c.mode (kind_of t))) in
      let p : Here s n (λ v w. rules_go (kind_of t) 4 c.mode v w well) c = record { course = start c.mode; track = begin c.mode; view = k.view; stands = k.stands; is = k.is; along = along-start c valid; on = begin_on s c k.goes_on valid; asked = row } in
      (rules_told s first n t read inside 4 false c.mode c well p, rules_lead s first n t read inside 4 false c.mode c well p)

  -- a turn
  one_turn : (t : Token) (c : ControlState) → IsRead t → is_ending (kind_of t) ≡ false → IsValid c → Chunk s c → (turn_suits s (is_act_told s) (is_test_told s) t c ≡ true) × Ends c (turn t c)
  unfolding turn turn_suits
  one_turn t c read inside valid k = go (is_head_mode c.mode) refl
    where
      go : (h : Bool) → is_head_mode c.mode ≡ h
          → ((touches_any s (entering c).outcome || (if is_foreign (kind_of t) c.stack then plan_suits s (is_act_told s) (is_test_told s) t (rules 4 t) (mode_turn t c.mode) (rules_suit s (is_act_told s) (is_test_told s) t 4) (rules_suit s (is_act_told s) (is_test_told s) t 4 false c.mode) false (plan_for foreign (kind_of t)) nothing_missing c else rules_suit s (is_act_told s) (is_test_told s) t 4 false c.mode c)) ≡ true)
          × Ends c (before (entering c) (if is_foreign (kind_of t) c.stack then foreign_turn t c else mode_turn t c.mode c))
      go true e = (ap (λ b. b || (if is_foreign (kind_of t) c.stack then plan_suits s (is_act_told s) (is_test_told s) t (rules 4 t) (mode_turn t c.mode) (rules_suit s (is_act_told s) (is_test_told s) t 4) (rules_suit s (is_act_told s) (is_test_told s) t 4 false c.mode) false (plan_for foreign (kind_of t)) nothing_missing c else rules_suit s (is_act_told s) (is_test_told s) t 4 false c.mode c)) (head_touched c e), leads_touched s first (tally is_counted c.stack) (entering c) (if is_foreign (kind_of t) c.stack then foreign_turn t c else mode_turn t c.mode c) well well (head_touched c e))
      go false e =
          let d = dispatch t c read inside valid k e (is_foreign (kind_of t) c.stack) refl in
          (ap (λ b. touches_any s (entering c).outcome || b) d.0 ∙ or-true (touches_any s (entering c).outcome), leads_before s first (tally is_counted c.stack) (entering c) (if is_foreign (kind_of t) c.stack then foreign_turn t c else mode_turn t c.mode c) well well d.1)

  -- what a token's turns left goes on, or something older was touched
  abbrev Left : Handled → Type 0
  Left h = (touches_any s h.outcome ≡ true) ⊎ Chunk s (left_by h)

  abbrev LeftBy : Option Handled → Type 0
  LeftBy None = Unit {0}
  LeftBy (Some h) = Left h

  left_first : (h : Handled) (o : Option Handled) → touches_any s h.outcome ≡ true → LeftBy (before_all h o)
  left_first h None t = tt
  left_first h (Some k) t = inl (any_after s h.outcome k.outcome ∙ ap (λ b. b || touches_any s k.outcome) t)

  left_then : (h : Handled) (o : Option Handled) → LeftBy o → LeftBy (before_all h o)
  left_then h None m = tt
  left_then h (Some k) (inl t) = inl (any_after s h.outcome k.outcome ∙ (ap (λ b. touches_any s h.outcome || b) t ∙ or-true (touches_any s h.outcome)))
  left_then h (Some k) (inr x) = inr x

  pub all_told : (k : ℕ) (t : Token) (c : ControlState) → IsRead t → is_ending (kind_of t) ≡ false → IsValid c → Chunk s c → (turns_suit s (is_act_told s) (is_test_told s) k t c ≡ true) × LeftBy (turns turn k t c)
  unfolding turns_suit
  all_told zero t c read inside valid p = (refl, tt)
  all_told (suc k) t c read inside valid p =
      let x = one_turn t c read inside valid p in
      let y = go (turn t c) x.1 (turn-leaves t c read valid) (all_told k) in
      (and_from (turn_suits s (is_act_told s) (is_test_told s) t c) (where_again s (turn t c) (turns_suit s (is_act_told s) (is_test_told s) k)) x.0 y.0, y.1)
    where
      go : (u : Turn) → Ends c u → Leaves (weigh t c) u
          → ((other : Token) (d : ControlState) → IsRead other → is_ending (kind_of other) ≡ false → IsValid d → Chunk s d → (turns_suit s (is_act_told s) (is_test_told s) k other d ≡ true) × LeftBy (turns turn k other d))
          → (where_again s u (turns_suit s (is_act_told s) (is_test_told s) k) ≡ true) × LeftBy (after_turn u (turns turn k))
      go (goes_on h) (inl z) l rest = (refl, inl z)
      go (goes_on h) (inr z) l rest = (refl, inr (here_end s (tally is_counted c.stack) (left_by h) z))
      go (done h) (inl z) l rest = (refl, inl z)
      go (done h) (inr z) l rest = (refl, inr (here_end s (tally is_counted c.stack) (left_by h) z))
      go (again other h) (inl z) l rest = (ap (λ b. b || turns_suit s (is_act_told s) (is_test_told s) k other (left_by h)) z, left_first h (turns turn k other (left_by h)) z)
      go (again other h) (inr z) l rest =
          let more = rest other (left_by h) l.2 z.1 l.0 (here_end s (tally is_counted c.stack) (left_by h) z.0) in
          (ap (λ b. touches_any s h.outcome || b) more.0 ∙ or-true (touches_any s h.outcome), left_then h (turns turn k other (left_by h)) more.1)

  unwrapped : (o : Option Handled) (c : ControlState) → LeftBy o → Chunk s c → Left (unwrap_or o (unchanged c))
  unwrapped None c m k = inr k
  unwrapped (Some h) c m k = m

  pub token_told : (t : Token) (c : ControlState) → IsRead t → is_ending (kind_of t) ≡ false → IsValid c → Chunk s c → (is_told s t c ≡ true) × Left (all_turns c t)
  token_told t c read inside valid p = let x = all_told (bound c) t c read inside valid p in (x.0, unwrapped (turns turn (bound c) t c) c x.1 p)

  -- no line feed is skipped any more
  settled_chunk : (c : ControlState) → Chunk s c → Chunk s (settled c)
  settled_chunk c k = record {
    view = unskipped k.view;
    stands = stands_kept s k.view (record k.view.change { skip_lf = false }) refl k.stands;
    is = paged k.view.page settled (applied k.view.change s) (λ p x. refl) ∙ ap settled k.is;
    goes_on = record { html = k.goes_on.html; together = k.goes_on.together; free = k.goes_on.free; mode = k.goes_on.mode; top = k.goes_on.top };
  }

  rest_left : (t : Token) (c : ControlState) → IsValid c → Chunk s c → (is_rest_told s (after_first t) c ≡ true) × Left (handle_rest c (after_first t))
  rest_left (token.Characters class (x ∷ y ∷ text)) c valid k = token_told (token.Characters class (y ∷ text)) c tt refl valid k
  rest_left (token.Characters class (x ∷ [])) c valid k = (refl, inr k)
  rest_left (token.Characters class []) c valid k = (refl, inr k)
  rest_left (token.Start self_closing tag) c valid k = (refl, inr k)
  rest_left (token.EndTag name) c valid k = (refl, inr k)
  rest_left (token.Comment text) c valid k = (refl, inr k)
  rest_left (token.Doctype parts) c valid k = (refl, inr k)
  rest_left token.EndOfInput c valid k = (refl, inr k)

  -- a token at once
  pub at_once_told : (t : Token) (c : ControlState) → IsRead t → IsInside t → IsValid c → Chunk s c → (is_told_at_once s t c ≡ true) × Left (handle_at_once c t)
  at_once_told t c read inside valid k = go (c.skip_lf && is_line_feed t)
    where
      go : (b : Bool) → ((if b then is_rest_told s (after_first t) (settled c) else is_told s t (settled c)) ≡ true) × Left (if b then handle_rest (settled c) (after_first t) else all_turns (settled c) t)
      go true = rest_left t (settled c) (settled-valid c valid) (settled_chunk c k)
      go false = token_told t (settled c) read (inside-kind t inside) (settled-valid c valid) (settled_chunk c k)
