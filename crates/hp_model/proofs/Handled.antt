-- Handling a token ends, and leaves a valid state.
use Rattle.std.proofs.Common.{◌≡◌, ℕ, zero, suc, ◌+◌, ◌*◌, ◌≤◌, ◌<◌, List, [], ◌∷◌, map, length, Bool, true, false, ◌&&◌, ◌||◌, not, refl, sym, ap, ◌∙◌, subst, arith, Option, Some, IsSome}
use Rattle.std.specs.Prelude.{if◌then◌else◌}
use Rattle.std.specs.List.{count_by}
use Rattle.std.specs.Option.{unwrap_or}
use Rattle.std.proofs.lemmas.Bool.{and_parts, true≢false}
use Rattle.hp_elements.specs.Rules.{plan_for}
use Rattle.hp_elements.specs.Tokens.{kind_of}
use Rattle.hp_elements.specs.declared.token.CharClass.{CharClass}
use Rattle.hp_elements.specs.declared.token.Kind.{Kind}
use Rattle.hp_elements.specs.declared.token.Mode.{Mode}
use Rattle.hp_elements.specs.declared.token.Mode.TheVariants as mode
use Rattle.hp_elements.specs.declared.token.Token.{Token}
use Rattle.hp_elements.specs.declared.token.Token.TheVariants as token
use Rattle.hp_control.specs.declared.element.OpenElement.{OpenElement}
use Rattle.hp_control.specs.Foreign.{enters, is_annotation, is_end_of_input, is_foreign, is_svg_start}
use Rattle.hp_control.specs.States.{ControlState, IsValid, StackFits, OriginalFits, PendingFits, is_html, is_rooted, is_settled, is_tall, is_template}
use Rattle.hp_rules_rest.specs.Foreign.{foreign}
use Rattle.hp_model.specs.Handling.{all_turns, bound, handle, handle_all, handle_piece, settled}
use Rattle.hp_model.specs.Rows.{entering, foreign_turn, mode_turn, rules, turn}
use Rattle.hp_model.specs.Tokens.{is_line_feed}
use Rattle.hp_model.specs.Turns.{Handled, Turn, goes_on, done, again, after_turn, before_all, joined, left_by, turns, unchanged}
use Rattle.hp_model.specs.Whole.{IsRead}
use Rattle.hp_model.proofs.Tally.{tally, tally-count_by, tally-length}
use Rattle.hp_model.proofs.Stacks.{is_counted}
use Rattle.hp_model.proofs.Course.{Course, Along, Base, bare, tall, alien, Where, at, anywhere, left, Room, lacking, enough, spare, BaseIs, OriginalIs, PendingIs, PlaceIs, RoomIs, is_standing, has_room, is_foreign_top}
use Rattle.hp_model.proofs.Courses.{standing-rooted}
use Rattle.hp_model.proofs.Passes.{rank, rules_pass, mode_passes, foreign_passes, base_fits, returns, collects, same, good, good_at, base_of, start, goes_foreign, falls}
use Rattle.hp_model.proofs.Tests.{each_mode, each_foreign}
use Rattle.hp_model.proofs.Walking.{Meets, meets_before, plan_meets, rules_meet}
use Rattle.hp_model.proofs.Weights.{weight, top, weight-below, top_at_most, falls-weight}

base-start : (m : Mode) (s : ControlState) → StackFits m s → BaseIs (base_of m) s.stack s.next
base-start mode.Initial s h = h
base-start mode.BeforeHtml s h = h
base-start mode.Text s h = h
base-start _ s h = h

original-start : (m : Mode) (o : Option Mode) → OriginalFits m o → OriginalIs (returns m) o
original-start mode.Text o h = h
original-start mode.InTableText o h = h
original-start _ o h = h

pending-start : (m : Mode) (pending : List ℕ) → PendingFits m pending → PendingIs (collects m) pending
pending-start mode.InTableText pending h = h
pending-start _ pending h = h

room-start : (s : ControlState) → IsValid s → tally is_template s.stack ≤ length s.templates
room-start s v =
    let e : tally is_template s.stack ≡ count_by is_template s.stack = tally-count_by is_template s.stack in
    let f : count_by is_template s.stack ≤ length s.templates = v.templates in
    omega arith

pub along-start : (s : ControlState) → IsValid s → Along (start s.mode) (tally is_counted s.stack) s
along-start s v = record {
  base = base-start s.mode s v.stack;
  count = omega arith;
  place = refl;
  original = original-start s.mode s.original v.original;
  pending = pending-start s.mode s.pending v.pending;
  room = room-start s v;
  there = tt;
  made = tt;
  template_modes = v.template_modes;
  formatting = v.formatting;
  stack_ids = v.stack_ids;
  list_ids = v.list_ids;
  head = v.head;
  form = v.form;
  lex = v.lex;
}

base-bare : (m : Mode) (b : Base) (s : ControlState) → base_fits m b ≡ true → BaseIs b s.stack s.next → StackFits m s
base-bare mode.Initial bare s h k = k
base-bare mode.Initial _ s h k = absurd (true≢false (sym h))
base-bare mode.BeforeHtml bare s h k = k
base-bare mode.BeforeHtml _ s h k = absurd (true≢false (sym h))
base-bare mode.Text tall s h k = k
base-bare mode.Text _ s h k = absurd (true≢false (sym h))
base-bare _ b s h k = standing-rooted b s.stack s.next h k

original-end : (m : Mode) (b : Bool) (o : Option Mode) → same b (returns m) ≡ true → OriginalIs b o → OriginalFits m o
original-end mode.Text true o h k = k
original-end mode.Text false o h k = absurd (true≢false (sym h))
original-end mode.InTableText true o h k = k
original-end mode.InTableText false o h k = absurd (true≢false (sym h))
original-end _ true o h k = absurd (true≢false (sym h))
original-end _ false o h k = k

pending-end : (m : Mode) (b : Bool) (pending : List ℕ) → (not b || collects m) ≡ true → PendingIs b pending → PendingFits m pending
pending-end mode.InTableText b pending h k = tt
pending-end _ true pending h k = absurd (true≢false (sym h))
pending-end _ false pending h k = k

room-end : (r : Room) (templates modes : ℕ) → has_room r ≡ true → RoomIs r templates modes → templates ≤ modes
room-end lacking templates modes h k = absurd (true≢false (sym h))
room-end enough templates modes h k = k
room-end spare templates modes h k = omega arith

settled-stack : (m : Mode) (s : ControlState) → is_settled m ≡ true → is_rooted s.stack ≡ true → StackFits m s
settled-stack mode.Initial s h k = absurd (true≢false (sym h))
settled-stack mode.BeforeHtml s h k = absurd (true≢false (sym h))
settled-stack mode.Text s h k = absurd (true≢false (sym h))
settled-stack mode.InTableText s h k = absurd (true≢false (sym h))
settled-stack _ s h k = k

settled-original : (m : Mode) (b : Bool) (o : Option Mode) → is_settled m ≡ true → not b ≡ true → OriginalIs b o → OriginalFits m o
settled-original mode.Text b o h n k = absurd (true≢false (sym h))
settled-original mode.InTableText b o h n k = absurd (true≢false (sym h))
settled-original _ true o h n k = absurd (true≢false (sym n))
settled-original _ false o h n k = k

settled-pending : (m : Mode) (b : Bool) (pending : List ℕ) → is_settled m ≡ true → not b ≡ true → PendingIs b pending → PendingFits m pending
settled-pending mode.InTableText b pending h n k = tt
settled-pending _ true pending h n k = absurd (true≢false (sym n))
settled-pending _ false pending h n k = k

-- a state on a course, with what its mode asks for
valid_by : (v : Course) (n : ℕ) (s : ControlState) → Along v n s → StackFits s.mode s → OriginalFits s.mode s.original → PendingFits s.mode s.pending → tally is_template s.stack ≤ length s.templates → IsValid s
valid_by v n s g stack original pending templates = record {
  stack_ids = g.stack_ids;
  list_ids = g.list_ids;
  head = g.head;
  form = g.form;
  formatting = g.formatting;
  stack = stack;
  original = original;
  pending = pending;
  template_modes = g.template_modes;
  templates = let e : tally is_template s.stack ≡ count_by is_template s.stack = tally-count_by is_template s.stack in omega arith;
  lex = g.lex;
}

-- a course that passes at a row's end has valid states
good-valid : (v : Course) (n : ℕ) (s : ControlState) → Along v n s → good v ≡ true → IsValid s
good-valid v n s g h = go v.place g.place h
  where
    settled_there : is_settled s.mode ≡ true → (is_standing v.base && (not v.has_original && (not v.has_pending && has_room v.room))) ≡ true → IsValid s
    settled_there p k =
        let a = and_parts (is_standing v.base) _ k in
        let b = and_parts (not v.has_original) _ a.1 in
        let c = and_parts (not v.has_pending) (has_room v.room) b.1 in
        valid_by v n s g (settled-stack s.mode s p (standing-rooted v.base s.stack s.next a.0 g.base)) (settled-original s.mode v.has_original s.original p b.0 g.original)
        (settled-pending s.mode v.has_pending s.pending p c.0 g.pending) (room-end v.room (tally is_template s.stack) (length s.templates) c.1 g.room)

    go : (w : Where) → PlaceIs w n s.stack s.mode → good_at w v ≡ true → IsValid s
    go (at m) p k =
        let a = and_parts (base_fits m v.base) _ k in
        let b = and_parts (same v.has_original (returns m)) _ a.1 in
        let c = and_parts (not v.has_pending || collects m) (has_room v.room) b.1 in
        valid_by v n s g (subst (λ x. StackFits x s) (sym p) (base-bare m v.base s a.0 g.base)) (subst (λ x. OriginalFits x s.original) (sym p) (original-end m v.has_original s.original b.0 g.original))
        (subst (λ x. PendingFits x s.pending) (sym p) (pending-end m v.has_pending s.pending c.0 g.pending)) (room-end v.room (tally is_template s.stack) (length s.templates) c.1 g.room)
    go anywhere p k = settled_there p k
    go left p k = settled_there p.0 k

-- what a turn leaves: a valid state, and where a token is handed on, less weight
abbrev pub Leaves : ℕ → Turn → Type 0
Leaves w (goes_on h) = IsValid (left_by h)
Leaves w (done h) = IsValid (left_by h)
Leaves w (again t h) = IsValid (left_by h) × (weight (kind_of t) (left_by h).mode (left_by h).stack < w) × IsRead t

meets-leaves : (kind : Kind) (s : ControlState) (t : Turn) → Meets (rank kind s.mode) (tally is_counted s.stack) good good t → Leaves (weight kind s.mode s.stack) t
meets-leaves kind s (goes_on h) (w, (g, k)) = good-valid w (tally is_counted s.stack) (left_by h) g k
meets-leaves kind s (done h) (w, (g, k)) = good-valid w (tally is_counted s.stack) (left_by h) g k
meets-leaves kind s (again t h) (w, (g, k, read)) =
    let parts = and_parts (good w) (falls (kind_of t) (rank kind s.mode) w.count w.place) k in
    (good-valid w (tally is_counted s.stack) (left_by h) g parts.0, falls-weight (kind_of t) (rank kind s.mode) w.count w.place (tally is_counted s.stack) (left_by h).stack (left_by h).mode g.count g.place parts.1, read)

-- a token goes to foreign content only where the test looks at it
not_or : (a b c d : Bool) → not (a || b || c || d) ≡ true → b ≡ false
not_or true b c d h = absurd (true≢false (sym h))
not_or false true c d h = absurd (true≢false (sym h))
not_or false false c d h = refl

pub foreign-top : (kind : Kind) (st : List OpenElement) → is_foreign kind st ≡ true → is_foreign_top st ≡ true
foreign-top kind [] h = absurd (true≢false (sym h))
foreign-top kind (e ∷ es) h = ap not (not_or (is_end_of_input kind) (is_html e) (enters e.point kind) (is_annotation e && is_svg_start kind) h)

tall-not_foreign : (st : List OpenElement) → is_tall st ≡ true → is_foreign_top st ≡ false
tall-not_foreign [] h = refl
tall-not_foreign (e ∷ []) h = absurd (true≢false (sym h))
tall-not_foreign (e ∷ f ∷ es) h = ap not h

pub foreign-standing : (kind : Kind) (m : Mode) (s : ControlState) → StackFits m s → is_foreign kind s.stack ≡ true → goes_foreign (base_of m) ≡ true
foreign-standing kind mode.Initial s h e = absurd (true≢false (sym e ∙ ap (is_foreign kind) h.0))
foreign-standing kind mode.BeforeHtml s h e = absurd (true≢false (sym e ∙ ap (is_foreign kind) h.0))
foreign-standing kind mode.Text s h e = absurd (true≢false (sym (foreign-top kind s.stack e) ∙ tall-not_foreign s.stack h.1))
foreign-standing kind _ s h e = refl

pub foreign-base : (m : Mode) (s : ControlState) → StackFits m s → goes_foreign (base_of m) ≡ true → is_rooted s.stack ≡ true
foreign-base mode.Initial s h e = absurd (true≢false (sym e))
foreign-base mode.BeforeHtml s h e = absurd (true≢false (sym e))
foreign-base mode.Text s h e = absurd (true≢false (sym e))
foreign-base _ s h e = h

pub along-foreign : (s : ControlState) → IsValid s → is_rooted s.stack ≡ true → is_foreign_top s.stack ≡ true → Along (record (start s.mode) { base = alien }) (tally is_counted s.stack) s
along-foreign s v r f = record {
  base = (r, f);
  count = omega arith;
  place = refl;
  original = original-start s.mode s.original v.original;
  pending = pending-start s.mode s.pending v.pending;
  room = room-start s v;
  there = tt;
  made = tt;
  template_modes = v.template_modes;
  formatting = v.formatting;
  stack_ids = v.stack_ids;
  list_ids = v.list_ids;
  head = v.head;
  form = v.form;
  lex = v.lex;
}

pub or_second : (a b : Bool) → a ≡ true → (not a || b) ≡ true → b ≡ true
or_second true b h k = k
or_second false b h k = absurd (true≢false (sym h))

pub turn-leaves : (t : Token) (s : ControlState) → IsRead t → IsValid s → Leaves (weight (kind_of t) s.mode s.stack) (turn t s)
unfolding turn mode_passes foreign_passes
turn-leaves t s read v =
    meets-leaves (kind_of t) s (turn t s)
    (meets_before (rank (kind_of t) s.mode) (tally is_counted s.stack) (entering s) (if is_foreign (kind_of t) s.stack then foreign_turn t s else mode_turn t s.mode s) good good (go (is_foreign (kind_of t) s.stack) refl))
  where
    go : (b : Bool) → is_foreign (kind_of t) s.stack ≡ b → Meets (rank (kind_of t) s.mode) (tally is_counted s.stack) good good (if b then foreign_turn t s else mode_turn t s.mode s)
    go true e =
        let far = foreign-standing (kind_of t) s.mode s v.stack e in
        plan_meets (rank (kind_of t) s.mode) (tally is_counted s.stack) t read (rules 4 t) (mode_turn t s.mode) (rules_pass (rank (kind_of t) s.mode) (kind_of t) 4) (rules_pass (rank (kind_of t) s.mode) (kind_of t) 4 s.mode)
        (rules_meet (rank (kind_of t) s.mode) (tally is_counted s.stack) t read 4) (rules_meet (rank (kind_of t) s.mode) (tally is_counted s.stack) t read 4 false s.mode) false
        (plan_for foreign (kind_of t)) (record (start s.mode) { base = alien }) s good good (along-foreign s v (foreign-base s.mode s v.stack far) (foreign-top (kind_of t) s.stack e))
        (or_second (goes_foreign (base_of s.mode)) _ far (each_foreign s.mode (kind_of t)))
    go false e = rules_meet (rank (kind_of t) s.mode) (tally is_counted s.stack) t read 4 false s.mode (start s.mode) s good (along-start s v) (each_mode s.mode (kind_of t))

abbrev pub weigh : Token → ControlState → ℕ
weigh t s = weight (kind_of t) s.mode s.stack

-- enough turns, how many they are
enough_turns : (n k : ℕ) (t : Token) (s : ControlState) → IsRead t → IsValid s → weigh t s < n → weigh t s < k → turns turn n t s ≡ turns turn k t s
enough_turns zero k t s read v h g = absurd (omega arith)
enough_turns (suc n) zero t s read v h g = absurd (omega arith)
enough_turns (suc n) (suc k) t s read v h g = go (turn t s) (turn-leaves t s read v) (enough_turns n k)
  where
    go : (u : Turn) → Leaves (weigh t s) u
        → ((other : Token) (r : ControlState) → IsRead other → IsValid r → weigh other r < n → weigh other r < k → turns turn n other r ≡ turns turn k other r)
        → after_turn u (turns turn n) ≡ after_turn u (turns turn k)
    go (goes_on r) l rest = refl
    go (done r) l rest = refl
    go (again other r) l rest = let f : weigh other (left_by r) < weigh t s = l.1 in ap (before_all r) (rest other (left_by r) l.2 l.0 (omega arith) (omega arith))

-- the turns end, in a valid state
turns_end : (n : ℕ) (t : Token) (s : ControlState) → IsRead t → IsValid s → weigh t s < n → (r : Handled) × ((turns turn n t s ≡ Some r) × IsValid (left_by r))
turns_end zero t s read v h = absurd (omega arith)
turns_end (suc n) t s read v h = go (turn t s) (turn-leaves t s read v) (turns_end n)
  where
    go : (u : Turn) → Leaves (weigh t s) u
        → ((other : Token) (r : ControlState) → IsRead other → IsValid r → weigh other r < n → (q : Handled) × ((turns turn n other r ≡ Some q) × IsValid (left_by q)))
        → (q : Handled) × ((after_turn u (turns turn n) ≡ Some q) × IsValid (left_by q))
    go (goes_on r) l rest = (r, (refl, l))
    go (done r) l rest = (r, (refl, l))
    go (again other r) l rest =
        let f : weigh other (left_by r) < weigh t s = l.1 in
        let (q, ended) = rest other (left_by r) l.2 l.0 (omega arith) in
        (joined r q, (ap (before_all r) ended.0, ended.1))

pub below_bound : (t : Token) (s : ControlState) → weigh t s < bound s
below_bound t s =
    let a : weigh t s < top s.mode + 16 + 16 * tally is_counted s.stack = weight-below (kind_of t) s.mode s.stack in
    let b : top s.mode ≤ 16 = top_at_most s.mode in
    let c : tally is_counted s.stack ≤ length s.stack = tally-length is_counted s.stack in
    omega arith

-- more turns than that bound come to the same
pub weigh-more : (n : ℕ) (t : Token) (s : ControlState) → bound s ≤ n → weigh t s < n
weigh-more n t s h = let b : weigh t s < bound s = below_bound t s in omega (arith, b, h)

pub turns-more : (n : ℕ) (t : Token) (s : ControlState) → IsRead t → IsValid s → bound s ≤ n → turns turn n t s ≡ turns turn (bound s) t s
turns-more n t s read v h = enough_turns n (bound s) t s read v (weigh-more n t s h) (below_bound t s)

pub turns_of_token : (t : Token) (s : ControlState) → IsRead t → IsValid s → (r : Handled) × ((turns turn (bound s) t s ≡ Some r) × IsValid (left_by r))
turns_of_token t s read v = turns_end (bound s) t s read v (below_bound t s)

pub turns-end : (t : Token) (s : ControlState) → IsRead t → IsValid s → IsSome (turns turn (bound s) t s)
turns-end t s read v = let (r, ended) = turns_of_token t s read v in subst (λ o. IsSome o) (sym ended.0) refl

pub all_turns-valid : (t : Token) (s : ControlState) → IsRead t → IsValid s → IsValid (left_by (all_turns s t))
all_turns-valid t s read v = let (r, ended) = turns_of_token t s read v in subst (λ o. IsValid (left_by (unwrap_or o (unchanged s)))) (sym ended.0) ended.1

pub handed_on : (t other : Token) (s : ControlState) (h : Handled) → IsRead t → IsValid s → turn t s ≡ again other h → all_turns s t ≡ joined h (all_turns (left_by h) other)
handed_on t other s h read v e =
    let l = subst (λ u. Leaves (weigh t s) u) e (turn-leaves t s read v) in
    let r : ControlState = left_by h in
    let f : weigh other r < weigh t s = l.1 in
    let more : turns turn (suc (bound s)) t s ≡ turns turn (bound s) t s = enough_turns (suc (bound s)) (bound s) t s read v (let b : weigh t s < bound s = below_bound t s in omega arith) (below_bound t s) in
    let here : turns turn (suc (bound s)) t s ≡ before_all h (turns turn (bound s) other r) = ap (λ u. after_turn u (turns turn (bound s))) e in
    let fewer : turns turn (bound s) other r ≡ turns turn (bound r) other r = enough_turns (bound s) (bound r) other r l.2 l.0 (let b : weigh t s < bound s = below_bound t s in omega arith) (below_bound other r) in
    let (q, ended) = turns_of_token other r l.2 l.0 in
    ap (λ o. unwrap_or o (unchanged s)) (sym more ∙ (here ∙ ap (before_all h) (fewer ∙ ended.0)))
    ∙ sym (ap (λ o. joined h (unwrap_or o (unchanged r))) ended.0)

settled-fits : (m : Mode) (s : ControlState) → StackFits m s → StackFits m (settled s)
settled-fits mode.Initial s h = h
settled-fits mode.BeforeHtml s h = h
settled-fits mode.Text s h = h
settled-fits _ s h = h

pub settled-valid : (s : ControlState) → IsValid s → IsValid (settled s)
settled-valid s v = record {
  stack_ids = v.stack_ids;
  list_ids = v.list_ids;
  head = v.head;
  form = v.form;
  formatting = v.formatting;
  stack = settled-fits s.mode s v.stack;
  original = v.original;
  pending = v.pending;
  template_modes = v.template_modes;
  templates = v.templates;
  lex = v.lex;
}

pub piece-valid : (t : Token) (s : ControlState) → IsRead t → IsValid s → IsValid (left_by (handle_piece s t))
piece-valid t s read v = go (s.skip_lf && is_line_feed t)
  where
    go : (b : Bool) → IsValid (left_by (if b then unchanged (settled s) else all_turns (settled s) t))
    go true = settled-valid s v
    go false = all_turns-valid t (settled s) read (settled-valid s v)

characters-valid : (class : CharClass) (text : List ℕ) (s : ControlState) → IsValid s → IsValid (left_by (handle_all s (map (λ c. token.Characters class (c ∷ [])) text)))
characters-valid class [] s v = v
characters-valid class (c ∷ text) s v = characters-valid class text (left_by (handle_piece s (token.Characters class (c ∷ [])))) (piece-valid (token.Characters class (c ∷ [])) s tt v)

pub handle-valid : (t : Token) (s : ControlState) → IsRead t → IsValid s → IsValid (left_by (handle s t))
handle-valid (token.Characters class text) s read v = characters-valid class text s v
handle-valid (token.Start self_closing tag) s read v = piece-valid (token.Start self_closing tag) s read v
handle-valid (token.EndTag name) s read v = piece-valid (token.EndTag name) s read v
handle-valid (token.Comment text) s read v = piece-valid (token.Comment text) s read v
handle-valid (token.Doctype parts) s read v = piece-valid (token.Doctype parts) s read v
handle-valid token.EndOfInput s read v = piece-valid token.EndOfInput s read v
