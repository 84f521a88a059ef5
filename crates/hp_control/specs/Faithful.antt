-- A plan under the true answers does to a change what an act does to the whole state.
use Rattle.std.specs.Prelude.{◌≡◌, ℕ, ◌<◌, Bool, true, false, if◌then◌else◌, List, ◌++◌, Option, Some, None, Result, Ok, Err, length, map, refl, ◌||◌}
use Rattle.std.proofs.Common.{sym, subst, ap, ◌∙◌, append_assoc, arith}
use Rattle.std.proofs.lemmas.List.{append-nil}
use Rattle.std.proofs.lemmas.List.Folds.{list_any-append}
use Rattle.std.proofs.Math.Bool.{or-true}
use Rattle.hp_control.specs.declared.change.Change.{Change}
use Rattle.hp_control.specs.declared.edit.Edit.{Edit}
use Rattle.hp_control.specs.declared.question.Crossing.{Crossing}
use Rattle.hp_control.specs.States.{ControlState, is_rooted}
use Rattle.hp_control.specs.Nothing.{nothing}
use Rattle.hp_control.specs.Truth.{answer_of}
use Rattle.hp_control.specs.Apply.{applied, named_edit, IsOlder}
use Rattle.hp_control.specs.Outcome.{Outcome, Act, is_table_text, is_older, is_touch, touches, touches_any, and_then, after, choose, nothing_done}
use Rattle.hp_control.specs.Plan.{Plan, gives, followed_by, end_by}
use Rattle.hp_control.specs.Running.{on_end, end_then}

-- what no chunk changes, and a parser that starts from a known state does
pub record Page : Type 0 where
  pub head : Option ℕ
  pub quirks : Bool

-- what a view changed so far, and its edits; whether the chunk began among pending table characters; where the view stands on
-- no older state, the page's facts as well
pub record Split : Type 0 where
  pub change : Change
  pub edits : List Edit
  pub older_text : Bool
  pub page : Option Page

abbrev pub with_page : Option Page → ControlState → ControlState
with_page None c = c
with_page (Some p) c = record c { head = p.head; quirks = p.quirks }

-- the full state that a view is, where the older state is s
abbrev pub state_over : Split → ControlState → ControlState
state_over v s = with_page v.page (applied v.change s)

-- the state of a page, of whose elements one at least is left
pub record IsOpen (c : Change) (s : ControlState) : Type 0 where
  pub rooted : is_rooted s.stack ≡ true
  pub left : c.popped < length s.stack
  pub made : 0 < s.next

abbrev pub IsBase : Option Page → Change → ControlState → Type 0
IsBase None c s = IsOpen c s
IsBase (Some page) c s = s ≡ nothing

-- s may be the older state of the view: any state of a page that is past its head, or none
pub record StandsOn (s : ControlState) (v : Split) : Type 0 where
  pub older : IsOlder s
  pub text : v.older_text ≡ is_table_text s.mode
  pub base : IsBase v.page v.change s

-- over s, the view went from v to w as the outcome says, and nothing older was touched
pub record IsDone (s : ControlState) (v w : Split) (o : Outcome) : Type 0 where
  pub control : state_over w s ≡ o.control
  pub edits : map (named_edit s) w.edits ≡ map (named_edit s) v.edits ++ o.edits
  pub own : touches_any s o ≡ false
  pub stands : StandsOn s w

abbrev pub Matches : ControlState → Split → Result Split Crossing → Outcome → Type 0
Matches s v (Ok w) o = IsDone s v w o
Matches s v (Err crossing) o = touches s crossing o ≡ true

-- over an unknown older state nothing is said of an act that would pop the stack's only element
abbrev pub IsSaid : Option Page → Outcome → Type 0
IsSaid None o = o.spared ≡ false
IsSaid (Some page) o = Unit {0}

-- the law of an act, for the views that have what it reads
abbrev pub FaithfulWhere : (Split → Bool) → (Split → Plan Split) → Act → Type 0
FaithfulWhere fits plan act =
    (s : ControlState) (v : Split) → StandsOn s v → fits v ≡ true → IsSaid v.page (act (state_over v s)) → Matches s v (end_by (answer_of s) (plan v)) (act (state_over v s))

abbrev pub any_view : Split → Bool
any_view v = true

abbrev pub Faithful : (Split → Plan Split) → Act → Type 0
Faithful plan act = FaithfulWhere any_view plan act

abbrev pub FaithfulTest : (Split → Plan Bool) → (ControlState → Bool) → Type 0
FaithfulTest plan test = (s : ControlState) (v : Split) → StandsOn s v → end_by (answer_of s) (plan v) ≡ Ok (test (state_over v s))

-- what both touch together
pub touches_after : (s : ControlState) (crossing : Crossing) (o p : Outcome) → touches s crossing (after o p) ≡ (touches s crossing o || touches s crossing p)
touches_after s crossing o p = list_any-append (is_touch s crossing) o.touched p.touched

pub any_after : (s : ControlState) (o p : Outcome) → touches_any s (after o p) ≡ (touches_any s o || touches_any s p)
any_after s o p = list_any-append (is_older s) o.touched p.touched

neither : (a b : Bool) → (a || b) ≡ false → (a ≡ false) × (b ≡ false)
neither false b h = (refl, h)
neither true b h = absurd (cc)

pub said_first : (page : Option Page) (o p : Outcome) → IsSaid page (after o p) → IsSaid page o
said_first None o p h = (neither o.spared p.spared h).0
said_first (Some page) o p h = tt

none_made : (s : ControlState) → s ≡ nothing → 0 < s.next → ⊥
none_made s e h = let none : s.next ≡ 0 = ap (λ (t : ControlState). t.next) e in omega (arith, h, none)

pub said_second : (page next : Option Page) (c d : Change) (s : ControlState) (o p : Outcome) → IsBase page c s → IsBase next d s → IsSaid page (after o p) → IsSaid next p
said_second None None c d s o p h k m = (neither o.spared p.spared m).1
said_second None (Some there) c d s o p h k m = absurd (none_made s k h.made)
said_second (Some there) None c d s o p h k m = absurd (none_made s h k.made)
said_second (Some there) (Some page) c d s o p h k m = tt

pub then_done : (s : ControlState) (v w : Split) (o p : Outcome) (e : Result Split Crossing) → IsDone s v w o → Matches s w e p → Matches s v e (after o p)
then_done s v w o p (Err crossing) d m = touches_after s crossing o p ∙ (ap (λ t. touches s crossing o || t) m ∙ or-true (touches s crossing o))
then_done s v w o p (Ok x) d m = record {
  control = m.control;
  edits = m.edits ∙ (ap (λ l. l ++ p.edits) d.edits ∙ append_assoc (map (named_edit s) v.edits) o.edits p.edits);
  own = any_after s o p ∙ (ap (λ t. t || touches_any s p) d.own ∙ m.own);
  stands = m.stands;
}

-- the second act's law, wherever the first has led
abbrev pub Follows : ControlState → Split → (Split → Plan Split) → Outcome → Act → Type 0
Follows s v q o g = (w : Split) → IsDone s v w o → IsSaid w.page (g (state_over w s)) → Matches s w (end_by (answer_of s) (q w)) (g (state_over w s))

pub then_matches : (s : ControlState) (v : Split) (q : Split → Plan Split) (f g : Act) (c : ControlState) (e : Result Split Crossing) → StandsOn s v → IsSaid v.page (and_then f g c) → Follows s v q (f c) g → Matches s v e (f c) → Matches s v (on_end e (λ w. end_by (answer_of s) (q w))) (and_then f g c)
then_matches s v q f g c (Err crossing) st u k m = touches_after s crossing (f c) (g (f c).control) ∙ ap (λ t. t || touches s crossing (g (f c).control)) m
then_matches s v q f g c (Ok w) st u k m =
    let P : ControlState → Type 0 = λ d. IsSaid w.page (g d) → Matches s w (end_by (answer_of s) (q w)) (g d) in
    then_done s v w (f c) (g (f c).control) (end_by (answer_of s) (q w)) m
    (subst P m.control (k w m) (said_second v.page w.page v.change w.change s (f c) (g (f c).control) st.base m.stands.base u))

-- one act after the other in one state, where the second means its own wherever the first leads
pub matches_then : (s : ControlState) (v : Split) (p q : Split → Plan Split) (f g : Act) → StandsOn s v → IsSaid v.page (and_then f g (state_over v s)) → (IsSaid v.page (f (state_over v s)) → Matches s v (end_by (answer_of s) (p v)) (f (state_over v s))) → Follows s v q (f (state_over v s)) g → Matches s v (end_by (answer_of s) (followed_by (p v) q)) (and_then f g (state_over v s))
matches_then s v p q f g st u h k =
    let P : Result Split Crossing → Type 0 = λ e. Matches s v e (and_then f g (state_over v s)) in
    subst P (sym (end_then (answer_of s) (p v) q))
    (then_matches s v q f g (state_over v s) (end_by (answer_of s) (p v)) st u k
    (h (said_first v.page (f (state_over v s)) (g (f (state_over v s)).control) u)))

-- one act after the other, where the first leads to what the second reads
pub faithful_then_where : (fits next : Split → Bool) (p q : Split → Plan Split) (f g : Act) → FaithfulWhere fits p f → FaithfulWhere next q g → ((s : ControlState) (v w : Split) → StandsOn s v → fits v ≡ true → IsDone s v w (f (state_over v s)) → next w ≡ true) → FaithfulWhere fits (λ v. followed_by (p v) q) (and_then f g)
faithful_then_where fits next p q f g h k leads = λ s v st fit u.
    let P : Result Split Crossing → Type 0 = λ e. Matches s v e (and_then f g (state_over v s)) in
    subst P (sym (end_then (answer_of s) (p v) q))
    (then_matches s v q f g (state_over v s) (end_by (answer_of s) (p v)) st u
    (λ w d. k s w d.stands (leads s v w st fit d))
    (h s v st fit (said_first v.page (f (state_over v s)) (g (f (state_over v s)).control) u)))

pub faithful_then : (p q : Split → Plan Split) (f g : Act) → Faithful p f → Faithful q g → Faithful (λ v. followed_by (p v) q) (and_then f g)
faithful_then p q f g h k = faithful_then_where any_view any_view p q f g h k (λ s v w st fit d. refl)

pub chosen : (s : ControlState) (v : Split) (next : Bool → Split → Plan Split) (f g : Act) (c : ControlState) (b : Bool) → (IsSaid v.page (f c) → Matches s v (end_by (answer_of s) (next true v)) (f c)) → (IsSaid v.page (g c) → Matches s v (end_by (answer_of s) (next false v)) (g c)) → IsSaid v.page (if b then f c else g c) → Matches s v (end_by (answer_of s) (next b v)) (if b then f c else g c)
chosen s v next f g c true h k u = h u
chosen s v next f g c false h k u = k u

pub faithful_test_where : (fits : Split → Bool) (t : Split → Plan Bool) (test : ControlState → Bool) (next : Bool → Split → Plan Split) (f g : Act) → FaithfulTest t test → FaithfulWhere fits (next true) f → FaithfulWhere fits (next false) g → FaithfulWhere fits (λ v. followed_by (t v) (λ b. next b v)) (choose test f g)
faithful_test_where fits t test next f g d h k = λ s v st fit u.
    let P : Result Split Crossing → Type 0 = λ e. Matches s v e (choose test f g (state_over v s)) in
    subst P (sym (end_then (answer_of s) (t v) (λ b. next b v) ∙ ap (λ e. on_end e (λ b. end_by (answer_of s) (next b v))) (d s v st)))
    (chosen s v next f g (state_over v s) (test (state_over v s)) (h s v st fit) (k s v st fit) u)

pub faithful_test : (t : Split → Plan Bool) (test : ControlState → Bool) (next : Bool → Split → Plan Split) (f g : Act) → FaithfulTest t test → Faithful (next true) f → Faithful (next false) g → Faithful (λ v. followed_by (t v) (λ b. next b v)) (choose test f g)
faithful_test t test next f g d h k = faithful_test_where any_view t test next f g d h k

pub faithful_nothing : Faithful (λ v. gives v) nothing_done
faithful_nothing = λ s v st fit u. record { control = refl; edits = sym (append-nil (map (named_edit s) v.edits)); own = refl; stands = st }
