-- An act that makes no edit: what it does to the parts of a view it does to the whole state.
use Rattle.std.specs.Prelude.{◌≡◌, ℕ, zero, suc, ◌<◌, Bool, true, false, ◌||◌, List, [], Option, Some, None, map, drop, length, refl, nat_lt}
use Rattle.std.proofs.Common.{sym, subst, ap, ◌∙◌}
use Rattle.std.proofs.lemmas.Bool.{lt-ltb}
use Rattle.std.proofs.lemmas.List.{append-nil}
use Rattle.hp_control.specs.declared.change.Change.{Change}
use Rattle.hp_control.specs.declared.edit.Edit.{Edit}
use Rattle.hp_control.specs.States.{ControlState}
use Rattle.hp_control.specs.Nothing.{nothing}
use Rattle.hp_control.specs.Apply.{applied, named_edit}
use Rattle.hp_control.specs.Outcome.{Outcome, Touch, becomes, is_older, touches_any}
use Rattle.hp_control.specs.Acts.{touching}
use Rattle.hp_control.specs.Faithful.{Page, Split, with_page, state_over, IsBase, StandsOn, IsDone}
use Rattle.hp_views.specs.FieldPlans.{with_change}

-- a view of its parts
abbrev pub view : Change → List Edit → Bool → Option Page → Split
view c edits text page = record { change = c; edits = edits; older_text = text; page = page }

pub drop_none : {X : Type 0} (n : ℕ) → drop {A = X} n [] ≡ []
drop_none zero = refl
drop_none (suc n) = refl

-- a function of the state that leaves the page's facts alone, and doesn't read them
abbrev pub Keeps : (ControlState → ControlState) → Type 0
Keeps f = (p : Page) (c : ControlState) → f (with_page (Some p) c) ≡ with_page (Some p) (f c)

pub paged : (page : Option Page) (f : ControlState → ControlState) (c : ControlState) → Keeps f → with_page page (f c) ≡ f (with_page page c)
paged None f c k = refl
paged (Some p) f c k = sym (k p c)

-- what the page's facts are no part of
pub paged_part : {X : Type 0} (page : Option Page) (f : ControlState → X) (c : ControlState) → ((p : Page) (d : ControlState) → f (with_page (Some p) d) ≡ f d) → f (with_page page c) ≡ f c
paged_part None f c k = refl
paged_part (Some p) f c k = k p c

-- as much is left of the older stack
pub base_kept : (page : Option Page) (c d : Change) (s : ControlState) → d.popped ≡ c.popped → IsBase page c s → IsBase page d s
base_kept None c d s e h = record { rooted = h.rooted; left = (let P : ℕ → Type 0 = λ n. n < length s.stack in subst P (sym e) h.left); made = h.made }
base_kept (Some p) c d s e h = h

pub stands_kept : (s : ControlState) (v : Split) (d : Change) → d.popped ≡ v.change.popped → StandsOn s v → StandsOn s (with_change d v)
stands_kept s v d e st = record { older = st.older; text = st.text; base = base_kept v.page v.change d s e st.base }

-- the same control state, told otherwise
pub done_as : (s : ControlState) (v : Split) (d : Change) (c : ControlState) → StandsOn s (with_change d v) → with_page v.page (applied d s) ≡ c → IsDone s v (with_change d v) (becomes c)
done_as s v d c st e = record { control = e; edits = sym (append-nil (map (named_edit s) v.edits)); own = refl; stands = st }

pub quiet : (s : ControlState) (v : Split) (d : Change) (f : ControlState → ControlState) → StandsOn s v → d.popped ≡ v.change.popped → Keeps f → applied d s ≡ f (applied v.change s) → IsDone s v (with_change d v) (becomes (f (state_over v s)))
quiet s v d f st p k e = done_as s v d (f (state_over v s)) (stands_kept s v d p st) (ap (with_page v.page) e ∙ paged v.page f (applied v.change s) k)

also_none : (b : Bool) (touched : Bool) → b ≡ false → touched ≡ false → (b || touched) ≡ false
also_none false touched e h = h
also_none true touched e h = absurd (cc)

-- what was touched is the view's own
pub own_touch : (s : ControlState) (v w : Split) (t : Touch) (o : Outcome) → is_older s t ≡ false → IsDone s v w o → IsDone s v w (touching t o)
own_touch s v w t o e d = record { control = d.control; edits = d.edits; own = also_none (is_older s t) (touches_any s o) e d.own; stands = d.stands }

-- a state of a page has an element
pub page_there : (c : Change) (s : ControlState) → IsBase None c s → nat_lt 0 s.next ≡ true
page_there c s h = lt-ltb 0 s.next h.made

pub none_there : (s : ControlState) → s ≡ nothing → nat_lt 0 s.next ≡ false
none_there s e = ap (λ (t : ControlState). nat_lt 0 t.next) e
