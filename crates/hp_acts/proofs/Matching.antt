-- What it means that the handling of a token over an older state has got as far as the definition says, step after step.
use Rattle.std.proofs.Common.{◌≡◌, List, [], ◌++◌, Bool, true, false, ◌||◌, Option, None, Some, refl, sym, ap, ◌∙◌, subst, append_assoc, append-nil}
use Rattle.std.specs.Prelude.{Result, Ok, Err, map}
use Rattle.std.proofs.Math.Bool.{or-true}
use Rattle.hp_elements.specs.declared.token.Rest.{Rest}
use Rattle.hp_control.specs.declared.edit.Edit.{Edit}
use Rattle.hp_control.specs.declared.question.Crossing.{Crossing}
use Rattle.hp_control.specs.Apply.{named_edit}
use Rattle.hp_control.specs.Faithful.{Split, IsDone, Matches, StandsOn, any_after, state_over, touches_after}
use Rattle.hp_control.specs.Outcome.{Outcome, after, touches, touches_any}
use Rattle.hp_control.specs.States.{ControlState}
use Rattle.hp_groves.specs.Joining.{JoinTexts, Same, Through}
use Rattle.hp_groves.proofs.Joined.{one_by_one-join}
use Rattle.hp_model.proofs.JoinedTexts.{join-equal}
use Rattle.hp_model.specs.Turns.{Handled, Turn, goes_on, done, again, before, and_then, as_part, joined, later, left_by, unchanged}
use Rattle.hp_acts.specs.RowPlans.{Reached, Came}
use Rattle.hp_acts.specs.RowPlans.{left as came_left, again as came_again}

-- over s, the view went from v to w as the outcome says, its edits but for how texts are joined
pub record IsDoneAlike (s : ControlState) (v w : Split) (o : Outcome) : Type 0 where
  pub control : state_over w s ≡ o.control
  pub edits : JoinTexts (map (named_edit s) w.edits) (map (named_edit s) v.edits ++ o.edits)
  pub own : touches_any s o ≡ false
  pub stands : StandsOn s w

abbrev pub MatchesAlike : ControlState → Split → Result Split Crossing → Outcome → Type 0
MatchesAlike s v (Ok w) o = IsDoneAlike s v w o
MatchesAlike s v (Err crossing) o = touches s crossing o ≡ true

done_alike : (s : ControlState) (v w : Split) (o : Outcome) → IsDone s v w o → IsDoneAlike s v w o
done_alike s v w o d = record { control = d.control; edits = join-equal (map (named_edit s) w.edits) (map (named_edit s) v.edits ++ o.edits) d.edits; own = d.own; stands = d.stands }

pub matches_alike : (s : ControlState) (v : Split) (end : Result Split Crossing) (o : Outcome) → Matches s v end o → MatchesAlike s v end o
matches_alike s v (Ok w) o m = done_alike s v w o m
matches_alike s v (Err crossing) o m = m

pub either : (a b : Bool) → a ≡ false → b ≡ false → (a || b) ≡ false
either false b h k = k
either true b h k = absurd (cc)

pub alike_after : (s : ControlState) (u v w : List Edit) (o p : Outcome) → JoinTexts v (u ++ o.edits) → JoinTexts w (v ++ p.edits) → JoinTexts w (u ++ (after o p).edits)
alike_after s u v w o p h k =
    Through w (v ++ p.edits) (u ++ (after o p).edits) k (subst (JoinTexts (v ++ p.edits)) (append_assoc u o.edits p.edits) (one_by_one-join v (u ++ o.edits) p.edits p.edits h (Same p.edits)))

pub done_after : (s : ControlState) (u v w : Split) (o p : Outcome) → IsDoneAlike s u v o → IsDoneAlike s v w p → IsDoneAlike s u w (after o p)
done_after s u v w o p d e = record {
  control = e.control;
  edits = alike_after s (map (named_edit s) u.edits) (map (named_edit s) v.edits) (map (named_edit s) w.edits) o p d.edits e.edits;
  own = any_after s o p ∙ either (touches_any s o) (touches_any s p) d.own e.own;
  stands = e.stands;
}

-- the handling got from d to e as the definition says, which did this
pub record IsHandled (s : ControlState) (d e : Reached) (h : Handled) : Type 0 where
  pub done : IsDoneAlike s d.split e.split h.outcome
  pub switch : e.handled.switch ≡ later d.handled.switch h.switch
  pub stopped : e.handled.stopped ≡ (d.handled.stopped || h.stopped)

later_after : (a b c : Option Rest) → later (later a b) c ≡ later a (later b c)
later_after a b (Some r) = refl
later_after a b None = refl

or_after : (a b c : Bool) → ((a || b) || c) ≡ (a || (b || c))
or_after true b c = refl
or_after false b c = refl

pub handled_after : (s : ControlState) (d e f : Reached) (h k : Handled) → IsHandled s d e h → IsHandled s e f k → IsHandled s d f (joined h k)
handled_after s d e f h k x y = record {
  done = done_after s d.split e.split f.split h.outcome k.outcome x.done y.done;
  switch = y.switch ∙ (ap (λ a. later a k.switch) x.switch ∙ later_after d.handled.switch h.switch k.switch);
  stopped = y.stopped ∙ (ap (λ a. a || k.stopped) x.stopped ∙ or_after d.handled.stopped h.stopped k.stopped);
}

-- nothing was done
pub no_touch : (b : Bool) → (b || false) ≡ b
no_touch true = refl
no_touch false = refl

pub nothing_handled : (s : ControlState) (d : Reached) → StandsOn s d.split → IsHandled s d d (unchanged (state_over d.split s))
nothing_handled s d st = record {
  done = record { control = refl; edits = join-equal (map (named_edit s) d.split.edits) (map (named_edit s) d.split.edits ++ []) (sym (append-nil (map (named_edit s) d.split.edits))); own = refl; stands = st };
  switch = refl;
  stopped = sym (no_touch d.handled.stopped);
}

-- what a turn did
abbrev pub made_by : Turn → Outcome
made_by (goes_on h) = h.outcome
made_by (done h) = h.outcome
made_by (again t h) = h.outcome

-- the end of a row is that of the definition's turn, or something older was touched
abbrev pub MatchesTurn : ControlState → Reached → Result Came Crossing → Turn → Type 0
MatchesTurn s d (Ok (came_left e)) (goes_on h) = IsHandled s d e h
MatchesTurn s d (Ok (came_left e)) (done h) = IsHandled s d e h
MatchesTurn s d (Ok (came_left e)) (again u h) = ⊥
MatchesTurn s d (Ok (came_again t e)) (goes_on h) = ⊥
MatchesTurn s d (Ok (came_again t e)) (done h) = ⊥
MatchesTurn s d (Ok (came_again t e)) (again u h) = (t ≡ u) × IsHandled s d e h
MatchesTurn s d (Err crossing) u = touches s crossing (made_by u) ≡ true

-- a touch stays one
pub touched_first : (s : ControlState) (crossing : Crossing) (o p : Outcome) → touches s crossing o ≡ true → touches s crossing (after o p) ≡ true
touched_first s crossing o p h = touches_after s crossing o p ∙ ap (λ b. b || touches s crossing p) h

pub touched_second : (s : ControlState) (crossing : Crossing) (o p : Outcome) → touches s crossing p ≡ true → touches s crossing (after o p) ≡ true
touched_second s crossing o p h = touches_after s crossing o p ∙ (ap (λ b. touches s crossing o || b) h ∙ or-true (touches s crossing o))

pub touched_before : (s : ControlState) (crossing : Crossing) (h : Handled) (u : Turn) → touches s crossing h.outcome ≡ true → touches s crossing (made_by (before h u)) ≡ true
touched_before s crossing h (goes_on k) m = touched_first s crossing h.outcome k.outcome m
touched_before s crossing h (done k) m = touched_first s crossing h.outcome k.outcome m
touched_before s crossing h (again t k) m = touched_first s crossing h.outcome k.outcome m

pub touched_then : (s : ControlState) (crossing : Crossing) (u : Turn) (f : ControlState → Turn) → touches s crossing (made_by u) ≡ true → touches s crossing (made_by (and_then u f)) ≡ true
touched_then s crossing (goes_on h) f m = touched_before s crossing h (f (left_by h)) m
touched_then s crossing (done h) f m = m
touched_then s crossing (again t h) f m = m

touched_part : (s : ControlState) (crossing : Crossing) (u : Turn) → touches s crossing (made_by u) ≡ true → touches s crossing (made_by (as_part u)) ≡ true
touched_part s crossing (goes_on h) m = m
touched_part s crossing (done h) m = m
touched_part s crossing (again t h) m = m

pub touched_part_then : (s : ControlState) (crossing : Crossing) (u : Turn) (f : ControlState → Turn) → touches s crossing (made_by u) ≡ true → touches s crossing (made_by (and_then (as_part u) f)) ≡ true
touched_part_then s crossing u f m = touched_then s crossing (as_part u) f (touched_part s crossing u m)

touched_behind : (s : ControlState) (crossing : Crossing) (h : Handled) (u : Turn) → touches s crossing (made_by u) ≡ true → touches s crossing (made_by (before h u)) ≡ true
touched_behind s crossing h (goes_on k) m = touched_second s crossing h.outcome k.outcome m
touched_behind s crossing h (done k) m = touched_second s crossing h.outcome k.outcome m
touched_behind s crossing h (again t k) m = touched_second s crossing h.outcome k.outcome m

-- what was handled, and then a turn from there
pub matches_before : (s : ControlState) (d e : Reached) (h : Handled) (end : Result Came Crossing) (u : Turn) → IsHandled s d e h → MatchesTurn s e end u → MatchesTurn s d end (before h u)
matches_before s d e h (Err crossing) u x m = touched_behind s crossing h u m
matches_before s d e h (Ok (came_left f)) (goes_on k) x m = handled_after s d e f h k x m
matches_before s d e h (Ok (came_left f)) (done k) x m = handled_after s d e f h k x m
matches_before s d e h (Ok (came_left f)) (again t k) x m = absurd m
matches_before s d e h (Ok (came_again t f)) (goes_on k) x m = absurd m
matches_before s d e h (Ok (came_again t f)) (done k) x m = absurd m
matches_before s d e h (Ok (came_again t f)) (again u k) x m = (m.0, handled_after s d e f h k x m.1)

-- turns in three parts
joined_after : (h k l : Handled) → joined (joined h k) l ≡ joined h (joined k l)
joined_after h k l =
    ap (λ es. record { outcome = record { control = l.outcome.control; edits = es; touched = (h.outcome.touched ++ k.outcome.touched) ++ l.outcome.touched; spared = (h.outcome.spared || k.outcome.spared) || l.outcome.spared }; switch = later (later h.switch k.switch) l.switch; stopped = (h.stopped || k.stopped) || l.stopped }) (append_assoc h.outcome.edits k.outcome.edits l.outcome.edits)
    ∙ (ap (λ ts. record { outcome = record { control = l.outcome.control; edits = h.outcome.edits ++ (k.outcome.edits ++ l.outcome.edits); touched = ts; spared = (h.outcome.spared || k.outcome.spared) || l.outcome.spared }; switch = later (later h.switch k.switch) l.switch; stopped = (h.stopped || k.stopped) || l.stopped }) (append_assoc h.outcome.touched k.outcome.touched l.outcome.touched)
    ∙ (ap (λ b. record { outcome = record { control = l.outcome.control; edits = h.outcome.edits ++ (k.outcome.edits ++ l.outcome.edits); touched = h.outcome.touched ++ (k.outcome.touched ++ l.outcome.touched); spared = b }; switch = later (later h.switch k.switch) l.switch; stopped = (h.stopped || k.stopped) || l.stopped }) (or_after h.outcome.spared k.outcome.spared l.outcome.spared)
    ∙ (ap (λ o. record { outcome = after h.outcome (after k.outcome l.outcome); switch = o; stopped = (h.stopped || k.stopped) || l.stopped }) (later_after h.switch k.switch l.switch)
    ∙ ap (λ b. record { outcome = after h.outcome (after k.outcome l.outcome); switch = later h.switch (later k.switch l.switch); stopped = b }) (or_after h.stopped k.stopped l.stopped))))

before_before : (h k : Handled) (u : Turn) → before (joined h k) u ≡ before h (before k u)
before_before h k (goes_on l) = ap goes_on (joined_after h k l)
before_before h k (done l) = ap done (joined_after h k l)
before_before h k (again t l) = ap (again t) (joined_after h k l)

before_then : (h : Handled) (u : Turn) (f : ControlState → Turn) → before h (and_then u f) ≡ and_then (before h u) f
before_then h (goes_on k) f = sym (before_before h k (f (left_by k)))
before_then h (done k) f = refl
before_then h (again t k) f = refl

pub then_then : (u : Turn) (f g : ControlState → Turn) → and_then u (λ c. and_then (f c) g) ≡ and_then (and_then u f) g
then_then (goes_on h) f g = before_then h (f (left_by h)) g
then_then (done h) f g = refl
then_then (again t h) f g = refl

-- behind a turn nothing more is done
joined_last : (h : Handled) → joined h (unchanged (left_by h)) ≡ h
joined_last h =
    ap (λ es. record { outcome = record { control = h.outcome.control; edits = es; touched = h.outcome.touched ++ []; spared = h.outcome.spared || false }; switch = h.switch; stopped = h.stopped || false }) (append-nil h.outcome.edits)
    ∙ (ap (λ ts. record { outcome = record { control = h.outcome.control; edits = h.outcome.edits; touched = ts; spared = h.outcome.spared || false }; switch = h.switch; stopped = h.stopped || false }) (append-nil h.outcome.touched)
    ∙ (ap (λ b. record { outcome = record { control = h.outcome.control; edits = h.outcome.edits; touched = h.outcome.touched; spared = b }; switch = h.switch; stopped = h.stopped || false }) (no_touch h.outcome.spared)
    ∙ ap (λ b. record { outcome = h.outcome; switch = h.switch; stopped = b }) (no_touch h.stopped)))

pub then_nothing : (u : Turn) → and_then u (λ c. goes_on (unchanged c)) ≡ u
then_nothing (goes_on h) = ap goes_on (joined_last h)
then_nothing (done h) = refl
then_nothing (again t h) = refl
