-- One act after another, where it is known to which view the first has led.
use Rattle.std.specs.Prelude.{◌≡◌, ◌||◌, Result, Ok, Err, refl}
use Rattle.std.proofs.Common.{sym, subst, ap, ◌∙◌}
use Rattle.hp_control.specs.declared.question.Crossing.{Crossing}
use Rattle.hp_control.specs.States.{ControlState}
use Rattle.hp_control.specs.Truth.{answer_of}
use Rattle.hp_control.specs.Outcome.{Act, touches, and_then}
use Rattle.hp_control.specs.Plan.{Plan, followed_by, end_by}
use Rattle.hp_control.specs.Running.{on_end, end_then}
use Rattle.hp_control.specs.Faithful.{Split, state_over, StandsOn, IsDone, Matches, IsSaid, said_second, then_done, touches_after}

-- the second act's law where the first has led
abbrev pub Leads : ControlState → Split → Result Split Crossing → (Split → Plan Split) → Act → Act → Type 0
Leads s v e q f g = (w : Split) → e ≡ Ok w → IsDone s v w (f (state_over v s)) → IsSaid w.page (g (state_over w s)) → Matches s w (end_by (answer_of s) (q w)) (g (state_over w s))

then_ends : (s : ControlState) (v : Split) (q : Split → Plan Split) (f g : Act) (e : Result Split Crossing) → StandsOn s v → IsSaid v.page (and_then f g (state_over v s)) → Matches s v e (f (state_over v s)) → Leads s v e q f g → Matches s v (on_end e (λ w. end_by (answer_of s) (q w))) (and_then f g (state_over v s))
then_ends s v q f g (Err crossing) st u m k =
    let c = state_over v s in
    touches_after s crossing (f c) (g (f c).control) ∙ ap (λ t. t || touches s crossing (g (f c).control)) m
then_ends s v q f g (Ok w) st u m k =
    let c = state_over v s in
    let P : ControlState → Type 0 = λ d. IsSaid w.page (g d) → Matches s w (end_by (answer_of s) (q w)) (g d) in
    then_done s v w (f c) (g (f c).control) (end_by (answer_of s) (q w)) m
    (subst P m.control (k w refl m) (said_second v.page w.page v.change w.change s (f c) (g (f c).control) st.base m.stands.base u))

pub matches_then : (s : ControlState) (v : Split) (p : Plan Split) (q : Split → Plan Split) (f g : Act) → StandsOn s v → IsSaid v.page (and_then f g (state_over v s)) → Matches s v (end_by (answer_of s) p) (f (state_over v s)) → Leads s v (end_by (answer_of s) p) q f g → Matches s v (end_by (answer_of s) (followed_by p q)) (and_then f g (state_over v s))
matches_then s v p q f g st u m k =
    let P : Result Split Crossing → Type 0 = λ e. Matches s v e (and_then f g (state_over v s)) in
    subst P (sym (end_then (answer_of s) p q)) (then_ends s v q f g (end_by (answer_of s) p) st u m k)
