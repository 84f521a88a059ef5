-- Over any older state: a token is handled as the definition says, from the whole state and at once, or it crosses where
-- something older is touched (13.2.6).
use Rattle.std.specs.Prelude.{◌≡◌, true, false, ◌++◌, map, Result, Ok, Err}
use Rattle.hp_elements.specs.declared.token.Token.{Token}
use Rattle.hp_control.specs.declared.question.Crossing.{Crossing}
use Rattle.hp_control.specs.Agree.{AllTrue}
use Rattle.hp_control.specs.Apply.{named_edit}
use Rattle.hp_control.specs.Faithful.{Split, StandsOn, state_over}
use Rattle.hp_control.specs.Outcome.{touches, touches_any}
use Rattle.hp_control.specs.Plan.{Heard, Runs, asked_by}
use Rattle.hp_control.specs.States.{ControlState, IsValid}
use Rattle.hp_groves.specs.Joining.{JoinTexts}
use Rattle.hp_model.specs.AtOnce.{handle_at_once}
use Rattle.hp_model.specs.Turns.{Handled as Meant, left_by}
use Rattle.hp_model.specs.Whole.{IsRead}
use Rattle.hp_acts.specs.declared.turns.Handled.{Handled}
use Rattle.hp_acts.specs.HandlePlans.{handle_plan}
use Rattle.hp_acts.specs.RowPlans.{Reached}
use Rattle.hp_acts.specs.Told.{is_told_at_once}

-- over s, from the view v a token that means this was handled, which left w and touched nothing older
pub record IsHandledOver (s : ControlState) (v w : Split) (handled : Handled) (h : Meant) : Type 0 where
  pub control : state_over w s ≡ left_by h
  pub edits : JoinTexts (map (named_edit s) w.edits) (map (named_edit s) v.edits ++ h.outcome.edits)
  pub switch : handled.switch ≡ h.switch
  pub stopped : handled.stopped ≡ h.stopped
  pub own : touches_any s h.outcome ≡ false
  pub stands : StandsOn s w

-- it was handled so; or it touches something older by that crossing
abbrev pub EndsOver : ControlState → Split → Result Reached Crossing → Meant → Type 0
EndsOver s v (Ok r) h = IsHandledOver s v r.split r.handled h
EndsOver s v (Err crossing) h = touches s crossing h.outcome ≡ true

-- Whatever carries out the plan of handling by answers that are true of s has done that, where the token's handling is told.
abbrev pub OlderHandled : Type 0
OlderHandled = (t : Token) (v : Split) (old new : Heard) (end : Result Reached Crossing) (s : ControlState) → Runs old new (handle_plan t v) end → AllTrue s old.says (asked_by old.says (handle_plan t v))
    → StandsOn s v → IsValid (state_over v s) → IsRead t → is_told_at_once s t (state_over v s) ≡ true
    → EndsOver s v end (handle_at_once (state_over v s) t)
