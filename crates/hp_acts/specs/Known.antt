-- Over a known state: a token is handled as the definition says, from that state and at once, and nothing crosses (13.2.6).
use Rattle.std.specs.Prelude.{◌≡◌, ◌++◌, map, Result, Ok, Err}
use Rattle.hp_elements.specs.declared.token.Token.{Token}
use Rattle.hp_control.specs.declared.change.Refusal.{Refusal}
use Rattle.hp_control.specs.declared.change.Refusal.TheVariants.{Crossed, NoMemory}
use Rattle.hp_control.specs.declared.question.Crossing.{Crossing}
use Rattle.hp_control.specs.Apply.{named_edit}
use Rattle.hp_control.specs.Faithful.{Split, StandsOn, state_over}
use Rattle.hp_control.specs.Nothing.{nothing}
use Rattle.hp_control.specs.Plan.{Heard, Runs}
use Rattle.hp_control.specs.States.{IsValid}
use Rattle.hp_control.specs.Truth.{answer_of}
use Rattle.hp_groves.specs.Joining.{JoinTexts}
use Rattle.hp_views.specs.View.{Sight}
use Rattle.hp_model.specs.AtOnce.{handle_at_once}
use Rattle.hp_model.specs.Turns.{Handled as Meant, left_by}
use Rattle.hp_model.specs.Whole.{IsRead}
use Rattle.hp_acts.specs.declared.turns.Handled.{Handled}
use Rattle.hp_acts.specs.HandlePlans.{handle_plan}
use Rattle.hp_acts.specs.RowPlans.{Reached}

-- from the view v a token that means this was handled, which left w
pub record IsHandledWhole (v w : Split) (handled : Handled) (h : Meant) : Type 0 where
  pub control : state_over w nothing ≡ left_by h
  pub edits : JoinTexts (map (named_edit nothing) w.edits) (map (named_edit nothing) v.edits ++ h.outcome.edits)
  pub switch : handled.switch ≡ h.switch
  pub stopped : handled.stopped ≡ h.stopped
  pub stands : StandsOn nothing w

-- that was done, or memory is wanting
abbrev pub LeavesWhole : Token → Split → Result Handled Refusal → Split → Type 0
LeavesWhole t v (Ok handled) w = IsHandledWhole v w handled (handle_at_once (state_over v nothing) t)
LeavesWhole t v (Err NoMemory) w = Unit {0}
LeavesWhole t v (Err (Crossed crossing)) w = ⊥

-- for a view that is a valid state, and a token as the lexer reads it
abbrev pub HandlesKnown : Token → Result Handled Refusal → Sight → Sight → Type 0
HandlesKnown t result old new = old.heard.says ≡ answer_of nothing → StandsOn nothing old.split → IsValid (state_over old.split nothing) → IsRead t → LeavesWhole t old.split result new.split

abbrev pub EndsWhole : Token → Split → Result Reached Crossing → Type 0
EndsWhole t v (Ok r) = IsHandledWhole v r.split r.handled (handle_at_once (state_over v nothing) t)
EndsWhole t v (Err crossing) = ⊥

-- whatever carries out the plan of handling has done that
abbrev pub KnownHandled : Type 0
KnownHandled = (t : Token) (v : Split) (old new : Heard) (end : Result Reached Crossing) → old.says ≡ answer_of nothing → Runs old new (handle_plan t v) end
    → StandsOn nothing v → IsValid (state_over v nothing) → IsRead t → EndsWhole t v end
