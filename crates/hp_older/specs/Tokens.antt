-- Tokens one after the other, over any older state.
use Rattle.std.specs.Prelude.{◌≡◌, false, true, List, [], ◌∷◌, ◌++◌, map, Result, Ok, Err}
use Rattle.hp_elements.specs.declared.token.Token.{Token}
use Rattle.hp_control.specs.declared.question.Crossing.{Crossing}
use Rattle.hp_control.specs.Agree.{AllTrue}
use Rattle.hp_control.specs.Apply.{named_edit}
use Rattle.hp_control.specs.Faithful.{Split, state_over}
use Rattle.hp_control.specs.Outcome.{touches, touches_any}
use Rattle.hp_control.specs.Plan.{Heard, Plan, Runs, asked_by, followed_by, gives}
use Rattle.hp_control.specs.States.{ControlState}
use Rattle.hp_groves.specs.Joining.{JoinTexts}
use Rattle.hp_model.specs.Texts.{each_at_once}
use Rattle.hp_model.specs.Turns.{Handled, left_by}
use Rattle.hp_acts.specs.HandlePlans.{handle_plan}
use Rattle.hp_older.specs.Over.{IsChunk, IsOver, MayCome}

-- what their handling asks of the older state, and changes
abbrev pub tokens_plan : List Token → Split → Plan Split
tokens_plan [] v = gives v
tokens_plan (t ∷ ts) v = followed_by (handle_plan t v) (λ r. tokens_plan ts r.split)

-- each of them may come
abbrev pub MayAllCome : ControlState → List Token → Type 0
MayAllCome s [] = Unit {0}
MayAllCome s (t ∷ ts) = MayCome s t × MayAllCome s ts

-- over s, tokens that mean this were handled from the view v, and nothing older was touched; the view w that they left is over s again
pub record AreDoneOver (s : ControlState) (v w : Split) (h : Handled) : Type 0 where
  pub control : state_over w s ≡ left_by h
  pub edits : JoinTexts (map (named_edit s) w.edits) (map (named_edit s) v.edits ++ h.outcome.edits)
  pub own : touches_any s h.outcome ≡ false
  pub over : IsOver s w
  pub chunk : IsChunk s v → IsChunk s w

abbrev pub ComeOver : ControlState → Split → Result Split Crossing → Handled → Type 0
ComeOver s v (Ok w) h = AreDoneOver s v w h
ComeOver s v (Err crossing) h = touches s crossing h.outcome ≡ true

-- Whatever carries out the plan of the tokens by answers that are true of s has handled them as the definition says, and touched nothing
-- older; or it crosses where something older is touched.
abbrev pub AllHandled : Type 0
AllHandled = (ts : List Token) (s : ControlState) (v : Split) (old new : Heard) (end : Result Split Crossing) → Runs old new (tokens_plan ts v) end → AllTrue s old.says (asked_by old.says (tokens_plan ts v))
    → IsOver s v → MayAllCome s ts → ComeOver s v end (each_at_once (state_over v s) ts)
