-- The laws of this crate: a view that begins over any older state, and what is handled and asked over it, as long as nothing older
-- is touched (13.2.6).
use Rattle.std.specs.Prelude.{◌≡◌, ℕ, ◌<◌, Bool, true, false, List, [], ◌∷◌, ◌++◌, length, map, None, Result, Ok, Err}
use Rattle.std.specs.List.{list_all}
use Rattle.std.specs.Option.{unwrap_or}
use Rattle.hp_elements.specs.declared.kinds.Kinds.TheVariants as kinds
use Rattle.hp_elements.specs.declared.token.Token.{Token}
use Rattle.hp_tokens.specs.Plain.{none_of}
use Rattle.hp_tokens.specs.Rows.{character}
use Rattle.hp_control.specs.declared.edit.Edit.{Edit}
use Rattle.hp_control.specs.declared.question.Answer.{Answer}
use Rattle.hp_control.specs.declared.question.Crossing.{Crossing}
use Rattle.hp_control.specs.declared.question.Question.{Question}
use Rattle.hp_control.specs.declared.question.Question.TheVariants as ask
use Rattle.hp_control.specs.Agree.{AllTrue}
use Rattle.hp_control.specs.Apply.{named_edit}
use Rattle.hp_control.specs.Composed.{is_foreign_now}
use Rattle.hp_control.specs.Faithful.{Split, StandsOn, state_over}
use Rattle.hp_control.specs.Nothing.{nothing}
use Rattle.hp_control.specs.Outcome.{touches, touches_any}
use Rattle.hp_control.specs.Plan.{Heard, Runs, asked_by}
use Rattle.hp_control.specs.States.{ControlState, Fits, IsValid, is_rooted}
use Rattle.hp_control.specs.Truth.{answer_of}
use Rattle.hp_groves.specs.Joining.{JoinTexts}
use Rattle.hp_views.specs.Asking.{ask_last_tag}
use Rattle.hp_views.specs.BeginLaws.{IsResting}
use Rattle.hp_views.specs.Begins.{begins}
use Rattle.hp_views.specs.SecondPlans.{foreign_now_plan}
use Rattle.hp_views.specs.StackPlans.{current_is_plan}
use Rattle.hp_model.specs.AtOnce.{handle_at_once}
use Rattle.hp_model.specs.Growth.{IsInside}
use Rattle.hp_model.specs.Texts.{TakesText, as_run, each_at_once}
use Rattle.hp_model.specs.Turns.{Handled as Meant, left_by}
use Rattle.hp_model.specs.Whole.{IsRead}
use Rattle.hp_acts.specs.declared.turns.Handled.{Handled}
use Rattle.hp_acts.specs.HandlePlans.{handle_plan}
use Rattle.hp_acts.specs.Plain.{may_take_text, takes_text}
use Rattle.hp_acts.specs.RowPlans.{Reached}
use Rattle.hp_acts.specs.Told.{is_told_at_once}
use Rattle.hp_older.specs.GoesOn.{GoesOn}
use Rattle.hp_older.specs.Over.{IsChunk, IsOver, MayCome}

-- a valid state goes on from itself
abbrev pub Begins : Type 0
Begins = (s : ControlState) → IsValid s → GoesOn s s

-- the view begins over s: it is that state, and that of a chunk where html is open
pub record IsBegun (s : ControlState) (v : Split) : Type 0 where
  pub same : state_over v s ≡ s
  pub over : IsOver s v
  pub chunk : is_rooted s.stack ≡ true → IsChunk s v

-- where a guessed view begins, over any valid state that fits, told truly and to be at rest
abbrev pub ViewsBegin : Type 0
ViewsBegin = (s : ControlState) (told : Answer) → IsValid s → Fits s → answer_of s ask.Entry ≡ told → IsResting told → IsBegun s (begins told)

-- a view that is a valid state
abbrev pub KnownBegin : Type 0
KnownBegin = (v : Split) → StandsOn nothing v → IsValid (state_over v nothing) → IsOver nothing v

-- a view over s is a valid state there
abbrev pub AreValid : Type 0
AreValid = (s : ControlState) (v : Split) → IsOver s v → IsValid (state_over v s)

-- its edits may be taken out of it
abbrev pub StayUnedited : Type 0
StayUnedited = (s : ControlState) (v : Split) (es : List Edit) → IsOver s v → IsOver s (record v { edits = es })

-- the handling of each token of a chunk but the end of input is told, up to the first act that touches something older
abbrev pub TokensTold : Type 0
TokensTold = (t : Token) (s : ControlState) (v : Split) → IsChunk s v → IsRead t → IsInside t → is_told_at_once s t (state_over v s) ≡ true

-- and where nothing older is touched, what it leaves goes on from s
abbrev pub TokensGoOn : Type 0
TokensGoOn = (t : Token) (s : ControlState) (v : Split) → IsChunk s v → IsRead t → IsInside t → touches_any s (handle_at_once (state_over v s) t).outcome ≡ false → GoesOn s (left_by (handle_at_once (state_over v s) t))

-- over s, what means this was handled from the view v, and nothing older was touched; the view w that it left is over s again
pub record IsDoneOver (s : ControlState) (v w : Split) (handled : Handled) (h : Meant) : Type 0 where
  pub control : state_over w s ≡ left_by h
  pub edits : JoinTexts (map (named_edit s) w.edits) (map (named_edit s) v.edits ++ h.outcome.edits)
  pub switch : handled.switch ≡ h.switch
  pub stopped : handled.stopped ≡ h.stopped
  pub own : touches_any s h.outcome ≡ false
  pub over : IsOver s w
  pub chunk : IsChunk s v → IsChunk s w
  pub unpaged : v.page ≡ None → w.page ≡ None

-- it was handled so, or something older is touched by that crossing
abbrev pub ComesOver : ControlState → Split → Result Reached Crossing → Meant → Type 0
ComesOver s v (Ok r) h = IsDoneOver s v r.split r.handled h
ComesOver s v (Err crossing) h = touches s crossing h.outcome ≡ true

-- Whatever carries out the plan of handling by answers that are true of s has handled the token as the definition says, or it crosses
-- where something older is touched.
abbrev pub TokensHandled : Type 0
TokensHandled = (t : Token) (s : ControlState) (v : Split) (old new : Heard) (end : Result Reached Crossing) → Runs old new (handle_plan t v) end → AllTrue s old.says (asked_by old.says (handle_plan t v))
    → IsOver s v → MayCome s t → ComesOver s v end (handle_at_once (state_over v s) t)

-- a text that a view takes as it comes goes into the current node of its state
abbrev pub TextsTaken : Type 0
TextsTaken = (s : ControlState) (v : Split) → takes_text v ≡ true → TakesText (state_over v s)

-- so does one where nothing own is open, if it is told truly that the older current node is HTML
abbrev pub TextsTakenBelow : Type 0
TextsTakenBelow = (text : List ℕ) (s : ControlState) (v : Split) (old new : Heard) → may_take_text v ≡ true → Runs old new (current_is_plan kinds.AnyHtml v) (Ok true) → AllTrue s old.says (asked_by old.says (handle_plan (as_run text) v))
    → IsOver s v → TakesText (state_over v s)

-- a text without U+0000 that the state takes so, handled as one run, is its code points, one by one
abbrev pub TextsHandled : Type 0
TextsHandled = (text : List ℕ) (s : ControlState) (v : Split) (old new : Heard) (end : Result Reached Crossing) → Runs old new (handle_plan (as_run text) v) end → AllTrue s old.says (asked_by old.says (handle_plan (as_run text) v))
    → IsOver s v → TakesText (state_over v s) → list_all (none_of (0 ∷ [])) text ≡ true → 0 < length text → ComesOver s v end (each_at_once (state_over v s) (map character text))

-- what is found out of the current node, by answers that are true of s, is so of the whole state
abbrev pub ForeignTold : Type 0
ForeignTold = (s : ControlState) (v : Split) (old new : Heard) (foreign : Bool) → Runs old new (foreign_now_plan v) (Ok foreign) → AllTrue s old.says (asked_by old.says (foreign_now_plan v))
    → IsOver s v → foreign ≡ is_foreign_now (state_over v s)

-- and the name of the last start tag is that of s
abbrev pub LastTagTold : Type 0
LastTagTold = (s : ControlState) (old new : Heard) (name : List ℕ) → Runs old new ask_last_tag (Ok name) → AllTrue s old.says (asked_by old.says ask_last_tag) → name ≡ unwrap_or s.lex.machine.last_tag []

-- the answers that s gives are true of it
abbrev pub OwnTrue : Type 0
OwnTrue = (s : ControlState) (qs : List Question) → AllTrue s (answer_of s) qs
