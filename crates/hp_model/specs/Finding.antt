-- What the acts of a row read: a current node, an element above the first, an original mode, a template mode at a template.
use Rattle.std.specs.Prelude.{ℕ, zero, suc, Bool, true, false, not, ◌&&◌, ◌||◌, if◌then◌else◌, List, [], ◌∷◌}
use Rattle.std.specs.List.{list_any}
use Rattle.std.specs.Option.{is_some}
use Rattle.hp_elements.specs.Rules.{Plan, ends, ◌⨾◌, when, unless, plan_for}
use Rattle.hp_elements.specs.Tokens.{kind_of}
use Rattle.hp_elements.specs.declared.act.Act.{Act as RowAct}
use Rattle.hp_elements.specs.declared.act.Act.TheVariants as act
use Rattle.hp_elements.specs.declared.token.Mode.{Mode}
use Rattle.hp_elements.specs.declared.token.Token.{Token}
use Rattle.hp_control.specs.Foreign.{is_foreign}
use Rattle.hp_control.specs.States.{ControlState, is_tall, is_template}
use Rattle.hp_rules_rest.specs.Foreign.{foreign}
use Rattle.hp_rules_rest.specs.Whole.{every_mode_rows}
use Rattle.hp_model.specs.Rows.{carry, carry_plan, mode_turn, nothing_more, rules}
use Rattle.hp_model.specs.Steps.{holds}
use Rattle.hp_model.specs.Turns.{Turn, goes_on, done, again, left_by}

abbrev pub is_empty : {X : Type 0} → List X → Bool
is_empty [] = true
is_empty (x ∷ xs) = false

abbrev pub has_current : ControlState → Bool
has_current c = not (is_empty c.stack)

-- whether what the act reads is there
abbrev pub finds : RowAct → ControlState → Bool
finds act.Characters c = has_current c
finds act.Replacement c = has_current c
finds act.Comment c = has_current c
finds act.CommentIntoFirst c = has_current c
finds act.AddMissingToFirst c = has_current c
finds act.AddMissingToBody c = has_current c
finds act.Insert c = has_current c
finds (act.InsertBare name) c = has_current c
finds act.InsertForeign c = has_current c
finds act.InsertAsCurrent c = has_current c
finds act.InsertHtml c = is_empty c.stack
finds act.InsertBareHtml c = is_empty c.stack
finds act.PushHead c = has_current c
finds act.Reconstruct c = has_current c
finds act.Pop c = has_current c
finds (act.PopTo names) c = has_current c
finds act.PopToFirst c = has_current c
finds act.PopToPoint c = has_current c
finds (act.Through which) c = has_current c
finds (act.ThroughFirstOf names) c = has_current c
finds act.ThroughForeign c = has_current c
finds act.Implied c = has_current c
finds (act.ImpliedExcept which) c = has_current c
finds act.ImpliedThoroughly c = has_current c
finds act.CloseParagraph c = has_current c
finds act.CloseItem c = has_current c
finds act.CloseDescription c = has_current c
finds act.Walk c = has_current c
finds act.DetachBody c = has_current c
finds act.TakeHeadOff c = has_current c
finds act.EndForm c = has_current c
finds act.CloseLink c = has_current c
finds (act.Adopt which) c = has_current c
finds act.Flush c = has_current c
finds act.AppendToList c = is_tall c.stack
finds act.HeadPointer c = is_tall c.stack
finds act.FormPointer c = is_tall c.stack
finds act.Reset c = has_current c && (not (list_any is_template c.stack) || not (is_empty c.templates))
finds act.ToOriginal c = is_some c.original
finds _ c = true

-- what is asked of the rest of a row, where it goes on
abbrev pub where_it_goes_on : Turn → (ControlState → Bool) → Bool
where_it_goes_on (goes_on h) rest = rest (left_by h)
where_it_goes_on (done h) rest = true
where_it_goes_on (again token h) rest = true

-- an act finds what it reads, and one that uses other rules, where their acts do
abbrev pub act_finds : (Bool → Mode → ControlState → Bool) → (ControlState → Bool) → Bool → RowAct → ControlState → Bool
act_finds follow_finds present_finds fostering (act.As m) c = follow_finds fostering m c
act_finds follow_finds present_finds fostering (act.AsFostered m) c = follow_finds true m c
act_finds follow_finds present_finds fostering act.AsPresent c = present_finds c
act_finds follow_finds present_finds fostering other c = finds other c

-- each act of a plan finds what it reads, in the state in which it is carried out
module _ (follow : Bool → Mode → ControlState → Turn) (present : ControlState → Turn) (follow_finds : Bool → Mode → ControlState → Bool) (present_finds : ControlState → Bool) (fostering : Bool) (t : Token) where
  abbrev pub plan_finds : Plan → ControlState → Bool
  plan_finds ends c = true
  plan_finds (a ⨾ plan) c = act_finds follow_finds present_finds fostering a c && where_it_goes_on (carry follow present fostering t a c) (plan_finds plan)
  plan_finds (when test plan rest) c = if holds t test c then plan_finds plan c && where_it_goes_on (carry_plan follow present fostering t plan c) (plan_finds rest) else plan_finds rest c
  plan_finds (unless test plan rest) c = if holds t test c then plan_finds rest c else plan_finds plan c && where_it_goes_on (carry_plan follow present fostering t plan c) (plan_finds rest)

abbrev pub nothing_missing : ControlState → Bool
nothing_missing c = true

unfoldable pub rules_find : ℕ → Token → Bool → Mode → ControlState → Bool
rules_find zero t fostering m c = true
rules_find (suc depth) t fostering m c = plan_finds (rules depth t) nothing_more (rules_find depth t) nothing_missing fostering t (plan_for (every_mode_rows m) (kind_of t)) c

-- each act of a turn finds what it reads
unfoldable pub turn_finds : Token → ControlState → Bool
turn_finds t c =
    if is_foreign (kind_of t) c.stack
    then plan_finds (rules 4 t) (mode_turn t c.mode) (rules_find 4 t) (rules_find 4 t false c.mode) false t (plan_for foreign (kind_of t)) c
    else rules_find 4 t false c.mode c
