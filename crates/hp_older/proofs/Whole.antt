-- Tokens one after the other over any older state, by induction.
use Rattle.std.proofs.Common.{◌≡◌, List, [], ◌∷◌, ◌++◌, true, refl, sym, ◌∙◌, subst, append-nil}
use Rattle.std.specs.Prelude.{Result, Ok, Err, map}
use Rattle.hp_elements.specs.declared.token.Token.{Token}
use Rattle.hp_control.specs.declared.question.Crossing.{Crossing}
use Rattle.hp_control.specs.Apply.{named_edit}
use Rattle.hp_control.specs.Faithful.{Split, any_after, state_over}
use Rattle.hp_control.specs.Outcome.{touches, touches_any}
use Rattle.hp_control.specs.Plan.{end_by}
use Rattle.hp_control.specs.Running.{on_end, end_then}
use Rattle.hp_control.specs.States.{ControlState}
use Rattle.hp_control.specs.Truth.{answer_of}
use Rattle.hp_model.proofs.JoinedTexts.{join-equal}
use Rattle.hp_model.specs.AtOnce.{handle_at_once}
use Rattle.hp_model.specs.Texts.{each_at_once}
use Rattle.hp_model.specs.Turns.{Handled, left_by}
use Rattle.hp_acts.specs.HandlePlans.{handle_plan}
use Rattle.hp_acts.specs.RowPlans.{Reached}
use Rattle.hp_acts.proofs.Matching.{alike_after, either, touched_first, touched_second}
use Rattle.hp_older.specs.Laws.{ComesOver, IsDoneOver}
use Rattle.hp_older.specs.Over.{IsOver}
use Rattle.hp_older.specs.Tokens.{AllHandled, AreDoneOver, ComeOver, MayAllCome, tokens_plan}
use Rattle.hp_older.proofs.Tokens.{over_comes}
use Rattle.hp_older.proofs.Truly.{ends_so}

-- a token's end, and that of the tokens behind it
module _ (s : ControlState) (v : Split) (t : Token) (ts : List Token) where
  abbrev h : Handled
  h = handle_at_once (state_over v s) t

  abbrev rest : Handled
  rest = each_at_once (left_by h) ts

  behind : (r : Reached) (end : Result Split Crossing) → IsDoneOver s v r.split r.handled h → ComeOver s r.split end (each_at_once (state_over r.split s) ts) → ComeOver s v end (each_at_once (state_over v s) (t ∷ ts))
  behind r (Err crossing) d m = touched_second s crossing h.outcome rest.outcome (subst (λ x. touches s crossing (each_at_once x ts).outcome ≡ true) d.control m)
  behind r (Ok w) d m =
      let k : AreDoneOver s r.split w rest = subst (λ x. AreDoneOver s r.split w (each_at_once x ts)) d.control m in
      record {
        control = k.control;
        edits = alike_after s (map (named_edit s) v.edits) (map (named_edit s) r.split.edits) (map (named_edit s) w.edits) h.outcome rest.outcome d.edits k.edits;
        own = any_after s h.outcome rest.outcome ∙ either (touches_any s h.outcome) (touches_any s rest.outcome) d.own k.own;
        over = k.over;
        chunk = λ c. k.chunk (d.chunk c);
      }

  one_end : (end : Result Reached Crossing) → ComesOver s v end h → ((r : Reached) → IsOver s r.split → ComeOver s r.split (end_by (answer_of s) (tokens_plan ts r.split)) (each_at_once (state_over r.split s) ts))
      → ComeOver s v (on_end end (λ r. end_by (answer_of s) (tokens_plan ts r.split))) (each_at_once (state_over v s) (t ∷ ts))
  one_end (Ok r) m more = behind r (end_by (answer_of s) (tokens_plan ts r.split)) m (more r m.over)
  one_end (Err crossing) m more = touched_first s crossing h.outcome rest.outcome m

each_comes : (s : ControlState) (ts : List Token) (v : Split) → IsOver s v → MayAllCome s ts → ComeOver s v (end_by (answer_of s) (tokens_plan ts v)) (each_at_once (state_over v s) ts)
each_comes s [] v over may = record { control = refl; edits = join-equal (map (named_edit s) v.edits) (map (named_edit s) v.edits ++ []) (sym (append-nil (map (named_edit s) v.edits))); own = refl; over = over; chunk = λ c. c }
each_comes s (t ∷ ts) v over may =
    subst (λ e. ComeOver s v e (each_at_once (state_over v s) (t ∷ ts))) (sym (end_then (answer_of s) (handle_plan t v) (λ r. tokens_plan ts r.split)))
    (one_end s v t ts (end_by (answer_of s) (handle_plan t v)) (over_comes t s v over may.0) (λ r there. each_comes s ts r.split there may.1))

pub all-handled : AllHandled
all-handled ts s v old new end r true_all over may = subst (λ e. ComeOver s v e (each_at_once (state_over v s) ts)) (ends_so s old new (tokens_plan ts v) end r true_all) (each_comes s ts v over may)
