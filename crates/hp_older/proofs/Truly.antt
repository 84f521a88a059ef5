-- What is carried out by true answers is carried out by those of the older state.
use Rattle.std.proofs.Common.{◌≡◌, List, [], ◌∷◌, ◌++◌, refl, sym, ◌∙◌, None}
use Rattle.std.specs.Prelude.{Result}
use Rattle.hp_control.specs.declared.question.Answer.{Answer}
use Rattle.hp_control.specs.declared.question.Crossing.{Crossing}
use Rattle.hp_control.specs.declared.question.Question.{Question}
use Rattle.hp_control.specs.Agree.{AllTrue, ends_alike, true_alike}
use Rattle.hp_control.specs.Plan.{Heard, Plan, Runs, asked_by, end_by}
use Rattle.hp_control.specs.States.{ControlState}
use Rattle.hp_control.specs.Truth.{answer_of}
use Rattle.hp_older.specs.Laws.{OwnTrue}

pub own-true : OwnTrue
own-true s [] = tt
own-true s (q ∷ qs) = (refl, own-true s qs)

abbrev pub true_heard : ControlState → Heard
true_heard s = record { says = answer_of s; kept = None }

pub ends_so : {X : Type 0} (s : ControlState) (old new : Heard) (plan : Plan X) (end : Result X Crossing) → Runs old new plan end → AllTrue s old.says (asked_by old.says plan) → end_by (answer_of s) plan ≡ end
ends_so s old new plan end r true_all = sym (ends_alike s old.says plan (true_alike s old.says plan true_all)) ∙ r.ends

-- of questions one behind the other the first ones are answered truly
pub true-front : (s : ControlState) (says : Question → Answer) (xs ys : List Question) → AllTrue s says (xs ++ ys) → AllTrue s says xs
true-front s says [] ys h = tt
true-front s says (x ∷ xs) ys h = (h.0, true-front s says xs ys h.1)
