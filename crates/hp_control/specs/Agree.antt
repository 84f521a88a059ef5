-- Two givers of answers that agree on what is asked lead a plan the same way.
use Rattle.std.specs.Prelude.{◌≡◌, List, [], ◌∷◌, refl}
use Rattle.std.proofs.Common.{sym, subst, ap, ◌∙◌}
use Rattle.std.proofs.lemmas.List.Elements.{All-head, All-tail, All-nil, All-cons}
use Rattle.hp_control.specs.declared.question.Question.{Question}
use Rattle.hp_control.specs.declared.question.Answer.{Answer}
use Rattle.hp_control.specs.declared.question.Kept.{Kept}
use Rattle.hp_control.specs.States.{ControlState}
use Rattle.hp_control.specs.Truth.{answer_of}
use Rattle.hp_control.specs.Holds.{Holds}
use Rattle.hp_control.specs.Plan.{Plan, gives, crosses, asks, end_by, asked_by, kept_pairs}

-- what is said to each of these questions is true of s
abbrev pub AllTrue : ControlState → (Question → Answer) → List Question → Type 0
AllTrue s says [] = Unit {0}
AllTrue s says (q ∷ qs) = (answer_of s q ≡ says q) × AllTrue s says qs

-- what is kept of these questions is true exactly where what is said is
pub kept_hold : (s : ControlState) (says : Question → Answer) (qs : List Question) → AllTrue s says qs → Holds (kept_pairs says qs) s
kept_hold s says [] h = All-nil (λ (k : Kept). answer_of s k.question ≡ k.answer)
kept_hold s says (q ∷ qs) h = All-cons (λ (k : Kept). answer_of s k.question ≡ k.answer) (record { question = q; answer = says q }) (kept_pairs says qs) h.0 (kept_hold s says qs h.1)

pub kept_true : (s : ControlState) (says : Question → Answer) (qs : List Question) → Holds (kept_pairs says qs) s → AllTrue s says qs
kept_true s says [] h = tt
kept_true s says (q ∷ qs) h = (
  All-head (λ (k : Kept). answer_of s k.question ≡ k.answer) (record { question = q; answer = says q }) (kept_pairs says qs) h,
  kept_true s says qs (All-tail (λ (k : Kept). answer_of s k.question ≡ k.answer) (record { question = q; answer = says q }) (kept_pairs says qs) h),
)

-- what is asked under the true answers is answered truly: the end and the questions are the same
pub ends_alike : {X : Type 0} (s : ControlState) (says : Question → Answer) (p : Plan X) → AllTrue s says (asked_by (answer_of s) p) → end_by says p ≡ end_by (answer_of s) p
ends_alike s says (gives x) h = refl
ends_alike s says (crosses crossing) h = refl
ends_alike s says (asks q go) h = ap (λ a. end_by says (go a)) (sym h.0) ∙ ends_alike s says (go (answer_of s q)) h.1

-- the same, where what is asked under what is said is true
pub true_alike : {X : Type 0} (s : ControlState) (says : Question → Answer) (p : Plan X) → AllTrue s says (asked_by says p) → AllTrue s says (asked_by (answer_of s) p)
true_alike s says (gives x) h = tt
true_alike s says (crosses crossing) h = tt
true_alike s says (asks q go) h = (h.0, let P : Answer → Type 0 = λ a. AllTrue s says (asked_by (answer_of s) (go a)) in subst P (sym h.0) (true_alike s says (go (says q)) h.1))
