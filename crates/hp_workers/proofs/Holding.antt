-- Fragments that may be joined, and such as may not.
use Rattle.std.proofs.Common.{◌≡◌, List, length, refl, subst}
use Rattle.std.proofs.lemmas.Option.{slice_get_within, get_or_from_slice_get}
use Rattle.hp_control.specs.declared.question.Answer.{Answer}
use Rattle.hp_control.specs.declared.question.Kept.{Kept}
use Rattle.hp_control.specs.declared.question.Question.{Question}
use Rattle.hp_control.specs.Holds.{Holds}
use Rattle.hp_control.specs.States.{ControlState}
use Rattle.hp_control.specs.Truth.{answer_of}
use Rattle.hp_pieces.specs.Texts.{IsExactFrom, covered_of, text_of}
use Rattle.hp_pieces.specs.declared.fragment.Fragment.{Fragment}
use Rattle.hp_pieces.specs.declared.fragment.Fragment.TheVariants.{Exact, Guessed}
use Rattle.hp_merge.specs.Checked.{IsChecked, IsFirstFalse, MayJoin}
use Rattle.hp_merge.specs.declared.checking.Checked.{Checked}
use Rattle.hp_merge.specs.declared.checking.Checked.TheVariants as checked

-- where one answer isn't the true one, not all are
not_all : (s : ControlState) (kept : List Kept) (question : Question) (answer : Answer) → IsFirstFalse s kept question answer → Holds kept s → ⊥
not_all s kept question answer first holds =
    let pair : Kept = record { question = question; answer = answer } in
    let is = get_or_from_slice_get kept first.place pair pair first.there in
    first.wrong (subst (λ (k : Kept). answer_of s k.question ≡ k.answer) is (holds first.place pair (slice_get_within kept first.place pair first.there)))

-- what is told otherwise than to hold may not be joined
pub may_not : (s : ControlState) (fragment : Fragment) (looked : Checked) → IsChecked s fragment looked → (looked ≡ checked.Holds → ⊥) → MayJoin s fragment → ⊥
may_not s (Exact known) checked.Holds is other may = other refl
may_not s (Guessed f) checked.Holds is other may = other refl
may_not s (Exact known) (checked.Fails question answer) is other may = is
may_not s (Guessed f) (checked.Fails question answer) is other may = not_all s f.assumptions question.now answer.now is may
may_not s (Exact known) checked.OtherEntry is other may = is may
may_not s (Guessed f) checked.OtherEntry is other may = is

-- what is exact covers its whole text
pub covers_all : (entry : ControlState) (fragment : Fragment) → IsExactFrom entry fragment → covered_of fragment ≡ length (text_of fragment)
covers_all entry (Exact known) exact = refl
covers_all entry (Guessed f) exact = absurd exact
