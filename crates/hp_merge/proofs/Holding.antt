-- Which of the answers that are assumed are true of a state, one after the other.
use Rattle.std.proofs.Common.{◌≡◌, ℕ, ◌+◌, ◌<◌, List, [], ◌∷◌, ◌++◌, All, length, take, get_or, subst, sym, ap, ◌∙◌}
use Rattle.std.proofs.lemmas.List.{take_more}
use Rattle.std.proofs.lemmas.List.Elements.{All-push}
use Rattle.hp_control.specs.declared.question.Kept.{Kept}
use Rattle.hp_control.specs.Holds.{Holds}
use Rattle.hp_control.specs.States.{ControlState}
use Rattle.hp_control.specs.Truth.{answer_of}

abbrev IsTrueOf : ControlState → Kept → Type 0
IsTrueOf s pair = answer_of s pair.question ≡ pair.answer

-- one more is true
pub holds_more : (s : ControlState) (kept : List Kept) (i : ℕ) (pair : Kept) → i < length kept → pair ≡ get_or kept i pair → Holds (take i kept) s → IsTrueOf s pair → Holds (take (i + 1) kept) s
holds_more s kept i pair less is h true_of =
    subst (All (IsTrueOf s)) (sym (take_more kept i pair less ∙ ap (λ x. take i kept ++ x ∷ []) (sym is))) (All-push (IsTrueOf s) (take i kept) pair h true_of)
