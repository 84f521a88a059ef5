-- Where what is said of what truth asks is true, the same is asked by what is said.
use Rattle.std.proofs.Common.{◌≡◌, List, [], ◌∷◌, ◌++◌, refl, ap, ◌∙◌, sym, subst}
use Rattle.hp_control.specs.declared.question.Answer.{Answer}
use Rattle.hp_control.specs.declared.question.Question.{Question}
use Rattle.hp_control.specs.Agree.{AllTrue}
use Rattle.hp_control.specs.Plan.{Plan, asked_by, asks, crosses, gives}
use Rattle.hp_control.specs.States.{ControlState}
use Rattle.hp_control.specs.Truth.{answer_of}

pub asked_alike : {X : Type 0} (s : ControlState) (says : Question → Answer) (p : Plan X) → AllTrue s says (asked_by (answer_of s) p) → asked_by says p ≡ asked_by (answer_of s) p
asked_alike s says (gives x) h = refl
asked_alike s says (crosses crossing) h = refl
asked_alike s says (asks q go) h = ap (λ (qs : List Question). q ∷ qs) (ap (λ (a : Answer). asked_by says (go a)) (sym h.0) ∙ asked_alike s says (go (answer_of s q)) h.1)

pub said-true : {X : Type 0} (s : ControlState) (says : Question → Answer) (p : Plan X) → AllTrue s says (asked_by (answer_of s) p) → AllTrue s says (asked_by says p)
said-true s says p h = subst (AllTrue s says) (sym (asked_alike s says p h)) h

-- of questions one behind the other the first ones are answered truly, and the last
pub true-front : (s : ControlState) (says : Question → Answer) (xs ys : List Question) → AllTrue s says (xs ++ ys) → AllTrue s says xs
true-front s says [] ys h = tt
true-front s says (x ∷ xs) ys h = (h.0, true-front s says xs ys h.1)

pub true-back : (s : ControlState) (says : Question → Answer) (xs ys : List Question) → AllTrue s says (xs ++ ys) → AllTrue s says ys
true-back s says [] ys h = h
true-back s says (x ∷ xs) ys h = true-back s says xs ys h.1

-- what a state itself answers is true of it
pub own-true : (s : ControlState) (qs : List Question) → AllTrue s (answer_of s) qs
own-true s [] = tt
own-true s (q ∷ qs) = (refl, own-true s qs)
