-- Questions that are asked one behind the other.
use Rattle.std.proofs.Common.{◌≡◌, List, [], ◌∷◌, ◌++◌, ap, ◌∙◌, sym, subst}
use Rattle.hp_control.specs.declared.question.Answer.{Answer}
use Rattle.hp_control.specs.declared.question.Question.{Question}
use Rattle.hp_control.specs.Agree.{AllTrue}
use Rattle.hp_control.specs.Plan.{Heard, noting}
use Rattle.hp_control.specs.Running.{noting_more, runs_gives}
use Rattle.hp_control.specs.States.{ControlState}

pub true-back : (s : ControlState) (says : Question → Answer) (xs ys : List Question) → AllTrue s says (xs ++ ys) → AllTrue s says ys
true-back s says [] ys h = h
true-back s says (x ∷ xs) ys h = true-back s says xs ys h.1

pub noted-none : (h : Heard) → h ≡ noting h []
noted-none h = (runs_gives h (tt {0})).noted

pub noted-then : (a b c : Heard) (xs ys : List Question) → b ≡ noting a xs → c ≡ noting b ys → c ≡ noting a (xs ++ ys)
noted-then a b c xs ys f g = g ∙ (ap (λ (h : Heard). noting h ys) f ∙ noting_more a xs ys)

pub true-join : (s : ControlState) (says : Question → Answer) (xs ys : List Question) → AllTrue s says xs → AllTrue s says ys → AllTrue s says (xs ++ ys)
true-join s says [] ys h k = k
true-join s says (x ∷ xs) ys h k = (h.0, true-join s says xs ys h.1 k)

-- the answers stay the same
pub same-says : (a b : Heard) (qs : List Question) → b ≡ noting a qs → b.says ≡ a.says
same-says a b qs f = ap (λ (h : Heard). h.says) f

-- what is true of the second is so by what was said before the first
pub true-then : (s : ControlState) (a b : Heard) (xs ys : List Question) → b ≡ noting a xs → AllTrue s a.says (xs ++ ys) → AllTrue s b.says ys
true-then s a b xs ys f h = subst (λ (x : Heard). AllTrue s x.says ys) (sym f) (true-back s a.says xs ys h)
