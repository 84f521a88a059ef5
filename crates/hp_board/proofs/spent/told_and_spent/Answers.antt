-- The pair behind so many is the one at that place.
use Rattle.std.proofs.Common.{◌≡◌, ℕ, zero, suc, List, [], ◌∷◌, Option, None, Some, ap, drop, refl, sym, ◌∙◌}
use Rattle.std.specs.Prelude.{MatchOption, slice_get}
use Rattle.hp_control.specs.declared.question.Kept.{Kept}
use Rattle.hp_pieces.specs.Guesses.{Guessed}
use Rattle.hp_board.proofs.spent.told_and_spent.Goals as goal

none_behind : (l : List Kept) (k : ℕ) → drop k l ≡ [] → None ≡ slice_get l k
none_behind [] k none = refl
none_behind (x ∷ l) zero none = absurd cc
none_behind (x ∷ l) (suc k) none = none_behind l k none

some_behind : (l : List Kept) (k : ℕ) (x : Kept) (t : List Kept) → drop k l ≡ x ∷ t → Some x ≡ slice_get l k
some_behind [] zero x t some = absurd cc
some_behind [] (suc k) x t some = absurd cc
some_behind (y ∷ l) zero x t some = cc
some_behind (y ∷ l) (suc k) x t some = some_behind l k x t some

first_behind : (l left t : List Kept) (k : ℕ) (found : Option Kept) → left ≡ drop k l → MatchOption found ((left ≡ []) × (t ≡ [])) (λ x. left ≡ x ∷ t) → found ≡ slice_get l k
first_behind l left t k None is gives = none_behind l k (sym is ∙ gives.0)
first_behind l left t k (Some x) is gives = some_behind l k x t (sym is ∙ gives)

pub returns : goal.returns
returns c =
    let all : c.into_iter-behind.result ≡ c.args.guessed.assumptions = c.into_iter-behind.ensures.into_iter_gives ∙ ap (λ (g : Guessed). g.assumptions) c.into_parts-assumptions.ensures.parts in
    first_behind c.args.guessed.assumptions c.take_pairs-before.new.pairs c.next-told.new.self c.args.place c.next-told.result
    (c.take_pairs-before.ensures ∙ ap (drop c.args.place) all) c.next-told.ensures.steps
