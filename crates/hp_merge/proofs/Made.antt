-- Edits that are told over a known state, in a tree.
use Rattle.std.proofs.Common.{◌≡◌, ℕ, zero, suc, ◌<◌, ◌^◌, ◌+◌, List, [], ◌∷◌, All, length, map, refl, sym, ap, ap₂, ◌∙◌, subst, arith}
use Rattle.hp_control.specs.declared.edit.Edit.{Edit}
use Rattle.hp_control.specs.declared.element.OpenElement.{OpenElement}
use Rattle.hp_control.specs.Apply.{named_edit}
use Rattle.hp_control.specs.Edits.{IsFixedEdit, room_of_all}
use Rattle.hp_control.specs.Nothing.{nothing}
use Rattle.hp_control.specs.States.{ControlState}
use Rattle.hp_control.specs.Telling.{FixedMeansSame, NamedOver, ToldMakesSame, ToldOnce, ToldRoom, below, named_edit_over, told_over}
use Rattle.hp_control.specs.Tree.{Tree, applied_all}
use Rattle.hp_control.proofs.TellingLemmas.{named_over}

-- those that tell each element by its id are told as they are
pub fixed_all : FixedMeansSame → (s : ControlState) (es : List Edit) → All IsFixedEdit es → map (named_edit s) es ≡ es
fixed_all law s [] h = refl
fixed_all law s (e ∷ es) h = ap₂ (λ a b. a ∷ b) (law s e (h zero e (omega arith))) (fixed_all law s es (λ k d less. h (suc k) d (omega (arith, less))))

pub told_room_all : ToldRoom → (stack : List OpenElement) (next : ℕ) (es : List Edit) → room_of_all (map (told_over stack next) es) ≡ room_of_all es
told_room_all law stack next [] = refl
told_room_all law stack next (e ∷ es) = ap₂ (λ a b. a + b) (law stack next e) (told_room_all law stack next es)

-- what is told over an older stack stays so where no older state is below
pub told_once_all : ToldOnce → (stack : List OpenElement) (next : ℕ) (es : List Edit) → map (named_edit nothing) (map (told_over stack next) es) ≡ map (told_over stack next) es
told_once_all law stack next [] = refl
told_once_all law stack next (e ∷ es) = ap₂ (λ a b. a ∷ b) (law stack next e) (told_once_all law stack next es)

pub told_length : (stack : List OpenElement) (next : ℕ) (es : List Edit) → length (map (told_over stack next) es) ≡ length es
told_length stack next [] = refl
told_length stack next (e ∷ es) = ap suc (told_length stack next es)

-- a tree whose elements are counted, once the edits that were told are made in it
pub told_applied : ToldMakesSame → (stack : List OpenElement) (next : ℕ) (t new : Tree) (es : List Edit)
    → new ≡ applied_all t (map (told_over stack next) es) → length new < 2 ^ 64 → new ≡ applied_all t (map (named_edit_over stack next) es)
told_applied same stack next t new es made counted = made ∙ same (below stack next) t es (subst (λ (x : Tree). length x < 2 ^ 64) made counted)

-- what is told over a state's stack is told over the state
named_over_all : NamedOver → (s : ControlState) (es : List Edit) → map (named_edit_over s.stack s.next) es ≡ map (named_edit s) es
named_over_all law s [] = refl
named_over_all law s (e ∷ es) = ap₂ (λ a b. a ∷ b) (sym (law s e)) (named_over_all law s es)

-- the edits that were made over the stack below the own elements were made over the state
pub made_over_state : (s : ControlState) (t new : Tree) (es : List Edit) (stack : List OpenElement) (next : ℕ) → stack ≡ s.stack → next ≡ s.next
    → new ≡ applied_all t (map (named_edit_over stack next) es) → new ≡ applied_all t (map (named_edit s) es)
made_over_state s t new es stack next e f made =
    made ∙ (ap₂ (λ (xs : List OpenElement) (n : ℕ). applied_all t (map (named_edit_over xs n) es)) e f ∙ ap (applied_all t) (named_over_all named_over s es))

-- the same where the tree and the edits are those
pub made_so : (s : ControlState) (t old new : Tree) (es fs : List Edit) (stack : List OpenElement) (next : ℕ) → old ≡ t → fs ≡ es → stack ≡ s.stack → next ≡ s.next
    → new ≡ applied_all old (map (named_edit_over stack next) fs) → new ≡ applied_all t (map (named_edit s) es)
made_so s t old new es fs stack next old_is es_is e f made =
    made ∙ (ap₂ (λ (x : Tree) (xs : List Edit). applied_all x (map (named_edit_over stack next) xs)) old_is es_is ∙ made_over_state s t (applied_all t (map (named_edit_over stack next) es)) es stack next e f refl)
