-- The text of the elements that were found.
use Rattle.std.proofs.Common.{◌≡◌, ◌++◌, ◌∙◌, ℕ, List, [], ◌∷◌, Option, Some, ap, map, refl, sym, subst}
use Rattle.std.specs.Prelude.{OnOk, Result}
use Rattle.std.specs.Io.KnownBytes.{append_known}
use Rattle.std.specs.List.{flat_map}
use Rattle.hp_arena.specs.Readers.{element_at}
use Rattle.hp_arena.specs.declared.readers.At.{At}
use Rattle.hp_control.specs.Tree.{Tree}
use Rattle.hp_print.specs.Elements.{element_text, elements_text, text_at}
use Rattle.hp_print.specs.Faults.{OnFault}
use Rattle.hp_print.specs.Out.{TakesFirst}
use Rattle.hp_print.specs.declared.walk.Refusal.{Refusal}

flat_of_map : {A B : Type 0} (f : B → List ℕ) (g : A → B) (xs : List A) → flat_map (λ x. f (g x)) xs ≡ flat_map f (map g xs)
flat_of_map f g [] = refl
flat_of_map f g (x ∷ xs) = ap (λ rest. f (g x) ++ rest) (flat_of_map f g xs)

-- what stands at places is told by the ids of the elements there
pub found_text : (t : Tree) (found : List At) (ids : List ℕ) → map (element_at t) found ≡ map Some ids → elements_text t found ≡ flat_map (element_text t) ids
found_text t found ids is =
    flat_of_map (text_at t) (element_at t) found ∙ ap (flat_map (text_at t)) is ∙ sym (flat_of_map (text_at t) Some ids)

-- a text that was written is an equal one
pub whole_as : (written : Result (Unit {0}) Refusal) (old new : Option (List ℕ)) (one other : List ℕ) → one ≡ other → OnOk written (new ≡ append_known old one) → OnOk written (new ≡ append_known old other)
whole_as written old new one other same = subst (λ (text : List ℕ). OnOk written (new ≡ append_known old text)) same

pub part_as : (written : Result (Unit {0}) Refusal) (old new : Option (List ℕ)) (one other : List ℕ) → one ≡ other → OnFault written (λ taken. TakesFirst taken one old new) → OnFault written (λ taken. TakesFirst taken other old new)
part_as written old new one other same = subst (λ (text : List ℕ). OnFault written (λ taken. TakesFirst taken text old new)) same
