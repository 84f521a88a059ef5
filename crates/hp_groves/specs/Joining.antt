-- Texts that are put one after the other into the same place count as one.
use Rattle.std.specs.Prelude.{ℕ, List, ◌∷◌, ◌++◌}
use Rattle.hp_control.specs.declared.edit.Child.TheVariants as child
use Rattle.hp_control.specs.declared.edit.Edit.{Edit}
use Rattle.hp_control.specs.declared.edit.Edit.TheVariants.{Put}
use Rattle.hp_control.specs.declared.edit.Place.{Place}

-- the same edits, but for texts that are put one after the other into the same place, which may be one text or several
pub data JoinTexts : List Edit → List Edit → Type 0 where
  Same : (es : List Edit) → JoinTexts es es
  Join : (place : Place) (a b : List ℕ) (es : List Edit) → JoinTexts (Put (child.Text a) place ∷ Put (child.Text b) place ∷ es) (Put (child.Text (a ++ b)) place ∷ es)
  Behind : (e : Edit) (es fs : List Edit) → JoinTexts es fs → JoinTexts (e ∷ es) (e ∷ fs)
  Back : (es fs : List Edit) → JoinTexts es fs → JoinTexts fs es
  Through : (es fs gs : List Edit) → JoinTexts es fs → JoinTexts fs gs → JoinTexts es gs
