-- The room of a list of edits.
use Rattle.std.proofs.Common.{◌≡◌, ℕ, length, map, ◌+◌, List, [], ◌∷◌, ◌++◌, refl, ap₂, arith}
use Rattle.hp_control.specs.Apply.{named_edit}
use Rattle.hp_control.specs.Edits.{room_of, room_of_all}
use Rattle.hp_control.specs.States.{ControlState}
use Rattle.hp_control.proofs.TellingLemmas.{named_room}
use Rattle.hp_elements.specs.declared.tag.Tag.{Tag}
use Rattle.hp_control.specs.declared.edit.Child.{Child}
use Rattle.hp_control.specs.declared.edit.Place.{Place}
use Rattle.hp_control.specs.declared.edit.Edit.{Edit}
use Rattle.hp_control.specs.declared.edit.Edit.TheVariants.{NewElement, Put}

pub room_of_all-push : (edits : List Edit) (edit : Edit) → room_of_all (edits ++ edit ∷ []) ≡ room_of_all edits + room_of edit
room_of_all-push [] edit = omega arith
room_of_all-push (first ∷ rest) edit = omega (arith, room_of_all-push rest edit)

-- an element that is made and put
pub room_of_all-made : (edits : List Edit) (tag : Tag) (child : Child) (place : Place) (room own n : ℕ) → own ≡ room_of_all edits → n ≡ length tag.attributes → room ≡ own + (n + 2) → room ≡ room_of_all ((edits ++ NewElement tag ∷ []) ++ Put child place ∷ [])
room_of_all-made edits tag child place room own n e f g = omega (arith, room_of_all-push edits (NewElement tag), room_of_all-push (edits ++ NewElement tag ∷ []) (Put child place))

-- one edit more
pub room_of_all-more : (edits : List Edit) (edit : Edit) (room own n : ℕ) → own ≡ room_of_all edits → n ≡ room_of edit → room ≡ own + n → room ≡ room_of_all (edits ++ edit ∷ [])
room_of_all-more edits edit room own n e f g = omega (arith, room_of_all-push edits edit)

-- named edits need the same room
pub room_of_all-named : (s : ControlState) (edits : List Edit) → room_of_all (map (named_edit s) edits) ≡ room_of_all edits
room_of_all-named s [] = refl
room_of_all-named s (edit ∷ edits) = ap₂ (λ first rest. first + rest) (named_room s edit) (room_of_all-named s edits)
