-- Edits whose elements are told by their ids, over the stack of an older state.
use Rattle.std.specs.Prelude.{◌≡◌, ℕ, ◌-◌, ◌<◌, ◌^◌, List, length, map, min}
use Rattle.hp_control.specs.declared.edit.Child.{Child}
use Rattle.hp_control.specs.declared.edit.Child.TheVariants.{Element, Text, Comment, Doctype}
use Rattle.hp_control.specs.declared.edit.Edit.{Edit}
use Rattle.hp_control.specs.declared.edit.Edit.TheVariants.{NewElement, Put, Detach, MoveChildren, AddMissing}
use Rattle.hp_control.specs.declared.edit.Place.{Place}
use Rattle.hp_control.specs.declared.edit.Place.TheVariants.{Into, Foster}
use Rattle.hp_control.specs.declared.edit.Ref.{Ref}
use Rattle.hp_control.specs.declared.edit.Ref.TheVariants.{Fixed, Older, Own}
use Rattle.hp_control.specs.declared.element.OpenElement.{OpenElement}
use Rattle.hp_control.specs.Apply.{named_edit}
use Rattle.hp_control.specs.Edits.{room_of, IsFixedEdit}
use Rattle.hp_control.specs.Nothing.{nothing}
use Rattle.hp_control.specs.States.{ControlState}
use Rattle.hp_control.specs.Tree.{Tree, applied_all}

-- an older state by all that a name reads of it: its stack, and the id from which own elements count
abbrev pub below : List OpenElement → ℕ → ControlState
below stack next = record nothing { stack = stack; next = next }

-- ids are counted in 64 bits: one past them is told as the highest, and no tree that is shorter has an element of either
abbrev pub counted : Ref → Ref
counted (Fixed id) = Fixed (min id (2 ^ 64 - 1))
counted (Older depth) = Older depth
counted (Own number) = Own number

abbrev pub counted_place : Place → Place
counted_place (Into parent) = Into (counted parent)
counted_place (Foster table above) = Foster (counted table) (counted above)

abbrev pub counted_child : Child → Child
counted_child (Element node) = Element (counted node)
counted_child (Text text) = Text text
counted_child (Comment text) = Comment text
counted_child (Doctype parts) = Doctype parts

abbrev pub counted_edit : Edit → Edit
counted_edit (NewElement tag) = NewElement tag
counted_edit (Put what place) = Put (counted_child what) (counted_place place)
counted_edit (Detach node) = Detach (counted node)
counted_edit (MoveChildren from to) = MoveChildren (counted from) (counted to)
counted_edit (AddMissing node attributes) = AddMissing (counted node) attributes

-- the edit over this stack, where own elements count from this id on
abbrev pub named_edit_over : List OpenElement → ℕ → Edit → Edit
named_edit_over stack next e = named_edit (below stack next) e

-- and the same with its ids counted in 64 bits
abbrev pub told_over : List OpenElement → ℕ → Edit → Edit
told_over stack next e = counted_edit (named_edit_over stack next e)

-- a state's stack and next id are all that its names depend on
abbrev pub NamedOver : Type 0
NamedOver = (s : ControlState) (e : Edit) → named_edit s e ≡ named_edit_over s.stack s.next e

-- an edit that tells each element by its id means the same over every state
abbrev pub FixedMeansSame : Type 0
FixedMeansSame = (s : ControlState) (e : Edit) → IsFixedEdit e → named_edit s e ≡ e

abbrev pub NamedOnce : Type 0
NamedOnce = (s : ControlState) (e : Edit) → named_edit nothing (named_edit s e) ≡ named_edit s e

abbrev pub NamedRoom : Type 0
NamedRoom = (s : ControlState) (e : Edit) → room_of (named_edit s e) ≡ room_of e

abbrev pub ToldOnce : Type 0
ToldOnce = (stack : List OpenElement) (next : ℕ) (e : Edit) → named_edit nothing (told_over stack next e) ≡ told_over stack next e

abbrev pub ToldRoom : Type 0
ToldRoom = (stack : List OpenElement) (next : ℕ) (e : Edit) → room_of (told_over stack next e) ≡ room_of e

-- counted ids make the same of each tree whose elements can be counted in 64 bits
abbrev pub ToldMakesSame : Type 0
ToldMakesSame = (s : ControlState) (t : Tree) (edits : List Edit) → length (applied_all t (map (told_over s.stack s.next) edits)) < 2 ^ 64
    → applied_all t (map (told_over s.stack s.next) edits) ≡ applied_all t (map (named_edit s) edits)
