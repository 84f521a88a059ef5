-- How much room edits need in a tree, and which elements they mean.
use Rattle.std.specs.Prelude.{ℕ, ◌+◌, List, [], ◌∷◌, length}
use Rattle.hp_control.specs.declared.edit.Child.{Child}
use Rattle.hp_control.specs.declared.edit.Child.TheVariants.{Element, Text, Comment, Doctype}
use Rattle.hp_control.specs.declared.edit.Edit.{Edit}
use Rattle.hp_control.specs.declared.edit.Edit.TheVariants.{NewElement, Put, Detach, MoveChildren, AddMissing}
use Rattle.hp_control.specs.declared.edit.Place.{Place}
use Rattle.hp_control.specs.declared.edit.Place.TheVariants.{Into, Foster}
use Rattle.hp_control.specs.declared.edit.Ref.{Ref}
use Rattle.hp_control.specs.declared.edit.Ref.TheVariants.{Fixed, Older, Own}

-- one for the edit itself, and one for each of its attributes
abbrev pub room_of : Edit → ℕ
room_of (NewElement tag) = length tag.attributes + 1
room_of (Put child place) = 1
room_of (Detach node) = 1
room_of (MoveChildren from to) = 1
room_of (AddMissing node attributes) = length attributes + 1

abbrev pub room_of_all : List Edit → ℕ
room_of_all [] = 0
room_of_all (edit ∷ edits) = room_of edit + room_of_all edits

-- the element is told by its id
abbrev pub IsFixed : Ref → Type 0
IsFixed (Fixed id) = Unit {0}
IsFixed (Older depth) = ⊥
IsFixed (Own number) = ⊥

abbrev pub IsFixedPlace : Place → Type 0
IsFixedPlace (Into parent) = IsFixed parent
IsFixedPlace (Foster table above) = IsFixed table × IsFixed above

abbrev pub IsFixedChild : Child → Type 0
IsFixedChild (Element node) = IsFixed node
IsFixedChild (Text text) = Unit {0}
IsFixedChild (Comment text) = Unit {0}
IsFixedChild (Doctype parts) = Unit {0}

-- the edit tells each element by its id
abbrev pub IsFixedEdit : Edit → Type 0
IsFixedEdit (NewElement tag) = Unit {0}
IsFixedEdit (Put child place) = IsFixedChild child × IsFixedPlace place
IsFixedEdit (Detach node) = IsFixed node
IsFixedEdit (MoveChildren from to) = IsFixed from × IsFixed to
IsFixedEdit (AddMissing node attributes) = IsFixed node
