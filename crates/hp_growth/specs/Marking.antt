-- What outer edits have touched of own elements. An own element has the id after its number, and the id 0 stands for all that is older.
use Rattle.std.specs.Prelude.{◌≡◌, ℕ, zero, suc, ◌<◌, ◌^◌, ◌||◌, ◌&&◌, Bool, true, false, List, [], ◌∷◌, slice_index_or, length, nat_le, nat_lt}
use Rattle.std.specs.List.{list_all}
use Rattle.hp_control.specs.declared.edit.Child.{Child}
use Rattle.hp_control.specs.declared.edit.Child.TheVariants as child
use Rattle.hp_control.specs.declared.edit.Edit.{Edit}
use Rattle.hp_control.specs.declared.edit.Edit.TheVariants.{NewElement, Put, Detach, MoveChildren, AddMissing}
use Rattle.hp_control.specs.declared.edit.Place.{Place}
use Rattle.hp_control.specs.declared.edit.Place.TheVariants.{Into, Foster}
use Rattle.hp_control.specs.declared.edit.Ref.{Ref}
use Rattle.hp_control.specs.declared.edit.Ref.TheVariants.{Fixed, Older, Own}
use Rattle.hp_groves.specs.Naming.{refs}
use Rattle.hp_groves.specs.Split.{is_among}
use Rattle.hp_growth.specs.declared.marks.Mark.{Mark}

-- nothing of the element was touched
abbrev pub untouched : Mark
untouched = record { children = false; parent = false }

-- the mark of the own element of this number
abbrev pub mark : List Mark → ℕ → Mark
mark marks number = slice_index_or marks number untouched

-- the children of the element of this id were touched, or its parent; what is older counts as touched
abbrev pub children_touched : List Mark → ℕ → Bool
children_touched marks zero = true
children_touched marks (suc number) = (mark marks number).children

abbrev pub parent_touched : List Mark → ℕ → Bool
parent_touched marks zero = true
parent_touched marks (suc number) = (mark marks number).parent

-- no own element's children were touched
abbrev pub AreWhole : List Mark → Type 0
AreWhole marks = (number : ℕ) → (mark marks number).children ≡ false

-- these are the marks of so many elements that 32 bits count them, and it is known where the children of none were touched
pub record AreMarks (any : Bool) (marks : List Mark) : Type 0 where
  pub few : length marks < 2 ^ 32
  pub whole : any ≡ false → AreWhole marks

-- the same marks, but that the children of the elements of these ids, and the parents of those, are touched too
pub record IsMarked (old new : List Mark) (ids moved : List ℕ) : Type 0 where
  pub count : length new ≡ length old
  pub children : (number : ℕ) → (mark new number).children ≡ ((mark old number).children || is_among ids (suc number))
  pub parent : (number : ℕ) → (mark new number).parent ≡ ((mark old number).parent || is_among moved (suc number))

-- the marks that an edit begins
abbrev pub marks_made : Edit → List Mark
marks_made (NewElement tag) = untouched ∷ []
marks_made (Put c place) = []
marks_made (Detach node) = []
marks_made (MoveChildren from to) = []
marks_made (AddMissing node more) = []

-- the element is older, or among so many own ones
abbrev pub is_made : ℕ → Ref → Bool
is_made count (Fixed id) = true
is_made count (Older depth) = true
is_made count (Own number) = nat_lt number count

abbrev pub is_child_made : ℕ → Child → Bool
is_child_made count (child.Element node) = is_made count node
is_child_made count (child.Text text) = true
is_child_made count (child.Comment text) = true
is_child_made count (child.Doctype parts) = true

abbrev pub is_place_made : ℕ → Place → Bool
is_place_made count (Into parent) = is_made count parent
is_place_made count (Foster table above) = is_made count table && is_made count above

-- the edit names no other own elements
abbrev pub names_made : ℕ → Edit → Bool
names_made count (NewElement tag) = true
names_made count (Put c place) = is_child_made count c && is_place_made count place
names_made count (Detach node) = is_made count node
names_made count (MoveChildren from to) = is_made count from && is_made count to
names_made count (AddMissing node more) = is_made count node

-- Of the older elements that these edits name only the document and the page's first element are told by ids.
abbrev pub is_first : Ref → Bool
is_first (Fixed id) = nat_le id 1
is_first (Older depth) = true
is_first (Own number) = true

abbrev pub name_first : List Edit → Bool
name_first [] = true
name_first (e ∷ es) = list_all is_first (refs e) && name_first es
