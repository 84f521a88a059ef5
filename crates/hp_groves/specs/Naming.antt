-- The split of a fragment's edits, which tell own elements by number, and older ones by where they stand.
use Rattle.std.specs.Prelude.{◌≡◌, ℕ, ◌+◌, ◌<◌, Bool, true, false, ◌||◌, ◌&&◌, if◌then◌else◌, List, [], ◌∷◌, ◌++◌, map, nat_lt}
use Rattle.std.specs.List.{list_all}
use Rattle.hp_control.specs.declared.edit.Child.{Child}
use Rattle.hp_control.specs.declared.edit.Child.TheVariants as child
use Rattle.hp_control.specs.declared.edit.Edit.{Edit}
use Rattle.hp_control.specs.declared.edit.Edit.TheVariants.{NewElement, Put, Detach, MoveChildren, AddMissing}
use Rattle.hp_control.specs.declared.edit.Place.{Place}
use Rattle.hp_control.specs.declared.edit.Place.TheVariants.{Into, Foster}
use Rattle.hp_control.specs.declared.edit.Ref.{Ref}
use Rattle.hp_control.specs.declared.edit.Ref.TheVariants.{Fixed, Older, Own}
use Rattle.hp_control.specs.Apply.{named}
use Rattle.hp_control.specs.States.{ControlState}
use Rattle.hp_control.specs.Tree.{Tree, id_of}
use Rattle.hp_groves.specs.Split.{Hand, after_inner, after_outer, empty_hand, grove_of, is_outer}

-- an edit with this done to each of its references
abbrev pub place_by : (Ref → Ref) → Place → Place
place_by name (Into parent) = Into (name parent)
place_by name (Foster table above) = Foster (name table) (name above)

abbrev pub child_by : (Ref → Ref) → Child → Child
child_by name (child.Element node) = child.Element (name node)
child_by name (child.Text text) = child.Text text
child_by name (child.Comment text) = child.Comment text
child_by name (child.Doctype parts) = child.Doctype parts

abbrev pub edit_by : (Ref → Ref) → Edit → Edit
edit_by name (NewElement tag) = NewElement tag
edit_by name (Put c place) = Put (child_by name c) (place_by name place)
edit_by name (Detach node) = Detach (name node)
edit_by name (MoveChildren from to) = MoveChildren (name from) (name to)
edit_by name (AddMissing node more) = AddMissing (name node) more

-- own elements by ids from `next` on, and all that isn't own as the document
abbrev pub own_at : ℕ → Ref → Ref
own_at next (Fixed id) = Fixed 0
own_at next (Older depth) = Fixed 0
own_at next (Own number) = Fixed (next + number)

-- the outer edits, not yet named; by a name for each reference it is told which are
abbrev pub outer_before : (Ref → Ref) → ℕ → Hand → List Edit → List Edit
outer_before name next h [] = []
outer_before name next h (e ∷ es) =
    if is_outer next h (edit_by name e)
    then e ∷ outer_before name next (after_outer h (edit_by name e)) es
    else outer_before name next (after_inner h (edit_by name e)) es

-- What the inner edits of a fragment make, and its outer edits. Nothing but the fragment's own edits is read: its elements are made behind
-- the document alone.
abbrev pub own_grove : List Edit → Tree
own_grove es = grove_of 1 (map (edit_by (own_at 1)) es)

abbrev pub own_outer : List Edit → List Edit
own_outer es = outer_before (own_at 1) 1 (empty_hand 1) es

-- all references of an edit
abbrev pub child_refs : Child → List Ref
child_refs (child.Element node) = node ∷ []
child_refs (child.Text text) = []
child_refs (child.Comment text) = []
child_refs (child.Doctype parts) = []

abbrev pub place_refs : Place → List Ref
place_refs (Into parent) = parent ∷ []
place_refs (Foster table above) = table ∷ above ∷ []

abbrev pub refs : Edit → List Ref
refs (NewElement tag) = []
refs (Put c place) = child_refs c ++ place_refs place
refs (Detach node) = node ∷ []
refs (MoveChildren from to) = from ∷ to ∷ []
refs (AddMissing node more) = node ∷ []

abbrev pub is_own : Ref → Bool
is_own (Fixed id) = false
is_own (Older depth) = false
is_own (Own number) = true

-- over a state each reference that isn't to an own element is to an older one
abbrev pub names_older : ControlState → List Edit → Bool
names_older s [] = true
names_older s (e ∷ es) = list_all (λ r. is_own r || nat_lt (id_of (named s r)) s.next) (refs e) && names_older s es

-- the document is there, and what the edits name of what isn't own is older
pub record IsBelow (s : ControlState) (es : List Edit) : Type 0 where
  pub document : 0 < s.next
  pub older : names_older s es ≡ true
