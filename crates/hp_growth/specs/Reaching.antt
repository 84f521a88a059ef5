-- Which edits reach what is older or was touched, as the marks tell it, and what they touch.
use Rattle.std.specs.Prelude.{◌≡◌, ℕ, ◌==◌, ◌≤◌, ◌||◌, Bool, true, false, List, [], ◌∷◌, ◌++◌, IfSome, option_to_list}
use Rattle.std.specs.List.{list_any}
use Rattle.hp_control.specs.declared.edit.Child.{Child}
use Rattle.hp_control.specs.declared.edit.Child.TheVariants as child
use Rattle.hp_control.specs.declared.edit.Edit.{Edit}
use Rattle.hp_control.specs.declared.edit.Edit.TheVariants.{NewElement, Put, Detach, MoveChildren, AddMissing}
use Rattle.hp_control.specs.declared.edit.Place.{Place}
use Rattle.hp_control.specs.declared.edit.Place.TheVariants.{Into, Foster}
use Rattle.hp_control.specs.Tree.{Tree, applied, id_of}
use Rattle.hp_groves.specs.Split.{moved, parents_from, parents_touched}
use Rattle.hp_growth.specs.Growing.{Grown, own_edit}
use Rattle.hp_growth.specs.Marking.{IsMarked, children_touched, marks_made, parent_touched}
use Rattle.hp_growth.specs.declared.marks.Mark.{Mark}
use Rattle.hp_growth.specs.declared.reaching.Way.{Way}
use Rattle.hp_growth.specs.declared.reaching.Way.TheVariants.{Refused, Outer, Inner}
use Rattle.hp_growth.specs.declared.touched.Touched.{Touched}

-- the element's parent was touched, or the children among which it stands
abbrev pub is_tied : Tree → List Mark → ℕ → Bool
is_tied t marks id = parent_touched marks id || list_any (children_touched marks) (parents_from 0 t id)

abbrev pub child_reaches : Tree → List Mark → Child → Bool
child_reaches t marks (child.Element node) = is_tied t marks (id_of node)
child_reaches t marks (child.Text text) = false
child_reaches t marks (child.Comment text) = false
child_reaches t marks (child.Doctype parts) = false

abbrev pub place_reaches : Tree → List Mark → Place → Bool
place_reaches t marks (Into parent) = children_touched marks (id_of parent)
place_reaches t marks (Foster table above) = children_touched marks (id_of above) || is_tied t marks (id_of table)

-- the edit, told by ids, is an outer one
abbrev pub reaches : Tree → List Mark → Edit → Bool
reaches t marks (NewElement tag) = false
reaches t marks (Put c place) = place_reaches t marks place || child_reaches t marks c
reaches t marks (Detach node) = is_tied t marks (id_of node)
reaches t marks (MoveChildren from to) = children_touched marks (id_of from) || children_touched marks (id_of to)
reaches t marks (AddMissing node more) = id_of node == 0

-- which way an edit goes, or a part of one: it is refused where it names what it can't, and else it is outer where it reaches so far
abbrev pub way : Bool → Bool → Way
way false reaching = Refused
way true true = Outer
way true false = Inner

-- the way of two parts together
abbrev pub both : Way → Way → Way
both Refused w = Refused
both Outer Refused = Refused
both Outer Outer = Outer
both Outer Inner = Outer
both Inner w = w

-- the ids of what an edit touches: the elements whose children it names, and those that it moves
abbrev pub parents_of : Touched → List ℕ
parents_of x = option_to_list x.parent ++ option_to_list x.other

abbrev pub moved_of : Touched → List ℕ
moved_of x = option_to_list x.child ++ option_to_list x.table

-- each of them is 0 or an own element's, of so many
pub record AreWithin (count : ℕ) (x : Touched) : Type 0 where
  pub parent : IfSome x.parent (λ id. id ≤ count)
  pub other : IfSome x.other (λ id. id ≤ count)
  pub child : IfSome x.child (λ id. id ≤ count)
  pub table : IfSome x.table (λ id. id ≤ count)

-- an inner edit is made,
pub record IsInnerPut (e : Edit) (old new : Grown) : Type 0 where
  pub grove : new.grove ≡ applied old.grove (own_edit e)
  pub outer : new.outer ≡ old.outer
  pub marks : new.marks ≡ old.marks ++ marks_made e

-- and an outer one is kept, and what it touches is marked
pub record IsOuterPut (e : Edit) (old new : Grown) : Type 0 where
  pub grove : new.grove ≡ old.grove
  pub outer : new.outer ≡ old.outer ++ e ∷ []
  pub marks : IsMarked old.marks new.marks (parents_touched old.grove (own_edit e)) (moved (own_edit e))
