-- Which edits of a list reach what is older, and what the others make by themselves. Elements are named by their ids: those below `next`
-- are older, and those from `next` on are made by the list itself.
use Rattle.std.specs.Prelude.{ℕ, ◌+◌, ◌-◌, ◌==◌, Bool, true, false, ◌||◌, ◌&&◌, if◌then◌else◌, List, [], ◌∷◌, ◌++◌, map, drop, replicate, nat_lt}
use Rattle.std.specs.List.{flat_map, list_any, list_all}
use Rattle.hp_control.specs.declared.edit.Child.{Child}
use Rattle.hp_control.specs.declared.edit.Child.TheVariants as child
use Rattle.hp_control.specs.declared.edit.Edit.{Edit}
use Rattle.hp_control.specs.declared.edit.Edit.TheVariants.{NewElement, Put, Detach, MoveChildren, AddMissing}
use Rattle.hp_control.specs.declared.edit.Place.{Place}
use Rattle.hp_control.specs.declared.edit.Place.TheVariants.{Into, Foster}
use Rattle.hp_control.specs.Tree.{Tree, applied, id_of, is_element, no_branch}
use Rattle.hp_groves.specs.Grafts.{renumbered}

-- the element that is put, where it is one
abbrev pub child_ids : Child → List ℕ
child_ids (child.Element node) = id_of node ∷ []
child_ids (child.Text text) = []
child_ids (child.Comment text) = []
child_ids (child.Doctype parts) = []

-- the table of a foster place: whether it has a parent is looked up
abbrev pub table_ids : Place → List ℕ
table_ids (Into parent) = []
table_ids (Foster table above) = id_of table ∷ []

-- the element that a place names as the parent; at a foster place the one for a table without a parent
abbrev pub parent_id : Place → ℕ
parent_id (Into parent) = id_of parent
parent_id (Foster table above) = id_of above

-- all that an edit names
abbrev pub ids : Edit → List ℕ
ids (NewElement tag) = []
ids (Put c place) = child_ids c ++ table_ids place ++ parent_id place ∷ []
ids (Detach node) = id_of node ∷ []
ids (MoveChildren from to) = id_of from ∷ id_of to ∷ []
ids (AddMissing node more) = id_of node ∷ []

-- The elements whose parent an edit reads or changes. Children that move all together count with their list.
abbrev pub moved : Edit → List ℕ
moved (NewElement tag) = []
moved (Put c place) = child_ids c ++ table_ids place
moved (Detach node) = id_of node ∷ []
moved (MoveChildren from to) = []
moved (AddMissing node more) = []

-- the elements that an edit names as those whose children it reads or changes
abbrev pub parents_named : Edit → List ℕ
parents_named (NewElement tag) = []
parents_named (Put c place) = parent_id place ∷ []
parents_named (Detach node) = []
parents_named (MoveChildren from to) = id_of from ∷ id_of to ∷ []
parents_named (AddMissing node more) = []

-- of branches with ids from `first` on, those among whose children an element stands
abbrev pub parents_from : ℕ → Tree → ℕ → List ℕ
parents_from first [] id = []
parents_from first (b ∷ bs) id = (if list_any (is_element id) b.inside then first ∷ [] else []) ++ parents_from (first + 1) bs id

-- all elements whose children an edit reads or changes: also those among whose children a moved one stands
abbrev pub parents_touched : Tree → Edit → List ℕ
parents_touched t e = parents_named e ++ flat_map (parents_from 0 t) (moved e)

-- what is at hand before an edit: the tree of what inner edits have made, in which older elements are blank; whose children an earlier
-- outer edit touched, and whose parent
pub record Hand : Type 0 where
  pub grove : Tree
  pub children : ℕ → Bool
  pub parent : ℕ → Bool

-- An edit is outer where it names what is older, or touches what an earlier outer edit touched. Each other edit is inner.
abbrev pub is_outer : ℕ → Hand → Edit → Bool
is_outer next h e = list_any (λ id. nat_lt id next) (ids e) || list_any h.children (parents_touched h.grove e) || list_any h.parent (moved e)

-- the id is one of these
abbrev pub is_among : List ℕ → ℕ → Bool
is_among xs id = list_any (λ x. x == id) xs

-- what is at hand after an outer edit,
abbrev pub after_outer : Hand → Edit → Hand
after_outer h e = record {
  grove = h.grove;
  children = λ id. h.children id || is_among (parents_touched h.grove e) id;
  parent = λ id. h.parent id || is_among (moved e) id;
}

-- and after an inner one
abbrev pub after_inner : Hand → Edit → Hand
after_inner h e = record h { grove = applied h.grove e }

-- what inner edits made, and the outer edits in order
pub record Parts : Type 0 where
  pub grove : Tree
  pub outer : List Edit

-- one more outer edit, before the others
abbrev pub outer_first : Edit → Parts → Parts
outer_first e p = record p { outer = e ∷ p.outer }

-- the split of the edits that are left, by what is at hand
abbrev pub split_from : ℕ → Hand → List Edit → Parts
split_from next h [] = record { grove = h.grove; outer = [] }
split_from next h (e ∷ es) =
    if is_outer next h e then outer_first e (split_from next (after_outer h e) es) else split_from next (after_inner h e) es

-- before the first edit: nothing was made or touched
abbrev pub empty_hand : ℕ → Hand
empty_hand next = record { grove = replicate next no_branch; children = λ id. false; parent = λ id. false }

-- the split of all edits
abbrev pub split : ℕ → List Edit → Parts
split next es = split_from next (empty_hand next) es

-- what the inner edits make of no elements at all. Own elements are numbered from 0
abbrev pub grove_of : ℕ → List Edit → Tree
grove_of next es = map (renumbered (λ id. id - next)) (drop next (split next es).grove)

-- the outer edits, in order
abbrev pub outer_of : ℕ → List Edit → List Edit
outer_of next es = (split next es).outer

-- how many elements an edit makes
abbrev pub made : Edit → ℕ
made (NewElement tag) = 1
made (Put c place) = 0
made (Detach node) = 0
made (MoveChildren from to) = 0
made (AddMissing node more) = 0

-- and how many a list of edits makes
abbrev pub made_by : List Edit → ℕ
made_by [] = 0
made_by (e ∷ es) = made e + made_by es

-- each edit names only elements that are there before it, where those below `next` are there at first
abbrev pub name_what_is_there : ℕ → List Edit → Bool
name_what_is_there next [] = true
name_what_is_there next (e ∷ es) = list_all (λ id. nat_lt id next) (ids e) && name_what_is_there (next + made e) es
