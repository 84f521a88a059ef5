-- What is still to be found, by the marks on the stack.
use Rattle.std.specs.Prelude.{◌≡◌, ℕ, zero, suc, ◌+◌, ◌-◌, ◌<◌, ◌≤◌, List, [], ◌∷◌, ◌++◌, length, drop, map, Option, None, Some, slice_get, if◌then◌else◌}
use Rattle.hp_elements.specs.declared.tag.Tag.{Tag}
use Rattle.hp_control.specs.Tree.{Tree, Item, branch, HasChild}
use Rattle.hp_control.specs.Tree as item
use Rattle.hp_arena.specs.Arena.{Seen}
use Rattle.hp_arena.specs.Readers.{IsIn, element_at, is_template, parent_of, place_of}
use Rattle.hp_arena.specs.declared.readers.At.{At}
use Rattle.hp_select.specs.declared.rows.Reach.{Reach}
use Rattle.hp_select.specs.declared.selector.Step.{Step}
use Rattle.hp_select.specs.declared.walk.Mark.{Mark}
use Rattle.hp_select.specs.declared.walk.Next.{Next}
use Rattle.hp_select.specs.declared.walk.Next.TheVariants as next
use Rattle.hp_select.specs.Rows.{is_selected, no_row, row_below}
use Rattle.hp_select.specs.Selected.{inside}

-- an element below this row, if it is selected
abbrev pub hit : List Step → List Reach → ℕ → Option Tag → List ℕ
hit steps row id None = []
hit steps row id (Some tag) = if is_selected steps (row_below tag steps row) then id ∷ [] else []

abbrev pub own_hit : Tree → List Step → List Reach → Item → List ℕ
own_hit t steps row (item.Element id) = hit steps row id (branch t id).tag
own_hit t steps row (item.Text text) = []
own_hit t steps row (item.Comment text) = []
own_hit t steps row (item.Doctype name public system) = []

-- the row for what stands inside an element with this tag: what stands in a template has no ancestors outside
abbrev pub inner_row : List Step → Tag → List Reach → List Reach
inner_row steps tag row = if is_template tag then no_row steps else row

abbrev pub row_in : List Step → List Reach → Option Tag → List Reach
row_in steps row None = row
row_in steps row (Some tag) = inner_row steps tag (row_below tag steps row)

abbrev pub row_inside : Tree → List Step → List Reach → Item → List Reach
row_inside t steps row (item.Element id) = row_in steps row (branch t id).tag
row_inside t steps row (item.Text text) = row
row_inside t steps row (item.Comment text) = row
row_inside t steps row (item.Doctype name public system) = row

-- the elements that are found among these items and below, where no way down has more than `left` lists of items
unfoldable pub found_in : Tree → List Step → ℕ → List Reach → List Item → List ℕ
found_in t steps zero row items = []
found_in t steps (suc left) row [] = []
found_in t steps (suc left) row (item ∷ items) =
    own_hit t steps row item ++ found_in t steps left (row_inside t steps row item) (inside t item) ++ found_in t steps (suc left) row items

-- the same of a list this many elements below the document
abbrev pub found_at : Tree → List Step → ℕ → List Reach → List Item → List ℕ
found_at t steps level row items = found_in t steps (length t - level) row items

-- the item at a mark
abbrev pub item_at : Tree → Mark → Option Item
item_at t m = slice_get (branch t (parent_of m.at)).inside (place_of m.at)

-- what is left at a mark, with its item and behind it
abbrev pub rest : Tree → Mark → List Item
rest t m = drop (place_of m.at) (branch t (parent_of m.at)).inside

abbrev pub after : Tree → Mark → List Item
after t m = drop (place_of m.at + 1) (branch t (parent_of m.at)).inside

abbrev pub items_from : Tree → Mark → Next → List Item
items_from t m next.Item = rest t m
items_from t m next.Behind = after t m

-- what is to be found at a mark this many elements below the document
abbrev pub mark_found : Tree → List Step → ℕ → Mark → List ℕ
mark_found t steps level m = found_at t steps level m.row.items (items_from t m m.next)

-- what is still to be found, from a level on: there is one mark a level. The last mark comes first
unfoldable pub pending : Tree → List Step → ℕ → List Mark → List ℕ
pending t steps level [] = []
pending t steps level (m ∷ above) = pending t steps (level + 1) above ++ mark_found t steps level m

-- how many steps these items take
unfoldable pub work : Tree → ℕ → List Item → ℕ
work t zero items = 0
work t (suc left) [] = 0
work t (suc left) (item ∷ items) = work t left (inside t item) + 3 + work t (suc left) items

abbrev pub work_at : Tree → ℕ → List Item → ℕ
work_at t level items = work t (length t - level) items + 1

abbrev pub steps_from : Tree → ℕ → Mark → Next → ℕ
steps_from t level m next.Item = work_at t level (rest t m)
steps_from t level m next.Behind = work_at t level (after t m) + 1

abbrev pub mark_steps : Tree → ℕ → Mark → ℕ
mark_steps t level m = steps_from t level m m.next

unfoldable pub todo : Tree → ℕ → List Mark → ℕ
todo t level [] = 0
todo t level (m ∷ above) = todo t (level + 1) above + mark_steps t level m

-- the element is this far below the document
abbrev pub IsDeep : Tree → ℕ → ℕ → Type 0
IsDeep t zero id = id ≡ 0
IsDeep t (suc level) id = (parent : ℕ) × (place : ℕ) × (HasChild t parent place id × IsDeep t level parent)

-- the mark is in the tree, at this level
pub record IsMark (t : Seen) (level : ℕ) (m : Mark) : Type 0 where
  pub at : IsIn t (parent_of m.at) (place_of m.at) m.at
  pub deep : IsDeep t.branches level (parent_of m.at)

-- the marks from a level on are in the tree, with rows for these steps
abbrev pub AreMarks : Seen → List Step → ℕ → List Mark → Type 0
AreMarks t steps level [] = Unit {0}
AreMarks t steps level (m ∷ above) = IsMark t level m × (length m.row.items ≡ length steps) × AreMarks t steps (level + 1) above

-- what is to be found is this and then what was to be found before, in so many steps more at most
pub record Pushed (t : Seen) (steps : List Step) (old new : List Mark) (ids : List ℕ) (more : ℕ) : Type 0 where
  pub found_is : pending t.branches steps 0 new ≡ ids ++ pending t.branches steps 0 old
  pub steps_are : todo t.branches 0 new ≤ todo t.branches 0 old + more
  pub marks : AreMarks t steps 0 old → AreMarks t steps 0 new

-- whatever steps have such a row
abbrev pub ForSteps : List Reach → (List Step → Type 0) → Type 0
ForSteps row P = (steps : List Step) → length row ≡ length steps → P steps

-- these items below a row are to be found, and then what was to be found before
abbrev pub IsPushed : Seen → List Reach → List Item → List Mark → List Mark → Type 0
IsPushed t row items old new =
    ForSteps row (λ steps. Pushed t steps old new (found_at t.branches steps (length old) row items) (work_at t.branches (length old) items))

-- behind an element at a mark, what stands inside it and the rest of its list are to come
abbrev pub Entered : Seen → List Step → Mark → ℕ → List Reach → List Mark → List Mark → Type 0
Entered t steps m id row old new =
    Pushed t steps old new
    (found_at t.branches steps (length old + 1) row (branch t.branches id).inside ++ found_at t.branches steps (length old) m.row.items (after t.branches m))
    (work_at t.branches (length old + 1) (branch t.branches id).inside + work_at t.branches (length old) (after t.branches m) + 1)

-- what was found with one more, where a chain ends at its row
abbrev pub with_selected : List Step → List Reach → At → List At → List At
with_selected steps row at found = if is_selected steps row then found ++ at ∷ [] else found

-- what was found and what is still to be found
abbrev pub whole : Tree → List Step → List At → List Mark → List (Option ℕ)
whole t steps found marks = map (element_at t) found ++ map Some (pending t steps 0 marks)

-- a part of what was to be found at a mark and below it was found, in fewer steps
pub record Stepped (t : Seen) (steps : List Step) (m : Mark) (found new_found : List At) (old new : List Mark) : Type 0 where
  pub found_is : whole t.branches steps new_found new ≡ map (element_at t.branches) found ++ map Some (mark_found t.branches steps (length old) m ++ pending t.branches steps 0 old)
  pub steps_are : todo t.branches 0 new < todo t.branches 0 old + mark_steps t.branches (length old) m
  pub marks : AreMarks t steps 0 old → AreMarks t steps 0 new
