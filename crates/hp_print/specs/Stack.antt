-- What is still to be printed, by the marks on the stack.
use Rattle.std.specs.Prelude.{◌≡◌, ℕ, zero, suc, ◌+◌, ◌-◌, ◌<◌, ◌≤◌, List, [], ◌∷◌, ◌++◌, length, drop, Some}
use Rattle.hp_control.specs.Tree.{Tree, Item, branch, HasChild}
use Rattle.hp_arena.specs.Arena.{Seen}
use Rattle.hp_arena.specs.Readers.{IsIn, HasTag, parent_of, place_of, shown}
use Rattle.hp_store.specs.Lists.{attribute_count}
use Rattle.hp_arena.specs.declared.readers.NodeView.{NodeView}
use Rattle.hp_arena.specs.declared.readers.NodeView.TheVariants as node
use Rattle.hp_control.specs.Tree as item
use Rattle.hp_print.specs.declared.walk.Mark.{Mark}
use Rattle.hp_print.specs.Print.{lines, lines_of, inside}

-- the lines of these items at a depth, in a list this many elements below the document
abbrev pub lines_at : Tree → ℕ → ℕ → List Item → List ℕ
lines_at t level templates items = lines t (length t - level) (level + templates) items

-- the items that are left at a mark
abbrev pub rest : Tree → Mark → List Item
rest t m = drop (place_of m.at) (branch t (parent_of m.at)).inside

abbrev pub mark_lines : Tree → Mark → List ℕ
mark_lines t m = lines_at t m.level m.templates (rest t m)

-- the text that is still to come. The last mark comes first
unfoldable pub pending : Tree → List Mark → List ℕ
pending t [] = []
pending t (m ∷ above) = pending t above ++ mark_lines t m

-- how many steps these items take
unfoldable pub work : Tree → ℕ → List Item → ℕ
work t zero items = 0
work t (suc left) [] = 0
work t (suc left) (x ∷ items) = work t left (inside t x) + 2 + work t (suc left) items

abbrev pub steps_at : Tree → ℕ → List Item → ℕ
steps_at t level items = work t (length t - level) items + 1

abbrev pub mark_steps : Tree → Mark → ℕ
mark_steps t m = steps_at t m.level (rest t m)

unfoldable pub todo : Tree → List Mark → ℕ
todo t [] = 0
todo t (m ∷ above) = todo t above + mark_steps t m

-- the element is this far below the document
abbrev pub IsDeep : Tree → ℕ → ℕ → Type 0
IsDeep t zero id = id ≡ 0
IsDeep t (suc level) id = (parent : ℕ) × (place : ℕ) × (HasChild t parent place id × IsDeep t level parent)

-- the mark is in the tree, at its level
pub record IsMark (t : Seen) (m : Mark) : Type 0 where
  pub at : IsIn t (parent_of m.at) (place_of m.at) m.at
  pub deep : IsDeep t.branches m.level (parent_of m.at)
  pub templates : m.templates ≤ m.level

-- the marks from a place on are in the tree. None has fewer levels above it than marks below it
abbrev pub AreMarks : Seen → ℕ → List Mark → Type 0
AreMarks t place [] = Unit {0}
AreMarks t place (m ∷ above) = IsMark t m × (place ≤ m.level) × AreMarks t (place + 1) above

-- what is to come is this text and then what was to come before, in so many steps more at most
pub record Pushed (t : Seen) (old new : List Mark) (text : List ℕ) (steps : ℕ) : Type 0 where
  pub text_is : pending t.branches new ≡ text ++ pending t.branches old
  pub steps_are : todo t.branches new ≤ todo t.branches old + steps
  pub marks : AreMarks t 0 old → AreMarks t 0 new

-- what stands at the mark is shown, and what is to come behind its lines is the rest of what was to come at the mark and below it,
-- in fewer steps
pub record Stepped (t : Seen) (m : Mark) (view : NodeView) (old new : List Mark) : Type 0 where
  pub text_is : mark_lines t.branches m ++ pending t.branches old ≡ lines_of t.branches (m.level + m.templates) (shown view) ++ pending t.branches new
  pub steps_are : todo t.branches new < todo t.branches old + mark_steps t.branches m
  pub marks : AreMarks t 0 old → AreMarks t 0 new
  pub tag : HasTag t.branches view
  pub there : (id : ℕ) → shown view ≡ Some (item.Element id) → id < length t.branches

-- how many attributes what a view shows has
abbrev pub attributes_in : NodeView → ℕ
attributes_in node.Document = 0
attributes_in node.Contents = 0
attributes_in (node.Doctype name public system) = 0
attributes_in (node.Element id tag) = length tag.now.attributes
attributes_in (node.Text runs) = 0
attributes_in (node.Comment text) = 0

-- no element has more attributes than this
abbrev pub HasRoom : Tree → ℕ → Type 0
HasRoom t most = (id : ℕ) → id < length t → attribute_count (branch t id).tag ≤ most
