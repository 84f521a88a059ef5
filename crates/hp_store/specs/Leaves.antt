-- What leaves mean.
use Rattle.std.specs.Prelude.{◌≡◌, Bool, true, false, ℕ, ◌+◌, ◌≤◌, ◌++◌, List, [], length, map, slice_set}
use Rattle.std.specs.List.{concat}
use Rattle.std.specs.Option.{unwrap_or}
use Rattle.hp_elements.specs.declared.token.DoctypeParts.{DoctypeParts}
use Rattle.hp_control.specs.Tree.{Item}
use Rattle.hp_control.specs.Tree as item
use Rattle.hp_store.specs.declared.part.Leaf.{Leaf as LeafOf}
use Rattle.hp_store.specs.declared.part.Leaf.TheVariants.{Run, Text, Comment, Doctype}
use Rattle.hp_store.specs.Lists.{leaf_at}

-- a doctype among children: a missing name is the empty text
abbrev pub doctype_item : DoctypeParts → Item
doctype_item parts = item.Doctype (unwrap_or parts.name []) parts.public parts.system

-- what a leaf is among children: a text is its runs one after the other
abbrev pub leaf_item : LeafOf → Item
leaf_item (Run run) = item.Text run
leaf_item (Text runs) = item.Text (concat runs)
leaf_item (Comment text) = item.Comment text
leaf_item (Doctype parts) = doctype_item parts

-- what the leaves are among children
abbrev pub leaf_items : List LeafOf → List Item
leaf_items leaves = map leaf_item leaves

-- of how many runs a leaf consists
abbrev pub run_count : LeafOf → ℕ
run_count (Run run) = 1
run_count (Text runs) = length runs
run_count (Comment text) = 0
run_count (Doctype parts) = 0

-- the text that a leaf is
abbrev pub text_of : LeafOf → List ℕ
text_of (Run run) = run
text_of (Text runs) = concat runs
text_of (Comment text) = []
text_of (Doctype parts) = []

-- whether a leaf is a text
abbrev pub is_text_of : LeafOf → Bool
is_text_of (Run run) = true
is_text_of (Text runs) = true
is_text_of (Comment text) = false
is_text_of (Doctype parts) = false

-- a list of two items, whose cells are taken for runs
abbrev pub IsCell : List (List ℕ) → Type 0
IsCell cell = length cell ≡ 2

-- a text that got more at its end, in one more run at most
pub record IsTextLonger (old new : LeafOf) (more : List ℕ) : Type 0 where
  pub is_text : is_text_of new ≡ true
  pub text : text_of new ≡ text_of old ++ more
  pub runs : run_count new ≤ run_count old + 1

-- the text of one leaf got more at its end, in one more run at most, and the other leaves stay
pub record IsTextAdded (old new : List LeafOf) (number : ℕ) (text : List ℕ) : Type 0 where
  pub items : leaf_items new ≡ slice_set (leaf_items old) number (item.Text (text_of (leaf_at old number) ++ text))
  pub count : length new ≡ length old
  pub runs : (k : ℕ) → run_count (leaf_at new k) ≤ run_count (leaf_at old k) + 1
