-- What is still to be written, by the marks on the stack.
use Rattle.std.specs.Prelude.{◌≡◌, ℕ, zero, suc, ◌+◌, ◌-◌, ◌<◌, ◌≤◌, Bool, List, [], ◌∷◌, ◌++◌, length, drop, Option, None, Some, slice_get, encode_utf8_all}
use Rattle.hp_control.specs.Tree.{Tree, Item, branch, HasChild}
use Rattle.hp_arena.specs.Arena.{Seen}
use Rattle.hp_arena.specs.Readers.{IsIn, parent_of, place_of}
use Rattle.hp_serial.specs.declared.walk.Mark.{Mark}
use Rattle.hp_serial.specs.declared.walk.Next.{Next}
use Rattle.hp_serial.specs.declared.walk.Next.TheVariants.{Whole, EndTag}
use Rattle.hp_serial.specs.Html.{html, front, back, inside, raw_inside}

-- an item up to what stands inside it, if there is an item
abbrev pub front_of : Tree → Bool → Option Item → List ℕ
front_of t raw None = []
front_of t raw (Some item) = front t raw item

abbrev pub back_of : Tree → Option Item → List ℕ
back_of t None = []
back_of t (Some item) = back t item

-- the text of these items, in a list this many elements below the document
abbrev pub html_at : Tree → ℕ → Bool → List Item → List ℕ
html_at t level raw items = html t (length t - level) raw items

-- the item at a mark, and what is left in its list behind it
abbrev pub item_at : Tree → Mark → Option Item
item_at t m = slice_get (branch t (parent_of m.at)).inside (place_of m.at)

abbrev pub after : Tree → Mark → List Item
after t m = drop (place_of m.at + 1) (branch t (parent_of m.at)).inside

abbrev pub rest : Tree → Mark → List Item
rest t m = drop (place_of m.at) (branch t (parent_of m.at)).inside

-- what is to be written at a mark this many elements below the document
abbrev pub text_from : Tree → ℕ → Mark → Next → List ℕ
text_from t level m Whole = html_at t level m.raw (rest t m)
text_from t level m EndTag = back_of t (item_at t m) ++ html_at t level m.raw (after t m)

abbrev pub mark_text : Tree → ℕ → Mark → List ℕ
mark_text t level m = text_from t level m m.next

-- the text that is still to come, from a level on: there is one mark a level. The last mark comes first
unfoldable pub pending : Tree → ℕ → List Mark → List ℕ
pending t level [] = []
pending t level (m ∷ above) = pending t (level + 1) above ++ mark_text t level m

-- how many steps these items take
unfoldable pub work : Tree → ℕ → List Item → ℕ
work t zero items = 0
work t (suc left) [] = 0
work t (suc left) (item ∷ items) = work t left (inside t item) + 3 + work t (suc left) items

abbrev pub work_at : Tree → ℕ → List Item → ℕ
work_at t level items = work t (length t - level) items + 1

abbrev pub steps_from : Tree → ℕ → Mark → Next → ℕ
steps_from t level m Whole = work_at t level (rest t m)
steps_from t level m EndTag = work_at t level (after t m) + 1

abbrev pub mark_steps : Tree → ℕ → Mark → ℕ
mark_steps t level m = steps_from t level m m.next

unfoldable pub todo : Tree → ℕ → List Mark → ℕ
todo t level [] = 0
todo t level (m ∷ above) = todo t (level + 1) above + mark_steps t level m

-- the element is this far below the document
abbrev pub IsDeep : Tree → ℕ → ℕ → Type 0
IsDeep t zero id = id ≡ 0
IsDeep t (suc level) id = (parent : ℕ) × (place : ℕ) × (HasChild t parent place id × IsDeep t level parent)

-- the mark is in the tree, at this level
pub record IsMark (t : Seen) (level : ℕ) (m : Mark) : Type 0 where
  pub at : IsIn t (parent_of m.at) (place_of m.at) m.at
  pub deep : IsDeep t.branches level (parent_of m.at)

-- the marks from a level on are in the tree
abbrev pub AreMarks : Seen → ℕ → List Mark → Type 0
AreMarks t level [] = Unit {0}
AreMarks t level (m ∷ above) = IsMark t level m × AreMarks t (level + 1) above

-- what is to come is this text and then what was to come before, in so many steps more at most
pub record Pushed (t : Seen) (old new : List Mark) (text : List ℕ) (steps : ℕ) : Type 0 where
  pub text_is : pending t.branches 0 new ≡ text ++ pending t.branches 0 old
  pub steps_are : todo t.branches 0 new ≤ todo t.branches 0 old + steps
  pub marks : AreMarks t 0 old → AreMarks t 0 new

-- behind the front of an item at a mark, that item's inside, its back, and the rest of its list are to come
abbrev pub Entered : Seen → Mark → Item → List Mark → List Mark → Type 0
Entered t m item old new =
    Pushed t old new
    (html_at t.branches (length old + 1) (raw_inside t.branches item) (inside t.branches item) ++ back t.branches item ++ html_at t.branches (length old) m.raw (after t.branches m))
    (work_at t.branches (length old + 1) (inside t.branches item) + work_at t.branches (length old) (after t.branches m) + 1)

-- what was written and what is still to come, in UTF-8
abbrev pub whole : Tree → List ℕ → List Mark → List ℕ
whole t out marks = out ++ encode_utf8_all (pending t 0 marks)

-- a part of what was to come at a mark and below it was written, in fewer steps
pub record Stepped (t : Seen) (m : Mark) (out new_out : List ℕ) (old new : List Mark) : Type 0 where
  pub text_is : whole t.branches new_out new ≡ out ++ encode_utf8_all (mark_text t.branches (length old) m ++ pending t.branches 0 old)
  pub steps_are : todo t.branches 0 new < todo t.branches 0 old + mark_steps t.branches (length old) m
  pub marks : AreMarks t 0 old → AreMarks t 0 new
