-- What a fragment's edits come to, one after the other.
use Rattle.std.specs.Prelude.{◌≡◌, ℕ, suc, if◌then◌else◌, List, [], ◌∷◌, ◌++◌, length}
use Rattle.hp_control.specs.declared.edit.Edit.{Edit}
use Rattle.hp_control.specs.Tree.{Tree, branch, no_branch}
use Rattle.hp_groves.specs.Naming.{edit_by, own_at, own_outer}
use Rattle.hp_groves.specs.Split.{Hand, after_inner, after_outer, empty_hand, is_outer}
use Rattle.hp_growth.specs.Marking.{mark}
use Rattle.hp_growth.specs.declared.marks.Mark.{Mark}

-- the edit with own elements told by ids, from 1 on, and all that is older by 0
abbrev pub own_edit : Edit → Edit
own_edit e = edit_by (own_at 1) e

-- what is at hand after one edit more,
abbrev pub hand_with : Hand → Edit → Hand
hand_with h e = if is_outer 1 h (own_edit e) then after_outer h (own_edit e) else after_inner h (own_edit e)

-- after these edits more,
abbrev pub hand_after : Hand → List Edit → Hand
hand_after h [] = h
hand_after h (e ∷ es) = hand_after (hand_with h e) es

-- and after all edits of a fragment
abbrev pub hand_of : List Edit → Hand
hand_of es = hand_after (empty_hand 1) es

-- what contracts see of a `Growing`: a tree of the document, which is blank, and the own elements behind it; the outer edits; what they
-- have touched of own elements
pub record Grown : Type 0 where
  pub grove : Tree
  pub outer : List Edit
  pub marks : List Mark

-- this is what a fragment's edits come to
pub record IsGrown (es : List Edit) (g : Grown) : Type 0 where
  pub grove : g.grove ≡ (hand_of es).grove
  pub outer : g.outer ≡ own_outer es
  pub children : (number : ℕ) → (hand_of es).children (suc number) ≡ (mark g.marks number).children
  pub parent : (number : ℕ) → (hand_of es).parent (suc number) ≡ (mark g.marks number).parent

-- what a fragment's edits come to leads to what they come to with these more
abbrev pub Grows : Grown → List Edit → Grown → Type 0
Grows old more new = (es : List Edit) → IsGrown es old → IsGrown (es ++ more) new

-- The tree has the document, which is blank, and so many own elements.
pub record IsRooted (t : Tree) (count : ℕ) : Type 0 where
  pub blank : branch t 0 ≡ no_branch
  pub long : length t ≡ suc count
