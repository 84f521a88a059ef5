-- What callers see of a fragment over an older state that isn't known, and what the type keeps.
use Rattle.std.specs.Prelude.{ℕ, ◌<◌, ◌≤◌, ◌==◌, if◌then◌else◌, List, Option, length, take, IsUtf8}
use Rattle.std.specs.Str.{chars, IsCharBoundary}
use Rattle.hp_names.specs.References.{Reference}
use Rattle.hp_control.specs.declared.change.Change.{Change}
use Rattle.hp_control.specs.declared.edit.Edit.{Edit}
use Rattle.hp_control.specs.declared.question.Kept.{Kept}
use Rattle.hp_control.specs.Apply.{applied}
use Rattle.hp_control.specs.Holds.{Holds}
use Rattle.hp_control.specs.States.{ControlState, Fits, IsValid}
use Rattle.hp_control.specs.Tree.{Tree}
use Rattle.hp_pieces.specs.Growth.{Grows, grown_tree}
use Rattle.hp_pieces.specs.declared.by.By.{By}

-- A text in bytes and how many of them are covered, the answers that are assumed of the older state, what is changed over it, what its
-- inner edits make, and its outer edits, which name older nodes by where they stand. Read by this table of reference names. Who guessed
-- it may be known.
pub record Guessed : Type 0 where
  pub names : List Reference
  pub text : List ℕ
  pub covered : ℕ
  pub assumptions : List Kept
  pub change : Change
  pub grove : Tree
  pub outer : List Edit
  pub by : Option By

abbrev pub covered_text : Guessed → List ℕ
covered_text f = chars (take f.covered f.text)

-- Over each valid state of which what is assumed is true, the change, what the inner edits make, and the outer edits are those of the run
-- over what is covered.
pub record IsSound (f : Guessed) : Type 0 where
  pub utf8 : IsUtf8 f.text
  pub within : f.covered ≤ length f.text
  pub boundary : IsCharBoundary f.text f.covered
  pub sound : (s : ControlState) → IsValid s → Fits s → Holds f.assumptions s → 0 < f.covered → Grows f.names (covered_text f) s f.grove f.outer (applied f.change s)

-- applied to an older state; what covers nothing leaves it as it is
abbrev pub state_behind : Guessed → ControlState → ControlState
state_behind f s = if f.covered == 0 then s else applied f.change s

-- what it makes of the tree of such a state: what its inner edits make stands behind the tree, and then come the outer edits
abbrev pub tree_behind : Guessed → ControlState → Tree → Tree
tree_behind f s t = if f.covered == 0 then t else grown_tree f.grove f.outer s t
