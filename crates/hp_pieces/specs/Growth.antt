-- What a run over a text comes to: what its inner edits make, and its outer edits.
use Rattle.std.specs.Prelude.{◌≡◌, ℕ, List, map}
use Rattle.hp_names.specs.References.{Reference}
use Rattle.hp_control.specs.declared.edit.Edit.{Edit}
use Rattle.hp_control.specs.Apply.{named_edit}
use Rattle.hp_control.specs.States.{ControlState}
use Rattle.hp_control.specs.Tree.{Tree, applied_all}
use Rattle.hp_groves.specs.Grafts.{graft}
use Rattle.hp_groves.specs.Naming.{IsBelow, own_grove, own_outer}
use Rattle.hp_pieces.specs.Running.{Leads}

-- Over s the run over the text leads to that state, and of its edits this is what the inner ones make, and these are the outer ones.
pub record Grows (names : List Reference) (text : List ℕ) (s : ControlState) (grove : Tree) (outer : List Edit) (exit : ControlState) : Type 0 where
  pub edits : List Edit
  pub leads : Leads names text s (map (named_edit s) edits) exit
  pub below : IsBelow s edits
  pub inner : grove ≡ own_grove edits
  pub others : outer ≡ own_outer edits

-- What comes of it on the tree of such a state: what the inner edits make stands behind the tree, and then come the outer edits.
abbrev pub grown_tree : Tree → List Edit → ControlState → Tree → Tree
grown_tree grove outer s t = applied_all (graft t grove) (map (named_edit s) outer)
