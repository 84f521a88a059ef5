-- What callers see of a fragment and of an ending, and what the two types keep.
use Rattle.std.specs.Prelude.{ℕ, List, All}
use Rattle.std.specs.Str.{IsUtf8, chars}
use Rattle.hp_names.specs.BuiltIn.{built_in}
use Rattle.hp_control.specs.declared.edit.Edit.{Edit}
use Rattle.hp_control.specs.Edits.{IsFixedEdit}
use Rattle.hp_control.specs.States.{ControlState}
use Rattle.hp_control.specs.Tree.{Tree}
use Rattle.hp_pieces.specs.Growth.{Grows}
use Rattle.hp_pieces.specs.Running.{Ends}

-- A text in bytes, the state before it, the state behind it, what its inner edits make, and its outer edits. Own elements are counted from
-- the entry's next id on.
pub record Known : Type 0 where
  pub text : List ℕ
  pub entry : ControlState
  pub exit : ControlState
  pub grove : Tree
  pub outer : List Edit

-- It is the run over the code points of the text.
pub record IsRun (known : Known) : Type 0 where
  pub utf8 : IsUtf8 known.text
  pub grows : Grows built_in (chars known.text) known.entry known.grove known.outer known.exit

-- the state where the input ends, and the edits
pub record Last : Type 0 where
  pub entry : ControlState
  pub edits : List Edit

pub record IsEnd (last : Last) : Type 0 where
  pub ends : Ends built_in last.entry last.edits
  pub fixed : All IsFixedEdit last.edits
