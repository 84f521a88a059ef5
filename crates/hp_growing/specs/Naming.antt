-- That edits name what is there, and that ids are counted.
use Rattle.std.specs.Prelude.{◌≡◌, ℕ, ◌+◌, true, List, length}
use Rattle.hp_control.specs.declared.edit.Edit.{Edit}
use Rattle.hp_control.specs.Tree.{Tree}
use Rattle.hp_groves.specs.Laws.{HasOnlyWhatIsThere}
use Rattle.hp_groves.specs.Split.{made_by, name_what_is_there}

-- Where `next` is the next id before the edits, and `later` the one behind them: each edit names only elements that are there before it,
-- and each element that they make has an id of its own.
pub record NamesThere (next : ℕ) (edits : List Edit) (later : ℕ) : Type 0 where
  pub named : name_what_is_there next edits ≡ true
  pub counted : later ≡ next + made_by edits

-- the tree has the elements below the next id, and only they stand in lists of children
pub record IsCounted (next : ℕ) (t : Tree) : Type 0 where
  pub count : length t ≡ next
  pub there : HasOnlyWhatIsThere t
