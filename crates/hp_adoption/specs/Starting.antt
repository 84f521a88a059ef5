-- A climb from its block on.
use Rattle.std.specs.Prelude.{ℕ, List}
use Rattle.hp_control.specs.declared.edit.Edit.{Edit}
use Rattle.hp_control.specs.declared.element.OpenElement.{OpenElement}
use Rattle.hp_control.specs.declared.element.FormattingEntry.{FormattingEntry}
use Rattle.hp_control.specs.Adoption.{Climbed}
use Rattle.hp_adoption.specs.Turning.{from_block}

-- at the block, after these edits
abbrev pub block_after : List Edit → OpenElement → List FormattingEntry → ℕ → Climbed
block_after before block list next = record (from_block block list next) { edits = before }
