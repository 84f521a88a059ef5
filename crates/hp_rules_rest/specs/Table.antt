-- The rows of this crate's modes, and the numbers that they have.
use Rattle.std.specs.Prelude.{List, ◌++◌, Option, None, Some}
use Rattle.hp_elements.specs.declared.token.Mode.{Mode}
use Rattle.hp_elements.specs.declared.token.Mode.TheVariants as mode
use Rattle.hp_elements.specs.Rules.{Row}
use Rattle.hp_rules_rest.specs.Select.{in_select, in_select_in_table, in_template}
use Rattle.hp_rules_rest.specs.Foreign.{foreign}

-- the rows of a mode, where they are in this crate
abbrev pub rows_of : Mode → Option (List Row)
rows_of mode.InSelect = Some in_select
rows_of mode.InSelectInTable = Some in_select_in_table
rows_of mode.InTemplate = Some in_template
rows_of _ = None

-- all rows, as they are numbered
abbrev pub all_rows : List Row
all_rows = in_select ++ in_select_in_table ++ in_template ++ foreign
