-- The rows of this crate's modes, and the numbers that they have.
use Rattle.std.specs.Prelude.{List, ◌++◌, Option, None, Some}
use Rattle.hp_elements.specs.declared.token.Mode.{Mode}
use Rattle.hp_elements.specs.declared.token.Mode.TheVariants as mode
use Rattle.hp_elements.specs.Rules.{Row}
use Rattle.hp_rules_table.specs.TableModes.{in_table, in_table_text, in_caption, in_column_group, in_table_body, in_row, in_cell}

-- the rows of a mode, where they are in this crate
abbrev pub rows_of : Mode → Option (List Row)
rows_of mode.InTable = Some in_table
rows_of mode.InTableText = Some in_table_text
rows_of mode.InCaption = Some in_caption
rows_of mode.InColumnGroup = Some in_column_group
rows_of mode.InTableBody = Some in_table_body
rows_of mode.InRow = Some in_row
rows_of mode.InCell = Some in_cell
rows_of _ = None

-- all rows, as they are numbered
abbrev pub all_rows : List Row
all_rows = in_table ++ in_table_text ++ in_caption ++ in_column_group ++ in_table_body ++ in_row ++ in_cell
