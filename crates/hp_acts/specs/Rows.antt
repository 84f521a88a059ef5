-- The row that a token has: the crate that has it, and its number there.
use Rattle.std.specs.Prelude.{ℕ, List, Option}
use Rattle.hp_elements.specs.declared.token.Mode.{Mode}
use Rattle.hp_elements.specs.declared.token.Mode.TheVariants as mode
use Rattle.hp_elements.specs.Rules.{Row}
use Rattle.hp_rules_page.specs.Table as page
use Rattle.hp_rules_body.specs.Table as body
use Rattle.hp_rules_table.specs.Table as table
use Rattle.hp_rules_rest.specs.Table as rest
use Rattle.hp_acts.specs.declared.rows.Part.{Part}
use Rattle.hp_acts.specs.declared.rows.Part.TheVariants as part

-- the crate that has the rules of the mode
abbrev pub part_in : Mode → Part
part_in mode.InBody = part.Body
part_in mode.Text = part.Body
part_in mode.InTable = part.Table
part_in mode.InTableText = part.Table
part_in mode.InCaption = part.Table
part_in mode.InColumnGroup = part.Table
part_in mode.InTableBody = part.Table
part_in mode.InRow = part.Table
part_in mode.InCell = part.Table
part_in mode.InSelect = part.Rest
part_in mode.InSelectInTable = part.Rest
part_in mode.InTemplate = part.Rest
part_in _ = part.Page

-- the rows of a crate, as they are numbered
abbrev pub rows_in : Part → List Row
rows_in part.Page = page.all_rows
rows_in part.Body = body.all_rows
rows_in part.Table = table.all_rows
rows_in part.Rest = rest.all_rows

-- no row has more acts
abbrev pub most_acts : ℕ
most_acts = 8

-- the rows of a mode in a crate
abbrev pub mode_rows_in : Part → Mode → Option (List Row)
mode_rows_in part.Page m = page.rows_of m
mode_rows_in part.Body m = body.rows_of m
mode_rows_in part.Table m = table.rows_of m
mode_rows_in part.Rest m = rest.rows_of m
