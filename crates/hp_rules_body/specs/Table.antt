-- The rows of this crate's modes, and the numbers that they have.
use Rattle.std.specs.Prelude.{List, ◌++◌, Option, None, Some}
use Rattle.hp_elements.specs.declared.token.Mode.{Mode}
use Rattle.hp_elements.specs.declared.token.Mode.TheVariants as mode
use Rattle.hp_elements.specs.Rules.{Row}
use Rattle.hp_rules_body.specs.Body.{in_body, text}

-- the rows of a mode, where they are in this crate
abbrev pub rows_of : Mode → Option (List Row)
rows_of mode.InBody = Some in_body
rows_of mode.Text = Some text
rows_of _ = None

-- all rows, as they are numbered
abbrev pub all_rows : List Row
all_rows = in_body ++ text
