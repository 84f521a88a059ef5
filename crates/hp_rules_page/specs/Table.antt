-- The rows of this crate's modes, and the numbers that they have.
use Rattle.std.specs.Prelude.{List, ◌++◌, Option, None, Some}
use Rattle.hp_elements.specs.declared.token.Mode.{Mode}
use Rattle.hp_elements.specs.declared.token.Mode.TheVariants as mode
use Rattle.hp_elements.specs.Rules.{Row}
use Rattle.hp_rules_page.specs.Page.{initial, before_html, before_head, in_head, in_head_noscript, after_head}
use Rattle.hp_rules_page.specs.Late.{after_body, in_frameset, after_frameset, after_after_body, after_after_frameset}

-- the rows of a mode, where they are in this crate
abbrev pub rows_of : Mode → Option (List Row)
rows_of mode.Initial = Some initial
rows_of mode.BeforeHtml = Some before_html
rows_of mode.BeforeHead = Some before_head
rows_of mode.InHead = Some in_head
rows_of mode.InHeadNoscript = Some in_head_noscript
rows_of mode.AfterHead = Some after_head
rows_of mode.AfterBody = Some after_body
rows_of mode.InFrameset = Some in_frameset
rows_of mode.AfterFrameset = Some after_frameset
rows_of mode.AfterAfterBody = Some after_after_body
rows_of mode.AfterAfterFrameset = Some after_after_frameset
rows_of _ = None

-- all rows, as they are numbered
abbrev pub all_rows : List Row
all_rows = initial ++ before_html ++ before_head ++ in_head ++ in_head_noscript ++ after_head ++ after_body ++ in_frameset ++ after_frameset ++ after_after_body ++ after_after_frameset
