-- The rows of every mode: the whole table.
use Rattle.std.specs.Prelude.{List}
use Rattle.hp_elements.specs.declared.token.Mode.{Mode}
use Rattle.hp_elements.specs.declared.token.Mode.TheVariants as mode
use Rattle.hp_elements.specs.Rules.{Row}
use Rattle.hp_rules_page.specs.Page as page
use Rattle.hp_rules_page.specs.Late as late
use Rattle.hp_rules_body.specs.Body as body
use Rattle.hp_rules_table.specs.TableModes as table
use Rattle.hp_rules_rest.specs.Select as select

unfoldable pub every_mode_rows : Mode → List Row
every_mode_rows mode.Initial = page.initial
every_mode_rows mode.BeforeHtml = page.before_html
every_mode_rows mode.BeforeHead = page.before_head
every_mode_rows mode.InHead = page.in_head
every_mode_rows mode.InHeadNoscript = page.in_head_noscript
every_mode_rows mode.AfterHead = page.after_head
every_mode_rows mode.InBody = body.in_body
every_mode_rows mode.Text = body.text
every_mode_rows mode.InTable = table.in_table
every_mode_rows mode.InTableText = table.in_table_text
every_mode_rows mode.InCaption = table.in_caption
every_mode_rows mode.InColumnGroup = table.in_column_group
every_mode_rows mode.InTableBody = table.in_table_body
every_mode_rows mode.InRow = table.in_row
every_mode_rows mode.InCell = table.in_cell
every_mode_rows mode.InSelect = select.in_select
every_mode_rows mode.InSelectInTable = select.in_select_in_table
every_mode_rows mode.InTemplate = select.in_template
every_mode_rows mode.AfterBody = late.after_body
every_mode_rows mode.InFrameset = late.in_frameset
every_mode_rows mode.AfterFrameset = late.after_frameset
every_mode_rows mode.AfterAfterBody = late.after_after_body
every_mode_rows mode.AfterAfterFrameset = late.after_after_frameset
