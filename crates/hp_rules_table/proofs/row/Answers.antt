use Rattle.std.proofs.Common.{ap, ◌∙◌}
use Rattle.hp_elements.specs.declared.token.Mode.TheVariants as mode
use Rattle.hp_elements.specs.Placing.{place_of}
use Rattle.hp_elements.specs.Tokens.{kind_of}
use Rattle.hp_elements.proofs.RowLemmas.{row_along}
use Rattle.hp_rules_table.specs.declared.numbers.TheConstants.{IN_TABLE, IN_TABLE_TEXT, IN_CAPTION, IN_COLUMN_GROUP, IN_TABLE_BODY, IN_ROW, IN_CELL}
use Rattle.hp_rules_table.specs.Table.{all_rows, rows_of}
use Rattle.hp_rules_table.proofs.Found.{at_in_table, at_in_table_text, at_in_caption, at_in_column_group, at_in_table_body, at_in_row, at_in_cell}
use Rattle.hp_rules_table.proofs.row.Goals as goal
use Rattle.hp_rules_table.proofs.row.Goals.{in-InTable, in-InTableText, in-InCaption, in-InColumnGroup, in-InTableBody, in-InRow, in-InCell}

pub returns-clause-acts : goal.returns-clause-acts
returns-clause-acts c =
    elim c.match-mode.branch [
      | in-InTable w ↦ row_along rows_of all_rows IN_TABLE c.args.mode mode.InTable (kind_of c.args.token.now) c.from.result c.match-mode.number c.place-place.result w.in-InTable.is c.from.ensures w.number-is (c.place-place.ensures.value ∙ ap place_of c.kind.ensures) (at_in_table (kind_of c.args.token.now))
      | in-InTableText w ↦ row_along rows_of all_rows IN_TABLE_TEXT c.args.mode mode.InTableText (kind_of c.args.token.now) c.from.result c.match-mode.number c.place-place.result w.in-InTableText.is c.from.ensures w.number-is (c.place-place.ensures.value ∙ ap place_of c.kind.ensures) (at_in_table_text (kind_of c.args.token.now))
      | in-InCaption w ↦ row_along rows_of all_rows IN_CAPTION c.args.mode mode.InCaption (kind_of c.args.token.now) c.from.result c.match-mode.number c.place-place.result w.in-InCaption.is c.from.ensures w.number-is (c.place-place.ensures.value ∙ ap place_of c.kind.ensures) (at_in_caption (kind_of c.args.token.now))
      | in-InColumnGroup w ↦ row_along rows_of all_rows IN_COLUMN_GROUP c.args.mode mode.InColumnGroup (kind_of c.args.token.now) c.from.result c.match-mode.number c.place-place.result w.in-InColumnGroup.is c.from.ensures w.number-is (c.place-place.ensures.value ∙ ap place_of c.kind.ensures) (at_in_column_group (kind_of c.args.token.now))
      | in-InTableBody w ↦ row_along rows_of all_rows IN_TABLE_BODY c.args.mode mode.InTableBody (kind_of c.args.token.now) c.from.result c.match-mode.number c.place-place.result w.in-InTableBody.is c.from.ensures w.number-is (c.place-place.ensures.value ∙ ap place_of c.kind.ensures) (at_in_table_body (kind_of c.args.token.now))
      | in-InRow w ↦ row_along rows_of all_rows IN_ROW c.args.mode mode.InRow (kind_of c.args.token.now) c.from.result c.match-mode.number c.place-place.result w.in-InRow.is c.from.ensures w.number-is (c.place-place.ensures.value ∙ ap place_of c.kind.ensures) (at_in_row (kind_of c.args.token.now))
      | in-InCell w ↦ row_along rows_of all_rows IN_CELL c.args.mode mode.InCell (kind_of c.args.token.now) c.from.result c.match-mode.number c.place-place.result w.in-InCell.is c.from.ensures w.number-is (c.place-place.ensures.value ∙ ap place_of c.kind.ensures) (at_in_cell (kind_of c.args.token.now))
    ]
