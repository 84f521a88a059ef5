use Rattle.std.proofs.Common.{ap, ◌∙◌}
use Rattle.hp_elements.specs.declared.token.Mode.TheVariants as mode
use Rattle.hp_elements.specs.Placing.{place_of}
use Rattle.hp_elements.specs.Tokens.{kind_of}
use Rattle.hp_elements.proofs.RowLemmas.{row_along}
use Rattle.hp_rules_rest.specs.declared.numbers.TheConstants.{IN_SELECT, IN_SELECT_IN_TABLE, IN_TEMPLATE}
use Rattle.hp_rules_rest.specs.Table.{all_rows, rows_of}
use Rattle.hp_rules_rest.proofs.Found.{at_in_select, at_in_select_in_table, at_in_template}
use Rattle.hp_rules_rest.proofs.row.Goals as goal
use Rattle.hp_rules_rest.proofs.row.Goals.{in-InSelect, in-InSelectInTable, in-InTemplate}

pub returns-clause-acts : goal.returns-clause-acts
returns-clause-acts c =
    elim c.match-mode.branch [
      | in-InSelect w ↦ row_along rows_of all_rows IN_SELECT c.args.mode mode.InSelect (kind_of c.args.token.now) c.from.result c.match-mode.number c.place-place.result w.in-InSelect.is c.from.ensures w.number-is (c.place-place.ensures.value ∙ ap place_of c.kind.ensures) (at_in_select (kind_of c.args.token.now))
      | in-InSelectInTable w ↦ row_along rows_of all_rows IN_SELECT_IN_TABLE c.args.mode mode.InSelectInTable (kind_of c.args.token.now) c.from.result c.match-mode.number c.place-place.result w.in-InSelectInTable.is c.from.ensures w.number-is (c.place-place.ensures.value ∙ ap place_of c.kind.ensures) (at_in_select_in_table (kind_of c.args.token.now))
      | in-InTemplate w ↦ row_along rows_of all_rows IN_TEMPLATE c.args.mode mode.InTemplate (kind_of c.args.token.now) c.from.result c.match-mode.number c.place-place.result w.in-InTemplate.is c.from.ensures w.number-is (c.place-place.ensures.value ∙ ap place_of c.kind.ensures) (at_in_template (kind_of c.args.token.now))
    ]
