use Rattle.std.proofs.Common.{ap, ◌∙◌}
use Rattle.hp_elements.specs.declared.token.Mode.TheVariants as mode
use Rattle.hp_elements.specs.Placing.{place_of}
use Rattle.hp_elements.specs.Tokens.{kind_of}
use Rattle.hp_elements.proofs.RowLemmas.{row_along}
use Rattle.hp_rules_body.specs.declared.numbers.TheConstants.{IN_BODY, TEXT}
use Rattle.hp_rules_body.specs.Table.{all_rows, rows_of}
use Rattle.hp_rules_body.proofs.Found.{at_in_body, at_text}
use Rattle.hp_rules_body.proofs.row.Goals as goal
use Rattle.hp_rules_body.proofs.row.Goals.{in-InBody, in-Text}

pub returns-clause-acts : goal.returns-clause-acts
returns-clause-acts c =
    elim c.match-mode.branch [
      | in-InBody w ↦ row_along rows_of all_rows IN_BODY c.args.mode mode.InBody (kind_of c.args.token.now) c.from.result c.match-mode.number c.place-place.result w.in-InBody.is c.from.ensures w.number-is (c.place-place.ensures.value ∙ ap place_of c.kind.ensures) (at_in_body (kind_of c.args.token.now))
      | in-Text w ↦ row_along rows_of all_rows TEXT c.args.mode mode.Text (kind_of c.args.token.now) c.from.result c.match-mode.number c.place-place.result w.in-Text.is c.from.ensures w.number-is (c.place-place.ensures.value ∙ ap place_of c.kind.ensures) (at_text (kind_of c.args.token.now))
    ]
