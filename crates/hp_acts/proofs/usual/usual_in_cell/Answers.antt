use Rattle.std.proofs.Common.{◌≡◌, ◌∙◌, ℕ, ap, arith, sym}
use Rattle.hp_elements.specs.Rules.{acts_for, acts_numbered}
use Rattle.hp_elements.specs.Tokens.{kind_of}
use Rattle.hp_rules_table.specs.Table.{all_rows}
use Rattle.hp_rules_table.specs.TableModes.{in_cell}
use Rattle.hp_acts.proofs.UsualRuns.{body_cell, own_cell, usual_acts_of}
use Rattle.hp_acts.proofs.usual.usual_in_cell.Goals as goal

pub returns-in-Some-eq49 : goal.returns-in-Some-eq49
returns-in-Some-eq49 c =
    let number : c.in-Some-eq49.field-0 ≡ 49 = omega arith in
    body_cell c.args.token.now c.usual_in_body.result (sym c.in-Some-eq49.ensures.acts ∙ ap (λ (n : ℕ). acts_numbered all_rows n) number) c.usual_in_body.ensures

pub returns-in-Some : goal.returns-in-Some
returns-in-Some c =
    own_cell c.args.token.now c.usual_in_tables.result
    (usual_acts_of (acts_numbered all_rows c.in-Some.number) (acts_for in_cell (kind_of c.args.token.now)) c.usual_in_tables.result c.in-Some.ensures.acts c.usual_in_tables.ensures)
