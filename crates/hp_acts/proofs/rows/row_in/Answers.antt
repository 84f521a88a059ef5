use Rattle.std.proofs.Common.{◌∙◌}
use Rattle.hp_elements.specs.Tokens.{kind_of}
use Rattle.hp_acts.proofs.RowLemmas.{row_along}
use Rattle.hp_acts.proofs.rows.row_in.Goals as goal

pub returns : goal.returns
returns c = c.row_numbered.ensures ∙ row_along c.part_in-part.result c.args.mode (kind_of c.args.token.now) c.in-Some.number c.part_in-part.ensures c.in-Some.ensures.acts
