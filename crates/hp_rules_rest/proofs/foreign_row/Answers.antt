use Rattle.std.proofs.Common.{get_or, ap, ◌∙◌}
use Rattle.hp_elements.specs.Placing.{place_of}
use Rattle.hp_elements.specs.Rules.{acts_numbered}
use Rattle.hp_elements.specs.Tokens.{kind_of}
use Rattle.hp_rules_rest.specs.declared.numbers.TheConstants.{FOREIGN}
use Rattle.hp_rules_rest.specs.Table.{all_rows}
use Rattle.hp_rules_rest.proofs.Found.{at_foreign}
use Rattle.hp_rules_rest.proofs.foreign_row.Goals as goal

pub returns : goal.returns
returns c =
    ap (acts_numbered all_rows) (c.from.ensures ∙ ap (λ p. get_or FOREIGN p 0) (c.place.ensures.value ∙ ap place_of c.kind.ensures))
    ∙ at_foreign (kind_of c.args.token.now)
