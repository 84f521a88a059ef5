-- The tables of numbers give each token the acts that its mode's rows say.
use Rattle.std.proofs.Common.{◌≡◌, [], get_or, refl}
use Rattle.hp_elements.specs.declared.token.Kind.{Kind}
use Rattle.hp_elements.specs.Rules.{acts_for, acts_numbered}
use Rattle.hp_elements.specs.Placing.{place_of}
use Rattle.hp_elements.proofs.RowLemmas.{row_at}
use Rattle.hp_rules_body.specs.declared.numbers.TheConstants.{IN_BODY, TEXT}
use Rattle.hp_rules_body.specs.Body.{in_body, text}
use Rattle.hp_rules_body.specs.Table.{all_rows}

pub at_in_body : (token : Kind) → acts_numbered all_rows (get_or IN_BODY (place_of token) 0) ≡ acts_for in_body token
at_in_body token = row_at IN_BODY [] in_body text refl refl token

pub at_text : (token : Kind) → acts_numbered all_rows (get_or TEXT (place_of token) 0) ≡ acts_for text token
at_text token = row_at TEXT in_body text [] refl refl token
