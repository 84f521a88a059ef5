-- The tables of numbers give each token the acts that its mode's rows say.
use Rattle.std.proofs.Common.{◌≡◌, [], ◌++◌, get_or, refl}
use Rattle.hp_elements.specs.declared.token.Kind.{Kind}
use Rattle.hp_elements.specs.Rules.{acts_for, acts_numbered}
use Rattle.hp_elements.specs.Placing.{place_of}
use Rattle.hp_elements.proofs.RowLemmas.{row_at}
use Rattle.hp_rules_rest.specs.declared.numbers.TheConstants.{IN_SELECT, IN_SELECT_IN_TABLE, IN_TEMPLATE, FOREIGN}
use Rattle.hp_rules_rest.specs.Select.{in_select, in_select_in_table, in_template}
use Rattle.hp_rules_rest.specs.Foreign.{foreign}
use Rattle.hp_rules_rest.specs.Table.{all_rows}

pub at_in_select : (token : Kind) → acts_numbered all_rows (get_or IN_SELECT (place_of token) 0) ≡ acts_for in_select token
at_in_select token = row_at IN_SELECT [] in_select (in_select_in_table ++ in_template ++ foreign) refl refl token

pub at_in_select_in_table : (token : Kind) → acts_numbered all_rows (get_or IN_SELECT_IN_TABLE (place_of token) 0) ≡ acts_for in_select_in_table token
at_in_select_in_table token = row_at IN_SELECT_IN_TABLE in_select in_select_in_table (in_template ++ foreign) refl refl token

pub at_in_template : (token : Kind) → acts_numbered all_rows (get_or IN_TEMPLATE (place_of token) 0) ≡ acts_for in_template token
at_in_template token = row_at IN_TEMPLATE (in_select ++ in_select_in_table) in_template foreign refl refl token

pub at_foreign : (token : Kind) → acts_numbered all_rows (get_or FOREIGN (place_of token) 0) ≡ acts_for foreign token
at_foreign token = row_at FOREIGN (in_select ++ in_select_in_table ++ in_template) foreign [] refl refl token
