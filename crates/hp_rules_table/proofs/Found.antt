-- The tables of numbers give each token the acts that its mode's rows say.
use Rattle.std.proofs.Common.{◌≡◌, [], ◌++◌, get_or, refl}
use Rattle.hp_elements.specs.declared.token.Kind.{Kind}
use Rattle.hp_elements.specs.Rules.{acts_for, acts_numbered}
use Rattle.hp_elements.specs.Placing.{place_of}
use Rattle.hp_elements.proofs.RowLemmas.{row_at}
use Rattle.hp_rules_table.specs.declared.numbers.TheConstants.{IN_TABLE, IN_TABLE_TEXT, IN_CAPTION, IN_COLUMN_GROUP, IN_TABLE_BODY, IN_ROW, IN_CELL}
use Rattle.hp_rules_table.specs.TableModes.{in_table, in_table_text, in_caption, in_column_group, in_table_body, in_row, in_cell}
use Rattle.hp_rules_table.specs.Table.{all_rows}

pub at_in_table : (token : Kind) → acts_numbered all_rows (get_or IN_TABLE (place_of token) 0) ≡ acts_for in_table token
at_in_table token = row_at IN_TABLE [] in_table (in_table_text ++ in_caption ++ in_column_group ++ in_table_body ++ in_row ++ in_cell) refl refl token

pub at_in_table_text : (token : Kind) → acts_numbered all_rows (get_or IN_TABLE_TEXT (place_of token) 0) ≡ acts_for in_table_text token
at_in_table_text token = row_at IN_TABLE_TEXT in_table in_table_text (in_caption ++ in_column_group ++ in_table_body ++ in_row ++ in_cell) refl refl token

pub at_in_caption : (token : Kind) → acts_numbered all_rows (get_or IN_CAPTION (place_of token) 0) ≡ acts_for in_caption token
at_in_caption token = row_at IN_CAPTION (in_table ++ in_table_text) in_caption (in_column_group ++ in_table_body ++ in_row ++ in_cell) refl refl token

pub at_in_column_group : (token : Kind) → acts_numbered all_rows (get_or IN_COLUMN_GROUP (place_of token) 0) ≡ acts_for in_column_group token
at_in_column_group token = row_at IN_COLUMN_GROUP (in_table ++ in_table_text ++ in_caption) in_column_group (in_table_body ++ in_row ++ in_cell) refl refl token

pub at_in_table_body : (token : Kind) → acts_numbered all_rows (get_or IN_TABLE_BODY (place_of token) 0) ≡ acts_for in_table_body token
at_in_table_body token = row_at IN_TABLE_BODY (in_table ++ in_table_text ++ in_caption ++ in_column_group) in_table_body (in_row ++ in_cell) refl refl token

pub at_in_row : (token : Kind) → acts_numbered all_rows (get_or IN_ROW (place_of token) 0) ≡ acts_for in_row token
at_in_row token = row_at IN_ROW (in_table ++ in_table_text ++ in_caption ++ in_column_group ++ in_table_body) in_row in_cell refl refl token

pub at_in_cell : (token : Kind) → acts_numbered all_rows (get_or IN_CELL (place_of token) 0) ≡ acts_for in_cell token
at_in_cell token = row_at IN_CELL (in_table ++ in_table_text ++ in_caption ++ in_column_group ++ in_table_body ++ in_row) in_cell [] refl refl token
