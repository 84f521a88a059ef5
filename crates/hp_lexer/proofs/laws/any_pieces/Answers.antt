use Rattle.hp_lexer.specs.Table.{table}
use Rattle.hp_lexer.proofs.Steady.{table_steady}
use Rattle.hp_lexer.proofs.laws.any_pieces.Goals as goal

pub returns-clause-steady : goal.returns-clause-steady
returns-clause-steady c = λ names. table_steady names

pub returns-clause-pieces : goal.returns-clause-pieces
returns-clause-pieces c = λ names. c.any_pieces.ensures (table names) (table_steady names)
