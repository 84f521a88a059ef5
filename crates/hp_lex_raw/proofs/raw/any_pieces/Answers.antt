use Rattle.hp_lex_raw.specs.Raw.{raw_rules}
use Rattle.hp_lex_raw.proofs.Steady.{raw_steady}
use Rattle.hp_lex_raw.proofs.raw.any_pieces.Goals as goal

pub returns-clause-steady : goal.returns-clause-steady
returns-clause-steady c = raw_steady

pub returns-clause-pieces : goal.returns-clause-pieces
returns-clause-pieces c = c.any_pieces.ensures raw_rules raw_steady
