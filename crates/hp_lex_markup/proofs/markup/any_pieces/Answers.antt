use Rattle.hp_lex_markup.specs.Markup.{markup_rules}
use Rattle.hp_lex_markup.proofs.Steady.{markup_steady}
use Rattle.hp_lex_markup.proofs.markup.any_pieces.Goals as goal

pub returns-clause-steady : goal.returns-clause-steady
returns-clause-steady c = markup_steady

pub returns-clause-pieces : goal.returns-clause-pieces
returns-clause-pieces c = c.any_pieces.ensures markup_rules markup_steady
