use Rattle.hp_lex_tags.specs.Tags.{tag_rules}
use Rattle.hp_lex_tags.proofs.Steady.{tags_steady}
use Rattle.hp_lex_tags.proofs.tags.any_pieces.Goals as goal

pub returns-clause-steady : goal.returns-clause-steady
returns-clause-steady c = tags_steady c.args.names.now

pub returns-clause-pieces : goal.returns-clause-pieces
returns-clause-pieces c = c.any_pieces.ensures (tag_rules c.args.names.now) (tags_steady c.args.names.now)
