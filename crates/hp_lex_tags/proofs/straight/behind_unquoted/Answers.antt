use Rattle.std.proofs.Common.{refl}
use Rattle.hp_lex_tags.proofs.StraightMoves.{unquoted_some, unquoted_closed}
use Rattle.hp_lex_tags.proofs.straight.behind_unquoted.Goals as goal

pub returns-then-skip_blanks : goal.returns-then-skip_blanks
returns-then-skip_blanks c = λ names reading. unquoted_some reading c.args.input.now c.skip_blanks.new.self c.if-skip_blanks.ensures.run

pub returns-then-take_byte : goal.returns-then-take_byte
returns-then-take_byte c = λ names reading. unquoted_closed reading c.args.input.now c.skip_blanks.new.self c.take_byte.new.self c.if-skip_blanks.ensures.run (c.if-take_byte.ensures.taken refl)

pub returns : goal.returns
returns c = λ names reading. tt
