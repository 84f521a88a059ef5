use Rattle.std.proofs.Common.{refl}
use Rattle.hp_lex_tags.proofs.StraightMoves.{closes_on, close_self}
use Rattle.hp_lex_tags.proofs.straight.close.Goals as goal

pub returns-then-take_byte : goal.returns-then-take_byte
returns-then-take_byte c = λ names reading. closes_on c.args.state reading c.args.input.now c.take_byte.new.self c.requires (c.if-take_byte.ensures.taken refl)

pub returns-then-not-take_byte : goal.returns-then-not-take_byte
returns-then-not-take_byte c = λ names reading. tt

pub returns-then-take_byte-2 : goal.returns-then-take_byte-2
returns-then-take_byte-2 c = λ names reading. close_self c.args.state reading c.requires c.args.input.now c.take_byte.new.self c.take_byte-2.new.self c.take_byte-3.new.self
    (c.if-take_byte.ensures.left refl).0 (c.if-not-take_byte.ensures.taken refl) (c.if-take_byte-2.ensures.taken refl)

pub returns : goal.returns
returns c = λ names reading. tt
