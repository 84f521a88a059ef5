use Rattle.std.proofs.Common.{refl, subst}
use Rattle.hp_tokens.specs.declared.building.Building.TheVariants.{StartTag}
use Rattle.hp_tokens.specs.Reading.{Unread}
use Rattle.hp_lex_tags.specs.Straight.{tag_of, Arrives}
use Rattle.hp_lex_tags.specs.declared.straight.Way.TheVariants as way
use Rattle.hp_lex_tags.proofs.StraightMoves.{closes_on, behind_some, behind_none}
use Rattle.hp_lex_tags.proofs.straight.behind.Goals as goal

pub returns-then-take_byte : goal.returns-then-take_byte
returns-then-take_byte c = λ names reading. closes_on c.args.state reading c.args.input.now c.take_byte.new.self c.requires (c.if-take_byte.ensures.taken refl)

pub returns-then-skip_blanks : goal.returns-then-skip_blanks
returns-then-skip_blanks c = λ names reading.
    let P : Unread → Type 0 = λ u. Arrives names c.args.state (StartTag (tag_of reading)) u reading c.skip_blanks.new.self (way.At c.behind_blanks.result) in
    subst P (c.if-take_byte.ensures.left refl).0
    (behind_some c.args.state c.behind_blanks.result reading c.take_byte.new.self c.skip_blanks.new.self c.requires c.if-skip_blanks.ensures.run c.behind_blanks.ensures)

pub returns : goal.returns
returns c = λ names reading.
    let P : Unread → Type 0 = λ u. Arrives names c.args.state (StartTag (tag_of reading)) u reading c.close.new.input c.close.result in
    subst P (c.if-take_byte.ensures.left refl).0
    (behind_none names c.args.state reading c.take_byte.new.self c.skip_blanks.new.self c.close.new.input c.close.result c.if-skip_blanks.ensures.run (c.close.ensures names reading))
