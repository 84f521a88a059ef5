use Rattle.std.proofs.Common.{refl, subst}
use Rattle.hp_tokens.specs.declared.state.State.TheVariants.{AfterAttributeValueQuoted, BeforeAttributeName}
use Rattle.hp_tokens.specs.Reading.{Unread}
use Rattle.hp_lex_tags.specs.Straight.{Continues}
use Rattle.hp_lex_tags.specs.declared.straight.Way.TheVariants as way
use Rattle.hp_lex_tags.proofs.StraightMoves.{closes_on, behind_some, behind_none, none_skipped, continues}
use Rattle.hp_lex_tags.proofs.StraightParts.{next_at_once}
use Rattle.hp_lex_tags.proofs.straight.behind_quoted.Goals as goal

pub returns-then-take_byte : goal.returns-then-take_byte
returns-then-take_byte c = λ names reading. closes_on AfterAttributeValueQuoted reading c.args.input.now c.take_byte.new.self refl (c.if-take_byte.ensures.taken refl)

pub returns-then-skip_blanks : goal.returns-then-skip_blanks
returns-then-skip_blanks c = λ names reading.
    let P : Unread → Type 0 = λ u. Continues names u reading c.skip_blanks.new.self (way.At BeforeAttributeName) in
    subst P (c.if-take_byte.ensures.left refl).0
    (continues names c.take_byte.new.self c.skip_blanks.new.self reading (way.At BeforeAttributeName) (behind_some AfterAttributeValueQuoted BeforeAttributeName reading c.take_byte.new.self c.skip_blanks.new.self refl c.if-skip_blanks.ensures.run refl))

pub returns-then-begins : goal.returns-then-begins
returns-then-begins c = λ names reading.
    let P : Unread → Type 0 = λ u. Continues names u reading c.skip_blanks.new.self (way.At BeforeAttributeName) in
    subst P (c.if-take_byte.ensures.left refl).0
    (next_at_once names reading c.take_byte.new.self c.skip_blanks.new.self c.skip_blanks.new.self (c.if-begins.ensures refl)
    (none_skipped c.take_byte.new.self c.skip_blanks.new.self c.if-skip_blanks.ensures.run) refl)

pub returns : goal.returns
returns c = λ names reading.
    let P : Unread → Type 0 = λ u. Continues names u reading c.close.new.input c.close.result in
    subst P (c.if-take_byte.ensures.left refl).0
    (continues names c.take_byte.new.self c.close.new.input reading c.close.result
    (behind_none names AfterAttributeValueQuoted reading c.take_byte.new.self c.skip_blanks.new.self c.close.new.input c.close.result c.if-skip_blanks.ensures.run (c.close.ensures names reading)))
