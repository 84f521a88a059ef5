use Rattle.std.proofs.Common.{[], refl, subst, sym, Some}
use Rattle.std.specs.Prelude.{◌≢◌}
use Rattle.hp_tokens.specs.Reading.{Unread, first}
use Rattle.hp_tokens.specs.declared.state.State.TheVariants.{BeforeAttributeValue, AttributeValueDoubleQuoted}
use Rattle.hp_lex_tags.proofs.StraightParts.{double_quoted, double_opened, other_later, value_on}
use Rattle.hp_tokens.proofs.Told.{IfOk_then}
use Rattle.hp_lex_tags.proofs.straight.read_value.Goals as goal

pub read_quoted-requires-clause-quoted : goal.read_quoted-requires-clause-quoted
read_quoted-requires-clause-quoted c = double_quoted

pub returns-then-take_byte : goal.returns-then-take_byte
returns-then-take_byte c =
    IfOk_then c.read_quoted.result c.read_quoted.ensures (λ way kept. value_on c.args.names.now BeforeAttributeValue AttributeValueDoubleQuoted c.args.name [] [] c.args.attributes.now c.read_quoted.new.attributes c.args.input.now c.take_byte.new.self c.read_quoted.new.input way
    (λ reading to. double_opened c.args.names.now reading to c.args.name c.args.input.now c.take_byte.new.self c.read_quoted.new.input way (c.if-take_byte.ensures.taken refl))
    kept)

pub read_other_value-requires : goal.read_other_value-requires
read_other_value-requires c =
    let P : Unread → Type 0 = λ u. first u.text ≢ Some 34 in
    record { other = subst P (sym (c.if-take_byte.ensures.left refl).0) (c.if-take_byte.ensures.left refl).1 }

pub returns : goal.returns
returns c =
    IfOk_then c.read_other_value.result c.read_other_value.ensures (λ way kept. value_on c.args.names.now BeforeAttributeValue BeforeAttributeValue c.args.name [] [] c.args.attributes.now c.read_other_value.new.attributes c.args.input.now c.take_byte.new.self c.read_other_value.new.input way
    (λ reading to. other_later c.args.names.now reading to c.args.name c.args.input.now c.take_byte.new.self c.read_other_value.new.input way (c.if-take_byte.ensures.left refl).0)
    kept)
