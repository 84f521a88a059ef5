use Rattle.std.proofs.Common.{ℕ, List, [], Some, refl, ap, ◌∙◌}
use Rattle.std.specs.Str.{chars}
use Rattle.hp_tokens.specs.Parts.{added}
use Rattle.hp_tokens.specs.declared.state.State.TheVariants.{BeforeAttributeValue, AttributeValueSingleQuoted, AttributeValueUnquoted}
use Rattle.hp_lex_tags.specs.declared.straight.Way.TheVariants.{Left}
use Rattle.hp_lex_tags.proofs.StraightParts.{single_quoted, single_later, unquoted_later, unquoted_read, value_whole, value_on}
use Rattle.hp_tokens.proofs.Told.{IfOk_then}
use Rattle.hp_lex_tags.proofs.straight.read_other_value.Goals as goal

pub read_quoted-requires-clause-quoted : goal.read_quoted-requires-clause-quoted
read_quoted-requires-clause-quoted c = single_quoted

pub returns-then-take_byte : goal.returns-then-take_byte
returns-then-take_byte c =
    IfOk_then c.read_quoted.result c.read_quoted.ensures (λ way kept. value_on c.args.names.now BeforeAttributeValue AttributeValueSingleQuoted c.args.name [] [] c.args.attributes.now c.read_quoted.new.attributes c.args.input.now c.take_byte.new.self c.read_quoted.new.input way
    (λ reading to. single_later c.args.names.now reading to c.args.name c.args.input.now c.args.input.now c.take_byte.new.self c.read_quoted.new.input way
    refl (c.if-take_byte.ensures.taken refl))
    kept)

pub returns-then-begins : goal.returns-then-begins
returns-then-begins c =
    let name = c.args.name in
    let value = chars c.take_run.result.now in
    value_on c.args.names.now BeforeAttributeValue AttributeValueUnquoted name [] [] c.args.attributes.now c.keep.new.attributes c.args.input.now c.take_byte.new.self c.behind_unquoted.new.input c.behind_unquoted.result
    (λ reading to. unquoted_later c.args.names.now reading to name c.args.input.now c.args.input.now c.take_byte.new.self c.behind_unquoted.new.input c.behind_unquoted.result
    refl (c.if-take_byte.ensures.left refl).0 c.requires.other (c.if-take_byte.ensures.left refl).1
    (c.if-begins.ensures refl))
    (value_whole c.args.names.now AttributeValueUnquoted name [] value c.args.attributes.now c.keep.new.attributes c.take_byte.new.self c.behind_unquoted.new.input c.behind_unquoted.result
    (c.in_ok-keep.ensures ∙ ap (λ (v : List ℕ). added c.args.attributes.now (Some (record { name = name; value = v }))) c.in_ok-value.ensures)
    (λ reading to kept. unquoted_read c.args.names.now reading to name value c.take_byte.new.self c.take_run.new.self c.behind_unquoted.new.input c.behind_unquoted.result
    c.take_run.ensures.run kept (c.behind_unquoted.ensures c.args.names.now to)))

pub returns : goal.returns
returns c =
    value_whole c.args.names.now BeforeAttributeValue c.args.name [] c.new.result c.args.attributes.now c.keep-2.new.attributes c.args.input.now c.take_byte.new.self Left c.in_ok-keep-2.ensures (λ reading to kept. tt)
