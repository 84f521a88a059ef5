-- The rows of text and tags emit characters alone, but where they consume `>`.
use Rattle.std.proofs.Common.{ℕ, [], ◌∷◌, Some}
use Rattle.std.specs.Prelude.{IsTrue, ◌==◌}
use Rattle.hp_tokens.specs.declared.state.State.{State}
use Rattle.hp_tokens.specs.declared.state.State.TheVariants.{Data, TagOpen, EndTagOpen, TagName, BeforeAttributeName, AttributeName, AfterAttributeName, BeforeAttributeValue, AttributeValueDoubleQuoted, AttributeValueSingleQuoted, AttributeValueUnquoted, AfterAttributeValueQuoted, SelfClosingStartTag, CharacterReference, NamedCharacterReference, AmbiguousAmpersand, NumericCharacterReference, HexadecimalCharacterReferenceStart, DecimalCharacterReferenceStart, HexadecimalCharacterReference, DecimalCharacterReference, NumericCharacterReferenceEnd}
use Rattle.hp_tokens.specs.declared.machine.Machine.{Machine}
use Rattle.hp_tokens.specs.States.{is_in_value}
use Rattle.hp_tokens.specs.Rows.{stay, putting, with_buffer, with_value}
use Rattle.hp_tokens.specs.declared.building.Part.TheVariants.{Value}
use Rattle.hp_names.specs.Numeric.{numeric}
use Rattle.hp_lex_tags.specs.Letters.{ampersand, number_sign}
use Rattle.std.specs.Char.{is_ascii_alphanumeric, is_digit}
use Rattle.hp_lex_tags.specs.Rows.{row, row_of, has_row}
use Rattle.hp_runs.proofs.ClosingRows.{closes, Closes, either-closes, go-closes, stay-closes, plus-closes, again-closes, back-closes, flushing-closes}

each_closes : (s : State) (m : Machine) (c : ℕ) → IsTrue (has_row s) → Closes c (row_of s m (Some c))
each_closes Data m c h = search closes depth 9
each_closes TagOpen m c h = search closes depth 9
each_closes EndTagOpen m c h = search closes depth 9
each_closes TagName m c h = search closes depth 9
each_closes BeforeAttributeName m c h = search closes depth 9
each_closes AttributeName m c h = search closes depth 9
each_closes AfterAttributeName m c h = search closes depth 9
each_closes BeforeAttributeValue m c h = search closes depth 9
each_closes AttributeValueDoubleQuoted m c h = search closes depth 9
each_closes AttributeValueSingleQuoted m c h = search closes depth 9
each_closes AttributeValueUnquoted m c h = search closes depth 9
each_closes AfterAttributeValueQuoted m c h = search closes depth 9
each_closes SelfClosingStartTag m c h = search closes depth 9
each_closes CharacterReference m c h =
    either-closes (is_ascii_alphanumeric c) (again-closes c NamedCharacterReference (with_buffer (ampersand ∷ []) m))
    (either-closes (c == number_sign) (go-closes c NumericCharacterReference (with_buffer (ampersand ∷ number_sign ∷ []) m)) (flushing-closes c (with_buffer (ampersand ∷ []) m)))
each_closes AmbiguousAmpersand m c h =
    either-closes (is_ascii_alphanumeric c) (either-closes (is_in_value m.return_to) (stay-closes c (putting Value c m)) (plus-closes c c (stay m) (stay-closes c m))) (back-closes c m)
each_closes NumericCharacterReference m c h = search closes depth 9
each_closes HexadecimalCharacterReferenceStart m c h =
    either-closes (is_digit c 16) (again-closes c HexadecimalCharacterReference (with_value 0 m)) (flushing-closes c m)
each_closes DecimalCharacterReferenceStart m c h =
    either-closes (is_digit c 10) (again-closes c DecimalCharacterReference (with_value 0 m)) (flushing-closes c m)
each_closes HexadecimalCharacterReference m c h = search closes depth 9
each_closes DecimalCharacterReference m c h = search closes depth 9
each_closes NumericCharacterReferenceEnd m c h =
    flushing-closes c (with_buffer (numeric m.value ∷ []) m)
each_closes _ m c h = cc

pub row_closes : (m : Machine) (c : ℕ) → IsTrue (has_row m.state) → Closes c (row m (Some c))
row_closes m c h = each_closes m.state m c h
