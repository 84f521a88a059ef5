-- The start tags that the rows of text and tags emit are HTML's.
use Rattle.std.proofs.Common.{ℕ, [], ◌∷◌, Option, None, Some}
use Rattle.std.specs.Prelude.{IsTrue, ◌==◌}
use Rattle.hp_tokens.specs.declared.state.State.{State}
use Rattle.hp_tokens.specs.declared.state.State.TheVariants.{Data, TagOpen, EndTagOpen, TagName, BeforeAttributeName, AttributeName, AfterAttributeName, BeforeAttributeValue, AttributeValueDoubleQuoted, AttributeValueSingleQuoted, AttributeValueUnquoted, AfterAttributeValueQuoted, SelfClosingStartTag, CharacterReference, NamedCharacterReference, AmbiguousAmpersand, NumericCharacterReference, HexadecimalCharacterReferenceStart, DecimalCharacterReferenceStart, HexadecimalCharacterReference, DecimalCharacterReference, NumericCharacterReferenceEnd}
use Rattle.hp_tokens.specs.declared.machine.Machine.{Machine}
use Rattle.hp_tokens.specs.States.{is_in_value}
use Rattle.hp_tokens.specs.Rows.{stay, putting, with_buffer, with_value}
use Rattle.hp_tokens.specs.declared.building.Part.TheVariants.{Value}
use Rattle.hp_names.specs.Numeric.{numeric}
use Rattle.hp_lex_tags.specs.Letters.{ampersand, number_sign}
use Rattle.std.specs.Char.{is_ascii_alphanumeric, is_digit}
use Rattle.hp_lex_tags.specs.Rows.{row, row_of, has_row}
use Rattle.hp_runs.proofs.ReadRows.{html, IsHtml, either-html, go-html, stay-html, plus-html, again-html, back-html, flushing-html}

each_html : (s : State) (m : Machine) (symbol : Option ℕ) → IsTrue (has_row s) → IsHtml (row_of s m symbol)
each_html Data m None h = search html depth 9
each_html Data m (Some c) h = search html depth 9
each_html TagOpen m None h = search html depth 9
each_html TagOpen m (Some c) h = search html depth 9
each_html EndTagOpen m None h = search html depth 9
each_html EndTagOpen m (Some c) h = search html depth 9
each_html TagName m None h = search html depth 9
each_html TagName m (Some c) h = search html depth 9
each_html BeforeAttributeName m None h = search html depth 9
each_html BeforeAttributeName m (Some c) h = search html depth 9
each_html AttributeName m None h = search html depth 9
each_html AttributeName m (Some c) h = search html depth 9
each_html AfterAttributeName m None h = search html depth 9
each_html AfterAttributeName m (Some c) h = search html depth 9
each_html BeforeAttributeValue m None h = search html depth 9
each_html BeforeAttributeValue m (Some c) h = search html depth 9
each_html AttributeValueDoubleQuoted m None h = search html depth 9
each_html AttributeValueDoubleQuoted m (Some c) h = search html depth 9
each_html AttributeValueSingleQuoted m None h = search html depth 9
each_html AttributeValueSingleQuoted m (Some c) h = search html depth 9
each_html AttributeValueUnquoted m None h = search html depth 9
each_html AttributeValueUnquoted m (Some c) h = search html depth 9
each_html AfterAttributeValueQuoted m None h = search html depth 9
each_html AfterAttributeValueQuoted m (Some c) h = search html depth 9
each_html SelfClosingStartTag m None h = search html depth 9
each_html SelfClosingStartTag m (Some c) h = search html depth 9
each_html CharacterReference m None h = flushing-html (with_buffer (ampersand ∷ []) m)
each_html CharacterReference m (Some c) h =
    either-html (is_ascii_alphanumeric c) (again-html NamedCharacterReference (with_buffer (ampersand ∷ []) m))
    (either-html (c == number_sign) (go-html NumericCharacterReference (with_buffer (ampersand ∷ number_sign ∷ []) m)) (flushing-html (with_buffer (ampersand ∷ []) m)))
each_html AmbiguousAmpersand m None h = back-html m
each_html AmbiguousAmpersand m (Some c) h =
    either-html (is_ascii_alphanumeric c) (either-html (is_in_value m.return_to) (stay-html (putting Value c m)) (plus-html c (stay m) (stay-html m))) (back-html m)
each_html NumericCharacterReference m None h = search html depth 9
each_html NumericCharacterReference m (Some c) h = search html depth 9
each_html HexadecimalCharacterReferenceStart m None h = flushing-html m
each_html HexadecimalCharacterReferenceStart m (Some c) h =
    either-html (is_digit c 16) (again-html HexadecimalCharacterReference (with_value 0 m)) (flushing-html m)
each_html DecimalCharacterReferenceStart m None h = flushing-html m
each_html DecimalCharacterReferenceStart m (Some c) h =
    either-html (is_digit c 10) (again-html DecimalCharacterReference (with_value 0 m)) (flushing-html m)
each_html HexadecimalCharacterReference m None h = search html depth 9
each_html HexadecimalCharacterReference m (Some c) h = search html depth 9
each_html DecimalCharacterReference m None h = search html depth 9
each_html DecimalCharacterReference m (Some c) h = search html depth 9
each_html NumericCharacterReferenceEnd m None h = flushing-html (with_buffer (numeric m.value ∷ []) m)
each_html NumericCharacterReferenceEnd m (Some c) h =
    flushing-html (with_buffer (numeric m.value ∷ []) m)
each_html _ m symbol h = cc

pub row_html : (m : Machine) (symbol : Option ℕ) → IsTrue (has_row m.state) → IsHtml (row m symbol)
row_html m symbol h = each_html m.state m symbol h
