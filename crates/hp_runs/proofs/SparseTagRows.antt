-- The rows of text and tags emit at most one token that is not characters, on a code point that they consume.
use Rattle.std.proofs.Common.{ℕ, [], ◌∷◌, Option, None, Some}
use Rattle.std.specs.Prelude.{IsTrue, ◌==◌}
use Rattle.hp_tokens.specs.declared.state.State.{State}
use Rattle.hp_tokens.specs.declared.state.State.TheVariants.{Data, TagOpen, EndTagOpen, TagName, BeforeAttributeName, AttributeName, AfterAttributeName, BeforeAttributeValue, AttributeValueDoubleQuoted, AttributeValueSingleQuoted, AttributeValueUnquoted, AfterAttributeValueQuoted, SelfClosingStartTag, CharacterReference, NamedCharacterReference, AmbiguousAmpersand, NumericCharacterReference, HexadecimalCharacterReferenceStart, DecimalCharacterReferenceStart, HexadecimalCharacterReference, DecimalCharacterReference, NumericCharacterReferenceEnd}
use Rattle.hp_tokens.specs.declared.machine.Machine.{Machine}
use Rattle.hp_tokens.specs.States.{is_in_value}
use Rattle.hp_tokens.specs.Rows.{stay, putting, with_buffer, with_value}
use Rattle.hp_tokens.specs.declared.building.Part.TheVariants.{Value}
use Rattle.hp_names.specs.Numeric.{numeric}
use Rattle.hp_lex_tags.specs.Letters.{ampersand, number_sign}
use Rattle.std.specs.Char.{is_ascii_alphanumeric, is_digit}
use Rattle.hp_lex_tags.specs.Rows.{row, row_of, has_row}
use Rattle.hp_runs.proofs.SparseRows.{sparse, IsSparse, either-sparse, go-sparse, stay-sparse, plus-sparse, again-sparse, back-sparse, flushing-sparse}

each_sparse : (s : State) (m : Machine) (symbol : Option ℕ) → IsTrue (has_row s) → IsSparse (row_of s m symbol)
each_sparse Data m None h = search sparse depth 9
each_sparse Data m (Some c) h = search sparse depth 9
each_sparse TagOpen m None h = search sparse depth 9
each_sparse TagOpen m (Some c) h = search sparse depth 9
each_sparse EndTagOpen m None h = search sparse depth 9
each_sparse EndTagOpen m (Some c) h = search sparse depth 9
each_sparse TagName m None h = search sparse depth 9
each_sparse TagName m (Some c) h = search sparse depth 9
each_sparse BeforeAttributeName m None h = search sparse depth 9
each_sparse BeforeAttributeName m (Some c) h = search sparse depth 9
each_sparse AttributeName m None h = search sparse depth 9
each_sparse AttributeName m (Some c) h = search sparse depth 9
each_sparse AfterAttributeName m None h = search sparse depth 9
each_sparse AfterAttributeName m (Some c) h = search sparse depth 9
each_sparse BeforeAttributeValue m None h = search sparse depth 9
each_sparse BeforeAttributeValue m (Some c) h = search sparse depth 9
each_sparse AttributeValueDoubleQuoted m None h = search sparse depth 9
each_sparse AttributeValueDoubleQuoted m (Some c) h = search sparse depth 9
each_sparse AttributeValueSingleQuoted m None h = search sparse depth 9
each_sparse AttributeValueSingleQuoted m (Some c) h = search sparse depth 9
each_sparse AttributeValueUnquoted m None h = search sparse depth 9
each_sparse AttributeValueUnquoted m (Some c) h = search sparse depth 9
each_sparse AfterAttributeValueQuoted m None h = search sparse depth 9
each_sparse AfterAttributeValueQuoted m (Some c) h = search sparse depth 9
each_sparse SelfClosingStartTag m None h = search sparse depth 9
each_sparse SelfClosingStartTag m (Some c) h = search sparse depth 9
each_sparse CharacterReference m None h = flushing-sparse (with_buffer (ampersand ∷ []) m)
each_sparse CharacterReference m (Some c) h =
    either-sparse (is_ascii_alphanumeric c) (again-sparse NamedCharacterReference (with_buffer (ampersand ∷ []) m))
    (either-sparse (c == number_sign) (go-sparse NumericCharacterReference (with_buffer (ampersand ∷ number_sign ∷ []) m)) (flushing-sparse (with_buffer (ampersand ∷ []) m)))
each_sparse AmbiguousAmpersand m None h = back-sparse m
each_sparse AmbiguousAmpersand m (Some c) h =
    either-sparse (is_ascii_alphanumeric c) (either-sparse (is_in_value m.return_to) (stay-sparse (putting Value c m)) (plus-sparse c (stay m) (stay-sparse m))) (back-sparse m)
each_sparse NumericCharacterReference m None h = search sparse depth 9
each_sparse NumericCharacterReference m (Some c) h = search sparse depth 9
each_sparse HexadecimalCharacterReferenceStart m None h = flushing-sparse m
each_sparse HexadecimalCharacterReferenceStart m (Some c) h =
    either-sparse (is_digit c 16) (again-sparse HexadecimalCharacterReference (with_value 0 m)) (flushing-sparse m)
each_sparse DecimalCharacterReferenceStart m None h = flushing-sparse m
each_sparse DecimalCharacterReferenceStart m (Some c) h =
    either-sparse (is_digit c 10) (again-sparse DecimalCharacterReference (with_value 0 m)) (flushing-sparse m)
each_sparse HexadecimalCharacterReference m None h = search sparse depth 9
each_sparse HexadecimalCharacterReference m (Some c) h = search sparse depth 9
each_sparse DecimalCharacterReference m None h = search sparse depth 9
each_sparse DecimalCharacterReference m (Some c) h = search sparse depth 9
each_sparse NumericCharacterReferenceEnd m None h = flushing-sparse (with_buffer (numeric m.value ∷ []) m)
each_sparse NumericCharacterReferenceEnd m (Some c) h =
    flushing-sparse (with_buffer (numeric m.value ∷ []) m)
each_sparse _ m symbol h = cc

pub row_sparse : (m : Machine) (symbol : Option ℕ) → IsTrue (has_row m.state) → IsSparse (row m symbol)
row_sparse m symbol h = each_sparse m.state m symbol h
