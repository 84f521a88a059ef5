-- Each row of this part reads a code point for good or goes to a state of a lower rank, and emits code points one by one.
use Rattle.std.proofs.Common.{ℕ, false, [], ◌∷◌, Option, None, Some, arith}
use Rattle.std.specs.Prelude.{IsTrue, ◌==◌}
use Rattle.hp_tokens.specs.declared.state.State.{State}
use Rattle.hp_tokens.specs.declared.state.State.TheVariants.{Data, TagOpen, EndTagOpen, TagName, BeforeAttributeName, AttributeName, AfterAttributeName, BeforeAttributeValue, AttributeValueDoubleQuoted, AttributeValueSingleQuoted, AttributeValueUnquoted, AfterAttributeValueQuoted, SelfClosingStartTag, CharacterReference, NamedCharacterReference, AmbiguousAmpersand, NumericCharacterReference, HexadecimalCharacterReferenceStart, DecimalCharacterReferenceStart, HexadecimalCharacterReference, DecimalCharacterReference, NumericCharacterReferenceEnd}
use Rattle.hp_tokens.specs.declared.machine.Machine.{Machine}
use Rattle.hp_tokens.specs.Ranks.{IsFine}
use Rattle.hp_tokens.proofs.FineRows.{fine, either-fine, go-fine, stay-fine, plus-fine, again-fine, back-fine, back_end-fine, flushing-fine, flushing_end-fine}
use Rattle.hp_tokens.specs.States.{is_in_value}
use Rattle.hp_tokens.specs.Rows.{stay, putting, with_buffer, with_value}
use Rattle.hp_tokens.specs.declared.building.Part.TheVariants.{Value}
use Rattle.hp_names.specs.Numeric.{numeric}
use Rattle.hp_lex_tags.specs.Letters.{ampersand, number_sign}
use Rattle.std.specs.Char.{is_ascii_alphanumeric, is_digit}
use Rattle.hp_lex_tags.specs.Rows.{row, row_of, has_row}

never : {A : Type 0} → IsTrue false → A
never h = cc

each_fine : (s : State) (m : Machine) (symbol : Option ℕ) → IsTrue (has_row s) → IsFine s symbol (row_of s m symbol)
each_fine Data m None h = search fine
each_fine Data m (Some c) h = search fine
each_fine TagOpen m None h = search fine
each_fine TagOpen m (Some c) h = search fine
each_fine EndTagOpen m None h = search fine
each_fine EndTagOpen m (Some c) h = search fine
each_fine TagName m None h = search fine
each_fine TagName m (Some c) h = search fine
each_fine BeforeAttributeName m None h = search fine
each_fine BeforeAttributeName m (Some c) h = search fine
each_fine AttributeName m None h = search fine
each_fine AttributeName m (Some c) h = search fine
each_fine AfterAttributeName m None h = search fine
each_fine AfterAttributeName m (Some c) h = search fine
each_fine BeforeAttributeValue m None h = search fine
each_fine BeforeAttributeValue m (Some c) h = search fine
each_fine AttributeValueDoubleQuoted m None h = search fine
each_fine AttributeValueDoubleQuoted m (Some c) h = search fine
each_fine AttributeValueSingleQuoted m None h = search fine
each_fine AttributeValueSingleQuoted m (Some c) h = search fine
each_fine AttributeValueUnquoted m None h = search fine
each_fine AttributeValueUnquoted m (Some c) h = search fine
each_fine AfterAttributeValueQuoted m None h = search fine
each_fine AfterAttributeValueQuoted m (Some c) h = search fine
each_fine SelfClosingStartTag m None h = search fine
each_fine SelfClosingStartTag m (Some c) h = search fine
each_fine CharacterReference m None h = flushing_end-fine (with_buffer (ampersand ∷ []) m) (omega arith)
each_fine CharacterReference m (Some c) h =
    either-fine (is_ascii_alphanumeric c) (again-fine NamedCharacterReference (with_buffer (ampersand ∷ []) m) (omega arith))
    (either-fine (c == number_sign) (go-fine NumericCharacterReference (with_buffer (ampersand ∷ number_sign ∷ []) m)) (flushing-fine (with_buffer (ampersand ∷ []) m) (omega arith)))
each_fine AmbiguousAmpersand m None h = back_end-fine m (omega arith)
each_fine AmbiguousAmpersand m (Some c) h =
    either-fine (is_ascii_alphanumeric c) (either-fine (is_in_value m.return_to) (stay-fine (putting Value c m)) (plus-fine c (stay m) (stay-fine m))) (back-fine m (omega arith))
each_fine NumericCharacterReference m None h = search fine
each_fine NumericCharacterReference m (Some c) h = search fine
each_fine HexadecimalCharacterReferenceStart m None h = flushing_end-fine m (omega arith)
each_fine HexadecimalCharacterReferenceStart m (Some c) h =
    either-fine (is_digit c 16) (again-fine HexadecimalCharacterReference (with_value 0 m) (omega arith)) (flushing-fine m (omega arith))
each_fine DecimalCharacterReferenceStart m None h = flushing_end-fine m (omega arith)
each_fine DecimalCharacterReferenceStart m (Some c) h =
    either-fine (is_digit c 10) (again-fine DecimalCharacterReference (with_value 0 m) (omega arith)) (flushing-fine m (omega arith))
each_fine HexadecimalCharacterReference m None h = search fine
each_fine HexadecimalCharacterReference m (Some c) h = search fine
each_fine DecimalCharacterReference m None h = search fine
each_fine DecimalCharacterReference m (Some c) h = search fine
each_fine NumericCharacterReferenceEnd m None h = flushing_end-fine (with_buffer (numeric m.value ∷ []) m) (omega arith)
each_fine NumericCharacterReferenceEnd m (Some c) h =
    flushing-fine (with_buffer (numeric m.value ∷ []) m) (omega arith)
each_fine _ m symbol h = never h

pub row_fine : (m : Machine) (symbol : Option ℕ) → IsTrue (has_row m.state) → IsFine m.state symbol (row m symbol)
row_fine m symbol h = each_fine m.state m symbol h
