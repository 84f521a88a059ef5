-- The rows of text and tags keep a machine that fits.
use Rattle.std.proofs.Common.{◌≡◌, ℕ, [], ◌∷◌, refl, Some}
use Rattle.std.specs.Prelude.{IsTrue, ◌==◌}
use Rattle.hp_tokens.specs.declared.building.Building.{Building}
use Rattle.hp_tokens.specs.declared.machine.Machine.{Machine}
use Rattle.hp_tokens.specs.declared.state.State.{State}
use Rattle.hp_tokens.specs.declared.state.State.TheVariants.{Data, TagOpen, EndTagOpen, TagName, BeforeAttributeName, AttributeName, AfterAttributeName, BeforeAttributeValue, AttributeValueDoubleQuoted, AttributeValueSingleQuoted, AttributeValueUnquoted, AfterAttributeValueQuoted, SelfClosingStartTag, CharacterReference, AmbiguousAmpersand, NumericCharacterReference, HexadecimalCharacterReferenceStart, DecimalCharacterReferenceStart, HexadecimalCharacterReference, DecimalCharacterReference, NumericCharacterReferenceEnd, NamedCharacterReference}
use Rattle.hp_tokens.specs.States.{is_in_value}
use Rattle.hp_tokens.specs.Rows.{stay, putting, with_buffer, with_value}
use Rattle.hp_tokens.specs.declared.building.Part.TheVariants.{Value}
use Rattle.hp_names.specs.Numeric.{numeric}
use Rattle.hp_lex_tags.specs.Letters.{ampersand, number_sign}
use Rattle.std.specs.Char.{is_ascii_alphanumeric, is_digit}
use Rattle.hp_lex_tags.specs.Rows.{row, row_of, has_row}
use Rattle.hp_pieces.proofs.FitRows.{Fits, Keeps, keeps, either-keeps, go-keeps, again-keeps, stay-keeps, plus-keeps, back-keeps, flushing-keeps, built-fits, value-fits}

each_keeps : (s : State) (m : Machine) (c : ℕ) → m.state ≡ s → Fits m → IsTrue (has_row s) → Keeps (row_of s m (Some c))
each_keeps Data m c e h k = search (keeps, h, h.told) depth 9
each_keeps TagOpen m c e h k = search (keeps, h.told) depth 9
each_keeps EndTagOpen m c e h k = search (keeps, h.told) depth 9
each_keeps TagName m c e h k = let part : (x : Building) → Fits (record m { building = x }) = λ x. built-fits TagName m x e refl h in search (keeps, part, h.told) depth 9
each_keeps BeforeAttributeName m c e h k = search (keeps, h, h.told) depth 9
each_keeps AttributeName m c e h k = let part : (x : Building) → Fits (record m { building = x }) = λ x. built-fits AttributeName m x e refl h in search (keeps, part, h.told) depth 9
each_keeps AfterAttributeName m c e h k = search (keeps, h, h.told) depth 9
each_keeps BeforeAttributeValue m c e h k = search (keeps, h, h.told) depth 9
each_keeps AttributeValueDoubleQuoted m c e h k = let part : (x : Building) → Fits (record m { building = x }) = λ x. built-fits AttributeValueDoubleQuoted m x e refl h in search (keeps, part, h.told) depth 9
each_keeps AttributeValueSingleQuoted m c e h k = let part : (x : Building) → Fits (record m { building = x }) = λ x. built-fits AttributeValueSingleQuoted m x e refl h in search (keeps, part, h.told) depth 9
each_keeps AttributeValueUnquoted m c e h k = let part : (x : Building) → Fits (record m { building = x }) = λ x. built-fits AttributeValueUnquoted m x e refl h in search (keeps, part, h.told) depth 9
each_keeps AfterAttributeValueQuoted m c e h k = search (keeps, h.told) depth 9
each_keeps SelfClosingStartTag m c e h k = search (keeps, h.told) depth 9
each_keeps CharacterReference m c e h k =
    either-keeps (is_ascii_alphanumeric c) (again-keeps NamedCharacterReference (with_buffer (ampersand ∷ []) m) h.told)
    (either-keeps (c == number_sign) (go-keeps NumericCharacterReference (with_buffer (ampersand ∷ number_sign ∷ []) m) h.told) (flushing-keeps (with_buffer (ampersand ∷ []) m) h.told))
each_keeps AmbiguousAmpersand m c e h k =
    either-keeps (is_ascii_alphanumeric c)
    (either-keeps (is_in_value m.return_to) (stay-keeps (putting Value c m) (built-fits AmbiguousAmpersand m (putting Value c m).building e refl h)) (plus-keeps c (stay m) (stay-keeps m h))) (back-keeps m h.told)
each_keeps NumericCharacterReference m c e h k = search (keeps, h.told) depth 9
each_keeps HexadecimalCharacterReferenceStart m c e h k =
    either-keeps (is_digit c 16) (again-keeps HexadecimalCharacterReference (with_value 0 m) h.told) (flushing-keeps m h.told)
each_keeps DecimalCharacterReferenceStart m c e h k =
    either-keeps (is_digit c 10) (again-keeps DecimalCharacterReference (with_value 0 m) h.told) (flushing-keeps m h.told)
each_keeps HexadecimalCharacterReference m c e h k = let part : (x : ℕ) → Fits (record m { value = x }) = λ x. value-fits HexadecimalCharacterReference m x e refl h in search (keeps, part, h.told) depth 9
each_keeps DecimalCharacterReference m c e h k = let part : (x : ℕ) → Fits (record m { value = x }) = λ x. value-fits DecimalCharacterReference m x e refl h in search (keeps, part, h.told) depth 9
each_keeps NumericCharacterReferenceEnd m c e h k = flushing-keeps (with_buffer (numeric m.value ∷ []) m) h.told
each_keeps _ m c e h k = cc

pub row_keeps : (m : Machine) (c : ℕ) → Fits m → IsTrue (has_row m.state) → Keeps (row m (Some c))
row_keeps m c h k = each_keeps m.state m c refl h k
