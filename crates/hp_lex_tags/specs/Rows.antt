-- The rows of text, tags and character references (13.2.5.1, 13.2.5.6 to 13.2.5.8, 13.2.5.32 to 13.2.5.40 and 13.2.5.72 to
-- 13.2.5.80) but for named references. `None` is the end of input.
use Rattle.std.specs.Prelude.{ℕ, ◌+◌, ◌*◌, [], ◌∷◌, ◌==◌, ◌||◌, nat_lt, Bool, Option, None, Some, true, false, if◌then◌else◌}
use Rattle.std.specs.Char.{is_ascii_alphabetic, is_ascii_alphanumeric, is_digit, digit_value}
use Rattle.hp_names.specs.Numeric.{numeric}
use Rattle.hp_tokens.specs.declared.state.State.{State}
use Rattle.hp_tokens.specs.declared.state.State.TheVariants.{Data, TagOpen, EndTagOpen, TagName, BeforeAttributeName, AttributeName, AfterAttributeName, BeforeAttributeValue, AttributeValueDoubleQuoted, AttributeValueSingleQuoted, AttributeValueUnquoted, AfterAttributeValueQuoted, SelfClosingStartTag, BogusComment, MarkupDeclarationOpen, CharacterReference, NamedCharacterReference, AmbiguousAmpersand, NumericCharacterReference, HexadecimalCharacterReferenceStart, DecimalCharacterReferenceStart, HexadecimalCharacterReference, DecimalCharacterReference, NumericCharacterReferenceEnd}
use Rattle.hp_tokens.specs.declared.state.Return.{Return}
use Rattle.hp_tokens.specs.declared.state.Return.TheVariants as returns
use Rattle.hp_tokens.specs.declared.building.Part.TheVariants.{Name, AttributeName as NameOfAttribute, Value}
use Rattle.hp_tokens.specs.declared.machine.Machine.{Machine}
use Rattle.hp_tokens.specs.States.{is_in_value}
use Rattle.hp_tokens.specs.Rows.{Row, is_blank, replaced, go, again, stay, plus, ended, putting, lowered, new_start_tag, new_end_tag, new_comment, new_attribute, self_closing, with_buffer, buffering, returning_to, with_value, emitting_built, flushing, back}
use Rattle.hp_lex_tags.specs.Letters.{quotation_mark, number_sign, ampersand, apostrophe, solidus, semicolon, less_than, equals, greater_than, exclamation, question, is_x}

-- 13.2.5.1
abbrev pub data_row : Machine → Option ℕ → Row
data_row m None = ended m
data_row m (Some c) =
    if c == ampersand then go CharacterReference (returning_to returns.Data m)
    else if c == less_than then go TagOpen m
    else plus c (stay m)

-- 13.2.5.6
abbrev pub tag_open : Machine → Option ℕ → Row
tag_open m None = plus less_than (ended m)
tag_open m (Some c) =
    if c == exclamation then go MarkupDeclarationOpen m
    else if c == solidus then go EndTagOpen m
    else if is_ascii_alphabetic c then again TagName (new_start_tag m)
    else if c == question then again BogusComment (new_comment m)
    else plus less_than (again Data m)

-- 13.2.5.7
abbrev pub end_tag_open : Machine → Option ℕ → Row
end_tag_open m None = plus less_than (plus solidus (ended m))
end_tag_open m (Some c) =
    if is_ascii_alphabetic c then again TagName (new_end_tag m)
    else if c == greater_than then go Data m
    else again BogusComment (new_comment m)

-- 13.2.5.8
abbrev pub tag_name : Machine → Option ℕ → Row
tag_name m None = ended m
tag_name m (Some c) =
    if is_blank c then go BeforeAttributeName m
    else if c == solidus then go SelfClosingStartTag m
    else if c == greater_than then emitting_built (go Data) m
    else stay (putting Name (replaced (lowered c)) m)

-- 13.2.5.32
abbrev pub before_attribute_name : Machine → Option ℕ → Row
before_attribute_name m None = again AfterAttributeName m
before_attribute_name m (Some c) =
    if is_blank c then stay m
    else if c == solidus || c == greater_than then again AfterAttributeName m
    else if c == equals then go AttributeName (putting NameOfAttribute equals (new_attribute m))
    else again AttributeName (new_attribute m)

-- 13.2.5.33; an attribute whose name the tag has already is dropped where it is finished
abbrev pub attribute_name : Machine → Option ℕ → Row
attribute_name m None = again AfterAttributeName m
attribute_name m (Some c) =
    if is_blank c then again AfterAttributeName m
    else if c == solidus || c == greater_than then again AfterAttributeName m
    else if c == equals then go BeforeAttributeValue m
    else stay (putting NameOfAttribute (replaced (lowered c)) m)

-- 13.2.5.34
abbrev pub after_attribute_name : Machine → Option ℕ → Row
after_attribute_name m None = ended m
after_attribute_name m (Some c) =
    if is_blank c then stay m
    else if c == solidus then go SelfClosingStartTag m
    else if c == equals then go BeforeAttributeValue m
    else if c == greater_than then emitting_built (go Data) m
    else again AttributeName (new_attribute m)

-- 13.2.5.35
abbrev pub before_attribute_value : Machine → Option ℕ → Row
before_attribute_value m None = again AttributeValueUnquoted m
before_attribute_value m (Some c) =
    if is_blank c then stay m
    else if c == quotation_mark then go AttributeValueDoubleQuoted m
    else if c == apostrophe then go AttributeValueSingleQuoted m
    else if c == greater_than then emitting_built (go Data) m
    else again AttributeValueUnquoted m

-- 13.2.5.36 and 13.2.5.37
abbrev pub quoted_value : ℕ → Return → Machine → Option ℕ → Row
quoted_value mark here m None = ended m
quoted_value mark here m (Some c) =
    if c == mark then go AfterAttributeValueQuoted m
    else if c == ampersand then go CharacterReference (returning_to here m)
    else stay (putting Value (replaced c) m)

-- 13.2.5.38
abbrev pub unquoted_value : Machine → Option ℕ → Row
unquoted_value m None = ended m
unquoted_value m (Some c) =
    if is_blank c then go BeforeAttributeName m
    else if c == ampersand then go CharacterReference (returning_to returns.Unquoted m)
    else if c == greater_than then emitting_built (go Data) m
    else stay (putting Value (replaced c) m)

-- 13.2.5.39
abbrev pub after_quoted_value : Machine → Option ℕ → Row
after_quoted_value m None = ended m
after_quoted_value m (Some c) =
    if is_blank c then go BeforeAttributeName m
    else if c == solidus then go SelfClosingStartTag m
    else if c == greater_than then emitting_built (go Data) m
    else again BeforeAttributeName m

-- 13.2.5.40
abbrev pub self_closing_start_tag : Machine → Option ℕ → Row
self_closing_start_tag m None = ended m
self_closing_start_tag m (Some c) =
    if c == greater_than then emitting_built (go Data) (self_closing m)
    else again BeforeAttributeName m

-- 13.2.5.72
abbrev pub character_reference : Machine → Option ℕ → Row
character_reference m None = flushing back (with_buffer (ampersand ∷ []) m)
character_reference m (Some c) =
    if is_ascii_alphanumeric c then again NamedCharacterReference (with_buffer (ampersand ∷ []) m)
    else if c == number_sign then go NumericCharacterReference (with_buffer (ampersand ∷ number_sign ∷ []) m)
    else flushing back (with_buffer (ampersand ∷ []) m)

-- 13.2.5.74
abbrev pub ambiguous_ampersand : Machine → Option ℕ → Row
ambiguous_ampersand m None = back m
ambiguous_ampersand m (Some c) =
    if is_ascii_alphanumeric c then (if is_in_value m.return_to then stay (putting Value c m) else plus c (stay m))
    else back m

-- 13.2.5.75
abbrev pub numeric_reference : Machine → Option ℕ → Row
numeric_reference m None = again DecimalCharacterReferenceStart m
numeric_reference m (Some c) =
    if is_x c then go HexadecimalCharacterReferenceStart (buffering c m)
    else again DecimalCharacterReferenceStart m

-- 13.2.5.76 and 13.2.5.77; the value begins at 0
abbrev pub number_start : ℕ → State → Machine → Option ℕ → Row
number_start base digits m None = flushing back m
number_start base digits m (Some c) =
    if is_digit c base then again digits (with_value 0 m)
    else flushing back m

-- a value above the last code point stays above it
abbrev pub capped : ℕ → ℕ
capped v = if nat_lt 0x10FFFF v then 0x110000 else v

-- 13.2.5.78 and 13.2.5.79
abbrev pub number : ℕ → Machine → Option ℕ → Row
number base m None = again NumericCharacterReferenceEnd m
number base m (Some c) =
    if is_digit c base then stay (with_value (capped (m.value * base + digit_value c)) m)
    else if c == semicolon then go NumericCharacterReferenceEnd m
    else again NumericCharacterReferenceEnd m

-- 13.2.5.80; it reads no code point
abbrev pub numeric_end : Machine → Option ℕ → Row
numeric_end m symbol = flushing back (with_buffer (numeric m.value ∷ []) m)

-- the states with such a row here
abbrev pub has_row : State → Bool
has_row Data = true
has_row TagOpen = true
has_row EndTagOpen = true
has_row TagName = true
has_row BeforeAttributeName = true
has_row AttributeName = true
has_row AfterAttributeName = true
has_row BeforeAttributeValue = true
has_row AttributeValueDoubleQuoted = true
has_row AttributeValueSingleQuoted = true
has_row AttributeValueUnquoted = true
has_row AfterAttributeValueQuoted = true
has_row SelfClosingStartTag = true
has_row CharacterReference = true
has_row AmbiguousAmpersand = true
has_row NumericCharacterReference = true
has_row HexadecimalCharacterReferenceStart = true
has_row DecimalCharacterReferenceStart = true
has_row HexadecimalCharacterReference = true
has_row DecimalCharacterReference = true
has_row NumericCharacterReferenceEnd = true
has_row _ = false

-- the row of a state
abbrev pub row_of : State → Machine → Option ℕ → Row
row_of Data = data_row
row_of TagOpen = tag_open
row_of EndTagOpen = end_tag_open
row_of TagName = tag_name
row_of BeforeAttributeName = before_attribute_name
row_of AttributeName = attribute_name
row_of AfterAttributeName = after_attribute_name
row_of BeforeAttributeValue = before_attribute_value
row_of AttributeValueDoubleQuoted = quoted_value quotation_mark returns.DoubleQuoted
row_of AttributeValueSingleQuoted = quoted_value apostrophe returns.SingleQuoted
row_of AttributeValueUnquoted = unquoted_value
row_of AfterAttributeValueQuoted = after_quoted_value
row_of SelfClosingStartTag = self_closing_start_tag
row_of CharacterReference = character_reference
row_of AmbiguousAmpersand = ambiguous_ampersand
row_of NumericCharacterReference = numeric_reference
row_of HexadecimalCharacterReferenceStart = number_start 16 HexadecimalCharacterReference
row_of DecimalCharacterReferenceStart = number_start 10 DecimalCharacterReference
row_of HexadecimalCharacterReference = number 16
row_of DecimalCharacterReference = number 10
row_of NumericCharacterReferenceEnd = numeric_end
row_of _ = λ m symbol. ended m

abbrev pub row : Machine → Option ℕ → Row
row m symbol = row_of m.state m symbol
