-- What the lexer's states are, and which parts of the machine each of them uses.
use Rattle.std.specs.Prelude.{[], Bool, true, false, if◌then◌else◌}
use Rattle.hp_elements.specs.declared.token.Rest.{Rest}
use Rattle.hp_elements.specs.declared.token.Rest.TheVariants as rest
use Rattle.hp_tokens.specs.declared.state.State.{State}
use Rattle.hp_tokens.specs.declared.state.State.TheVariants.{Data, Rcdata, Rawtext, ScriptData, Plaintext, TagName, RcdataEndTagName, RawtextEndTagName, ScriptDataEndTagName, ScriptDataEscaped, ScriptDataEscapedDash, ScriptDataEscapedDashDash, ScriptDataEscapedEndTagName, ScriptDataDoubleEscapeStart, ScriptDataDoubleEscaped, ScriptDataDoubleEscapedDash, ScriptDataDoubleEscapedDashDash, ScriptDataDoubleEscapeEnd, BeforeAttributeName, AttributeName, AfterAttributeName, BeforeAttributeValue, AttributeValueDoubleQuoted, AttributeValueSingleQuoted, AttributeValueUnquoted, AfterAttributeValueQuoted, SelfClosingStartTag, BogusComment, CommentStart, CommentStartDash, Comment, CommentLessThanSign, CommentLessThanSignBang, CommentLessThanSignBangDash, CommentLessThanSignBangDashDash, CommentEndDash, CommentEnd, CommentEndBang, DoctypeName, AfterDoctypeName, AfterDoctypePublicKeyword, BeforeDoctypePublicIdentifier, DoctypePublicIdentifierDoubleQuoted, DoctypePublicIdentifierSingleQuoted, AfterDoctypePublicIdentifier, BetweenDoctypePublicAndSystemIdentifiers, AfterDoctypeSystemKeyword, BeforeDoctypeSystemIdentifier, DoctypeSystemIdentifierDoubleQuoted, DoctypeSystemIdentifierSingleQuoted, AfterDoctypeSystemIdentifier, BogusDoctype, CdataSection, CharacterReference, NamedCharacterReference, AmbiguousAmpersand, NumericCharacterReference, HexadecimalCharacterReferenceStart, DecimalCharacterReferenceStart, HexadecimalCharacterReference, DecimalCharacterReference, NumericCharacterReferenceEnd}
use Rattle.hp_tokens.specs.declared.state.Return.{Return}
use Rattle.hp_tokens.specs.declared.state.Return.TheVariants as returns
use Rattle.hp_tokens.specs.declared.building.Building.TheVariants.{Nothing}
use Rattle.hp_tokens.specs.declared.machine.Machine.{Machine}

-- the states in which no code point is held back, and nothing is under construction
abbrev pub is_resting : State → Bool
is_resting Data = true
is_resting Rcdata = true
is_resting Rawtext = true
is_resting ScriptData = true
is_resting Plaintext = true
is_resting ScriptDataEscaped = true
is_resting ScriptDataEscapedDash = true
is_resting ScriptDataEscapedDashDash = true
is_resting ScriptDataDoubleEscaped = true
is_resting ScriptDataDoubleEscapedDash = true
is_resting ScriptDataDoubleEscapedDashDash = true
is_resting CdataSection = true
is_resting _ = false

-- the resting state of that name
abbrev pub state_of_rest : Rest → State
state_of_rest rest.Data = Data
state_of_rest rest.Rcdata = Rcdata
state_of_rest rest.Rawtext = Rawtext
state_of_rest rest.Script = ScriptData
state_of_rest rest.Plaintext = Plaintext
state_of_rest rest.Escaped = ScriptDataEscaped
state_of_rest rest.EscapedDash = ScriptDataEscapedDash
state_of_rest rest.EscapedDashDash = ScriptDataEscapedDashDash
state_of_rest rest.Double = ScriptDataDoubleEscaped
state_of_rest rest.DoubleDash = ScriptDataDoubleEscapedDash
state_of_rest rest.DoubleDashDash = ScriptDataDoubleEscapedDashDash
state_of_rest rest.Cdata = CdataSection

-- the state that a character reference goes back to
abbrev pub return_state : Return → State
return_state returns.Data = Data
return_state returns.Rcdata = Rcdata
return_state returns.DoubleQuoted = AttributeValueDoubleQuoted
return_state returns.SingleQuoted = AttributeValueSingleQuoted
return_state returns.Unquoted = AttributeValueUnquoted

-- whether a character reference stands in an attribute's value
abbrev pub is_in_value : Return → Bool
is_in_value returns.Data = false
is_in_value returns.Rcdata = false
is_in_value _ = true

-- the states in which a token is under construction, or may be while a reference in its value is read
abbrev pub uses_token : State → Bool
uses_token TagName = true
uses_token RcdataEndTagName = true
uses_token RawtextEndTagName = true
uses_token ScriptDataEndTagName = true
uses_token ScriptDataEscapedEndTagName = true
uses_token BeforeAttributeName = true
uses_token AttributeName = true
uses_token AfterAttributeName = true
uses_token BeforeAttributeValue = true
uses_token AttributeValueDoubleQuoted = true
uses_token AttributeValueSingleQuoted = true
uses_token AttributeValueUnquoted = true
uses_token AfterAttributeValueQuoted = true
uses_token SelfClosingStartTag = true
uses_token BogusComment = true
uses_token CommentStart = true
uses_token CommentStartDash = true
uses_token Comment = true
uses_token CommentLessThanSign = true
uses_token CommentLessThanSignBang = true
uses_token CommentLessThanSignBangDash = true
uses_token CommentLessThanSignBangDashDash = true
uses_token CommentEndDash = true
uses_token CommentEnd = true
uses_token CommentEndBang = true
uses_token DoctypeName = true
uses_token AfterDoctypeName = true
uses_token AfterDoctypePublicKeyword = true
uses_token BeforeDoctypePublicIdentifier = true
uses_token DoctypePublicIdentifierDoubleQuoted = true
uses_token DoctypePublicIdentifierSingleQuoted = true
uses_token AfterDoctypePublicIdentifier = true
uses_token BetweenDoctypePublicAndSystemIdentifiers = true
uses_token AfterDoctypeSystemKeyword = true
uses_token BeforeDoctypeSystemIdentifier = true
uses_token DoctypeSystemIdentifierDoubleQuoted = true
uses_token DoctypeSystemIdentifierSingleQuoted = true
uses_token AfterDoctypeSystemIdentifier = true
uses_token BogusDoctype = true
uses_token CharacterReference = true
uses_token NamedCharacterReference = true
uses_token AmbiguousAmpersand = true
uses_token NumericCharacterReference = true
uses_token HexadecimalCharacterReferenceStart = true
uses_token DecimalCharacterReferenceStart = true
uses_token HexadecimalCharacterReference = true
uses_token DecimalCharacterReference = true
uses_token NumericCharacterReferenceEnd = true
uses_token _ = false

-- the states that read the buffer
abbrev pub uses_buffer : State → Bool
uses_buffer RcdataEndTagName = true
uses_buffer RawtextEndTagName = true
uses_buffer ScriptDataEndTagName = true
uses_buffer ScriptDataEscapedEndTagName = true
uses_buffer ScriptDataDoubleEscapeStart = true
uses_buffer ScriptDataDoubleEscapeEnd = true
uses_buffer NamedCharacterReference = true
uses_buffer NumericCharacterReference = true
uses_buffer HexadecimalCharacterReferenceStart = true
uses_buffer DecimalCharacterReferenceStart = true
uses_buffer _ = false

-- the states of a character reference, which go back to another state
abbrev pub uses_return : State → Bool
uses_return CharacterReference = true
uses_return NamedCharacterReference = true
uses_return AmbiguousAmpersand = true
uses_return NumericCharacterReference = true
uses_return HexadecimalCharacterReferenceStart = true
uses_return DecimalCharacterReferenceStart = true
uses_return HexadecimalCharacterReference = true
uses_return DecimalCharacterReference = true
uses_return NumericCharacterReferenceEnd = true
uses_return _ = false

-- the states in which a numeric reference has a value
abbrev pub uses_value : State → Bool
uses_value HexadecimalCharacterReference = true
uses_value DecimalCharacterReference = true
uses_value NumericCharacterReferenceEnd = true
uses_value _ = false

-- A move into a state: the parts that it does not use are empty there. In a resting state these are all parts
-- but the last start tag's name and whether the last code point was CR.
abbrev pub enter : State → Machine → Machine
enter n m = record {
  state = n;
  building = if uses_token n then m.building else Nothing;
  buffer = if uses_buffer n then m.buffer else [];
  return_to = if uses_return n then m.return_to else returns.Data;
  value = if uses_value n then m.value else 0;
  last_tag = m.last_tag;
  after_cr = m.after_cr;
}
