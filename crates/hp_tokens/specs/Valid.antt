-- Which token is under construction in each state of the lexer between two texts, and what the front of a word is.
use Rattle.std.specs.Prelude.{ℕ, ◌==◌, ◌&&◌, Bool, if◌then◌else◌, true, false, List, [], ◌∷◌, map, Option, None, Some}
use Rattle.std.specs.Char.{to_ascii_lowercase}
use Rattle.hp_tokens.specs.declared.state.State.{State}
use Rattle.hp_tokens.specs.declared.state.State.TheVariants.{TagName, RcdataEndTagName, RawtextEndTagName, ScriptDataEndTagName, ScriptDataEscapedEndTagName, BeforeAttributeName, AttributeName, AfterAttributeName, BeforeAttributeValue, AttributeValueDoubleQuoted, AttributeValueSingleQuoted, AttributeValueUnquoted, AfterAttributeValueQuoted, SelfClosingStartTag, BogusComment, CommentStart, CommentStartDash, Comment, CommentLessThanSign, CommentLessThanSignBang, CommentLessThanSignBangDash, CommentLessThanSignBangDashDash, CommentEndDash, CommentEnd, CommentEndBang, DoctypeName, AfterDoctypeName, AfterDoctypePublicKeyword, BeforeDoctypePublicIdentifier, DoctypePublicIdentifierDoubleQuoted, DoctypePublicIdentifierSingleQuoted, AfterDoctypePublicIdentifier, BetweenDoctypePublicAndSystemIdentifiers, AfterDoctypeSystemKeyword, BeforeDoctypeSystemIdentifier, DoctypeSystemIdentifierDoubleQuoted, DoctypeSystemIdentifierSingleQuoted, AfterDoctypeSystemIdentifier, BogusDoctype, CharacterReference, NamedCharacterReference, AmbiguousAmpersand, NumericCharacterReference, HexadecimalCharacterReferenceStart, DecimalCharacterReferenceStart, HexadecimalCharacterReference, DecimalCharacterReference, NumericCharacterReferenceEnd}
use Rattle.hp_tokens.specs.declared.state.Return.{Return}
use Rattle.hp_tokens.specs.declared.building.Building.{Building}
use Rattle.hp_tokens.specs.declared.building.Building.TheVariants as building
use Rattle.hp_tokens.specs.declared.building.NewAttribute.{NewAttribute}
use Rattle.hp_tokens.specs.States.{is_in_value}

abbrev pub is_nothing : Building → Bool
is_nothing building.Nothing = true
is_nothing _ = false

abbrev pub is_begun : Option NewAttribute → Bool
is_begun None = false
is_begun (Some a) = true

-- a tag; in a value it has an attribute under construction
abbrev pub is_tag : Building → Bool
is_tag (building.StartTag t) = true
is_tag (building.EndTag name) = true
is_tag _ = false

abbrev pub is_tag_with_attribute : Building → Bool
is_tag_with_attribute (building.StartTag t) = is_begun t.attribute
is_tag_with_attribute (building.EndTag name) = true
is_tag_with_attribute _ = false

abbrev pub is_end_tag : Building → Bool
is_end_tag (building.EndTag name) = true
is_end_tag _ = false

abbrev pub is_comment : Building → Bool
is_comment (building.Comment text) = true
is_comment _ = false

abbrev pub is_doctype : Building → Bool
is_doctype (building.Doctype d) = true
is_doctype _ = false

-- a reference in a value stands in its tag; elsewhere nothing is under construction
abbrev pub has_value : Return → Building → Bool
has_value r b = if is_in_value r then is_tag_with_attribute b else is_nothing b

-- The token under construction is the state's. Behind an attribute's name the attribute is under construction still.
abbrev pub has_token : State → Return → Building → Bool
has_token TagName r b = is_tag b
has_token RcdataEndTagName r b = is_end_tag b
has_token RawtextEndTagName r b = is_end_tag b
has_token ScriptDataEndTagName r b = is_end_tag b
has_token ScriptDataEscapedEndTagName r b = is_end_tag b
has_token BeforeAttributeName r b = is_tag b
has_token AttributeName r b = is_tag_with_attribute b
has_token AfterAttributeName r b = is_tag_with_attribute b
has_token BeforeAttributeValue r b = is_tag_with_attribute b
has_token AttributeValueDoubleQuoted r b = is_tag_with_attribute b
has_token AttributeValueSingleQuoted r b = is_tag_with_attribute b
has_token AttributeValueUnquoted r b = is_tag_with_attribute b
has_token AfterAttributeValueQuoted r b = is_tag b
has_token SelfClosingStartTag r b = is_tag b
has_token BogusComment r b = is_comment b
has_token CommentStart r b = is_comment b
has_token CommentStartDash r b = is_comment b
has_token Comment r b = is_comment b
has_token CommentLessThanSign r b = is_comment b
has_token CommentLessThanSignBang r b = is_comment b
has_token CommentLessThanSignBangDash r b = is_comment b
has_token CommentLessThanSignBangDashDash r b = is_comment b
has_token CommentEndDash r b = is_comment b
has_token CommentEnd r b = is_comment b
has_token CommentEndBang r b = is_comment b
has_token DoctypeName r b = is_doctype b
has_token AfterDoctypeName r b = is_doctype b
has_token AfterDoctypePublicKeyword r b = is_doctype b
has_token BeforeDoctypePublicIdentifier r b = is_doctype b
has_token DoctypePublicIdentifierDoubleQuoted r b = is_doctype b
has_token DoctypePublicIdentifierSingleQuoted r b = is_doctype b
has_token AfterDoctypePublicIdentifier r b = is_doctype b
has_token BetweenDoctypePublicAndSystemIdentifiers r b = is_doctype b
has_token AfterDoctypeSystemKeyword r b = is_doctype b
has_token BeforeDoctypeSystemIdentifier r b = is_doctype b
has_token DoctypeSystemIdentifierDoubleQuoted r b = is_doctype b
has_token DoctypeSystemIdentifierSingleQuoted r b = is_doctype b
has_token AfterDoctypeSystemIdentifier r b = is_doctype b
has_token BogusDoctype r b = is_doctype b
has_token CharacterReference r b = has_value r b
has_token NamedCharacterReference r b = has_value r b
has_token AmbiguousAmpersand r b = has_value r b
has_token NumericCharacterReference r b = has_value r b
has_token HexadecimalCharacterReferenceStart r b = has_value r b
has_token DecimalCharacterReferenceStart r b = has_value r b
has_token HexadecimalCharacterReference r b = has_value r b
has_token DecimalCharacterReference r b = has_value r b
has_token NumericCharacterReferenceEnd r b = has_value r b
has_token _ r b = is_nothing b

-- the text is the front of a longer word
abbrev pub is_front : List ℕ → List ℕ → Bool
is_front [] [] = false
is_front [] (w ∷ ws) = true
is_front (c ∷ cs) [] = false
is_front (c ∷ cs) (w ∷ ws) = c == w && is_front cs ws

-- the same without ASCII case, of a word in lower case
abbrev pub is_front_without_case : List ℕ → List ℕ → Bool
is_front_without_case text word = is_front (map to_ascii_lowercase text) word
