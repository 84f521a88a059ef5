-- How many moves may follow before a code point is consumed. The table never reads a code point again for ever: each row
-- that reads it again goes to a state of a lower rank.
use Rattle.std.specs.Prelude.{◌≡◌, ℕ, ◌+◌, ◌*◌, ◌<◌, ◌==◌, ◌||◌, Bool, true, List, [], ◌∷◌, length, Option, None, Some, if◌then◌else◌}
use Rattle.hp_elements.specs.declared.token.Token.{Token}
use Rattle.hp_elements.specs.declared.token.Token.TheVariants as token
use Rattle.hp_tokens.specs.declared.state.State.{State}
use Rattle.hp_tokens.specs.declared.state.State.TheVariants.{TagOpen, EndTagOpen, RcdataLessThanSign, RcdataEndTagOpen, RcdataEndTagName, RawtextLessThanSign, RawtextEndTagOpen, RawtextEndTagName, ScriptDataLessThanSign, ScriptDataEndTagOpen, ScriptDataEndTagName, ScriptDataEscapeStart, ScriptDataEscapeStartDash, ScriptDataEscapedLessThanSign, ScriptDataEscapedEndTagOpen, ScriptDataEscapedEndTagName, ScriptDataDoubleEscapeStart, ScriptDataDoubleEscapedLessThanSign, ScriptDataDoubleEscapeEnd, BeforeAttributeName, AttributeName, AfterAttributeName, BeforeAttributeValue, AfterAttributeValueQuoted, SelfClosingStartTag, MarkupDeclarationOpen, CommentStart, CommentStartDash, CommentLessThanSign, CommentLessThanSignBang, CommentLessThanSignBangDash, CommentLessThanSignBangDashDash, CommentEndDash, CommentEnd, CommentEndBang, Doctype, AfterDoctypeName, AfterDoctypePublicKeyword, BeforeDoctypePublicIdentifier, AfterDoctypePublicIdentifier, BetweenDoctypePublicAndSystemIdentifiers, AfterDoctypeSystemKeyword, BeforeDoctypeSystemIdentifier, AfterDoctypeSystemIdentifier, CdataSectionBracket, CdataSectionEnd, CharacterReference, NamedCharacterReference, AmbiguousAmpersand, NumericCharacterReference, HexadecimalCharacterReferenceStart, DecimalCharacterReferenceStart, HexadecimalCharacterReference, DecimalCharacterReference, NumericCharacterReferenceEnd}
use Rattle.hp_tokens.specs.declared.rows.Reads.{Reads}
use Rattle.hp_tokens.specs.declared.rows.Reads.TheVariants.{Consume, Again, End}
use Rattle.hp_tokens.specs.Rows.{Row, is_blank}
use Rattle.hp_tokens.specs.Moves.{Lexing, read_as}
use Rattle.hp_elements.specs.Tokens.{class_of}

-- whether the end of input or a code point ends an attribute's name
abbrev pub ends_name : Option ℕ → Bool
ends_name None = true
ends_name (Some c) = is_blank c || c == 47 || c == 62

abbrev pub rank : State → Option ℕ → ℕ
rank AttributeName symbol = if ends_name symbol then 1 else 0
rank AfterAttributeName symbol = if ends_name symbol then 0 else 1
rank TagOpen symbol = 1
rank EndTagOpen symbol = 1
rank RcdataLessThanSign symbol = 1
rank RcdataEndTagOpen symbol = 2
rank RcdataEndTagName symbol = 1
rank RawtextLessThanSign symbol = 1
rank RawtextEndTagOpen symbol = 2
rank RawtextEndTagName symbol = 1
rank ScriptDataLessThanSign symbol = 1
rank ScriptDataEndTagOpen symbol = 2
rank ScriptDataEndTagName symbol = 1
rank ScriptDataEscapeStart symbol = 1
rank ScriptDataEscapeStartDash symbol = 1
rank ScriptDataEscapedLessThanSign symbol = 2
rank ScriptDataEscapedEndTagOpen symbol = 2
rank ScriptDataEscapedEndTagName symbol = 1
rank ScriptDataDoubleEscapeStart symbol = 1
rank ScriptDataDoubleEscapedLessThanSign symbol = 1
rank ScriptDataDoubleEscapeEnd symbol = 1
rank BeforeAttributeName symbol = 2
rank BeforeAttributeValue symbol = 1
rank AfterAttributeValueQuoted symbol = 3
rank SelfClosingStartTag symbol = 3
rank MarkupDeclarationOpen symbol = 1
rank CommentStart symbol = 1
rank CommentStartDash symbol = 1
rank CommentLessThanSign symbol = 1
rank CommentLessThanSignBang symbol = 1
rank CommentLessThanSignBangDash symbol = 2
rank CommentLessThanSignBangDashDash symbol = 2
rank CommentEndDash symbol = 1
rank CommentEnd symbol = 1
rank CommentEndBang symbol = 1
rank Doctype symbol = 1
rank AfterDoctypeName symbol = 1
rank AfterDoctypePublicKeyword symbol = 1
rank BeforeDoctypePublicIdentifier symbol = 1
rank AfterDoctypePublicIdentifier symbol = 1
rank BetweenDoctypePublicAndSystemIdentifiers symbol = 1
rank AfterDoctypeSystemKeyword symbol = 1
rank BeforeDoctypeSystemIdentifier symbol = 1
rank AfterDoctypeSystemIdentifier symbol = 1
rank CdataSectionBracket symbol = 1
rank CdataSectionEnd symbol = 1
rank CharacterReference symbol = 3
rank NamedCharacterReference symbol = 2
rank AmbiguousAmpersand symbol = 1
rank NumericCharacterReference symbol = 4
rank HexadecimalCharacterReferenceStart symbol = 3
rank DecimalCharacterReferenceStart symbol = 3
rank HexadecimalCharacterReference symbol = 2
rank DecimalCharacterReference symbol = 2
rank NumericCharacterReferenceEnd symbol = 1
rank _ symbol = 0

-- what a row would read
abbrev pub symbol_of : List ℕ → Option ℕ
symbol_of [] = None
symbol_of (c ∷ cs) = Some (read_as c)

-- what falls with each move
abbrev pub weight : Lexing → ℕ
weight l = 8 * length l.unread + rank l.machine.state (symbol_of l.unread)

-- a row on a symbol consumes it, ends the input, or goes to a state of a lower rank; and only a code point is consumed
abbrev pub Falls : State → Option ℕ → State → Reads → Type 0
Falls s (Some c) to Consume = Unit {0}
Falls s None to Consume = ⊥
Falls s symbol to Again = rank to symbol < rank s symbol
Falls s (Some c) to End = ⊥
Falls s None to End = Unit {0}

-- a token of one code point, or no run of code points
abbrev pub IsSingle : Token → Type 0
IsSingle (token.Characters class text) = (c : ℕ) × (text ≡ c ∷ []) × (class ≡ class_of c)
IsSingle t = Unit {0}

abbrev pub AreSingle : List Token → Type 0
AreSingle [] = Unit {0}
AreSingle (t ∷ ts) = IsSingle t × AreSingle ts

-- what each row of the table keeps
pub record IsFine (s : State) (symbol : Option ℕ) (r : Row) : Type 0 where
  pub falls : Falls s symbol r.to.state r.reads
  pub single : AreSingle r.emits
