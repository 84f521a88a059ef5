-- The rows of RCDATA, RAWTEXT, script data with its escaped states, and PLAINTEXT (13.2.5.2 to 13.2.5.5 and 13.2.5.9 to
-- 13.2.5.31). `None` is the end of input.
use Rattle.std.specs.Prelude.{ℕ, List, [], ◌∷◌, ◌==◌, ◌&&◌, ◌||◌, Bool, Option, None, Some, true, false, codes, if◌then◌else◌}
use Rattle.std.specs.Char.{is_ascii_alphabetic}
use Rattle.std.specs.Str.{bytes_eq}
use Rattle.hp_tokens.specs.declared.state.State.{State}
use Rattle.hp_tokens.specs.declared.state.State.TheVariants.{Data, Rcdata, Rawtext, ScriptData, Plaintext, RcdataLessThanSign, RcdataEndTagOpen, RcdataEndTagName, RawtextLessThanSign, RawtextEndTagOpen, RawtextEndTagName, ScriptDataLessThanSign, ScriptDataEndTagOpen, ScriptDataEndTagName, ScriptDataEscapeStart, ScriptDataEscapeStartDash, ScriptDataEscaped, ScriptDataEscapedDash, ScriptDataEscapedDashDash, ScriptDataEscapedLessThanSign, ScriptDataEscapedEndTagOpen, ScriptDataEscapedEndTagName, ScriptDataDoubleEscapeStart, ScriptDataDoubleEscaped, ScriptDataDoubleEscapedDash, ScriptDataDoubleEscapedDashDash, ScriptDataDoubleEscapedLessThanSign, ScriptDataDoubleEscapeEnd, BeforeAttributeName, SelfClosingStartTag, CharacterReference}
use Rattle.hp_tokens.specs.declared.state.Return.TheVariants as returns
use Rattle.hp_tokens.specs.declared.building.Building.{Building}
use Rattle.hp_tokens.specs.declared.building.Building.TheVariants.{EndTag}
use Rattle.hp_tokens.specs.declared.building.Part.TheVariants.{Name}
use Rattle.hp_tokens.specs.declared.machine.Machine.{Machine}
use Rattle.hp_tokens.specs.Rows.{Row, is_blank, replaced, go, again, stay, plus, ended, putting, lowered, new_end_tag, with_buffer, buffering, returning_to, emitting_built, emitting_buffer}
use Rattle.hp_lex_raw.specs.Letters.{exclamation, ampersand, hyphen, solidus, less_than, greater_than}

-- 13.2.5.2
abbrev pub rcdata : Machine → Option ℕ → Row
rcdata m None = ended m
rcdata m (Some c) =
    if c == ampersand then go CharacterReference (returning_to returns.Rcdata m)
    else if c == less_than then go RcdataLessThanSign m
    else plus (replaced c) (stay m)

-- 13.2.5.3 and 13.2.5.4
abbrev pub raw_text : State → Machine → Option ℕ → Row
raw_text behind_less_than m None = ended m
raw_text behind_less_than m (Some c) =
    if c == less_than then go behind_less_than m
    else plus (replaced c) (stay m)

-- 13.2.5.5
abbrev pub plaintext : Machine → Option ℕ → Row
plaintext m None = ended m
plaintext m (Some c) = plus (replaced c) (stay m)

-- 13.2.5.9 and 13.2.5.12
abbrev pub less_than_sign : State → State → Machine → Option ℕ → Row
less_than_sign behind_solidus text m None = plus less_than (again text m)
less_than_sign behind_solidus text m (Some c) =
    if c == solidus then go behind_solidus (with_buffer [] m)
    else plus less_than (again text m)

-- 13.2.5.15
abbrev pub script_less_than_sign : Machine → Option ℕ → Row
script_less_than_sign m None = plus less_than (again ScriptData m)
script_less_than_sign m (Some c) =
    if c == solidus then go ScriptDataEndTagOpen (with_buffer [] m)
    else if c == exclamation then plus less_than (plus exclamation (go ScriptDataEscapeStart m))
    else plus less_than (again ScriptData m)

-- 13.2.5.10, 13.2.5.13, 13.2.5.16 and 13.2.5.24
abbrev pub end_tag_open : State → State → Machine → Option ℕ → Row
end_tag_open name text m None = plus less_than (plus solidus (again text m))
end_tag_open name text m (Some c) =
    if is_ascii_alphabetic c then again name (new_end_tag m)
    else plus less_than (plus solidus (again text m))

-- what ends the name of a tag
abbrev pub ends_name : ℕ → Bool
ends_name c = is_blank c || c == solidus || c == greater_than

-- The appropriate end tag (13.2.5): its name is that of the last start tag. A name that the lexer was not told counts as
-- the empty one.
abbrev pub told : Option (List ℕ) → List ℕ
told None = []
told (Some name) = name

abbrev pub is_end_tag_named : List ℕ → Building → Bool
is_end_tag_named last (EndTag name) = bytes_eq name last
is_end_tag_named last _ = false

abbrev pub is_appropriate : Machine → Bool
is_appropriate m = is_end_tag_named (told m.last_tag) m.building

-- behind the name of the appropriate end tag
abbrev pub after_name : ℕ → Machine → Row
after_name c m =
    if is_blank c then go BeforeAttributeName m
    else if c == solidus then go SelfClosingStartTag m
    else emitting_built (go Data) m

-- it was no end tag: it is text
abbrev pub no_end_tag : State → Machine → Row
no_end_tag text m = plus less_than (plus solidus (emitting_buffer (again text) m))

-- 13.2.5.11, 13.2.5.14, 13.2.5.17 and 13.2.5.25
abbrev pub end_tag_name : State → Machine → Option ℕ → Row
end_tag_name text m None = no_end_tag text m
end_tag_name text m (Some c) =
    if is_ascii_alphabetic c then stay (buffering c (putting Name (lowered c) m))
    else if ends_name c && is_appropriate m then after_name c m
    else no_end_tag text m

-- 13.2.5.18 and 13.2.5.19
abbrev pub escape_start : State → Machine → Option ℕ → Row
escape_start dash m None = again ScriptData m
escape_start dash m (Some c) =
    if c == hyphen then plus hyphen (go dash m)
    else again ScriptData m

-- 13.2.5.20
abbrev pub escaped : Machine → Option ℕ → Row
escaped m None = ended m
escaped m (Some c) =
    if c == hyphen then plus hyphen (go ScriptDataEscapedDash m)
    else if c == less_than then go ScriptDataEscapedLessThanSign m
    else plus (replaced c) (stay m)

-- 13.2.5.21
abbrev pub escaped_dash : Machine → Option ℕ → Row
escaped_dash m None = ended m
escaped_dash m (Some c) =
    if c == hyphen then plus hyphen (go ScriptDataEscapedDashDash m)
    else if c == less_than then go ScriptDataEscapedLessThanSign m
    else plus (replaced c) (go ScriptDataEscaped m)

-- 13.2.5.22
abbrev pub escaped_dash_dash : Machine → Option ℕ → Row
escaped_dash_dash m None = ended m
escaped_dash_dash m (Some c) =
    if c == hyphen then plus hyphen (stay m)
    else if c == less_than then go ScriptDataEscapedLessThanSign m
    else if c == greater_than then plus greater_than (go ScriptData m)
    else plus (replaced c) (go ScriptDataEscaped m)

-- 13.2.5.23
abbrev pub escaped_less_than_sign : Machine → Option ℕ → Row
escaped_less_than_sign m None = plus less_than (again ScriptDataEscaped m)
escaped_less_than_sign m (Some c) =
    if c == solidus then go ScriptDataEscapedEndTagOpen (with_buffer [] m)
    else if is_ascii_alphabetic c then plus less_than (again ScriptDataDoubleEscapeStart (with_buffer [] m))
    else plus less_than (again ScriptDataEscaped m)

abbrev pub is_script : List ℕ → Bool
is_script text = bytes_eq text (codes "script")

-- 13.2.5.26 and 13.2.5.31; the state behind the name `script`, and behind any other
abbrev pub double_escape : State → State → Machine → Option ℕ → Row
double_escape script other m None = again other m
double_escape script other m (Some c) =
    if ends_name c then plus c (go (if is_script m.buffer then script else other) m)
    else if is_ascii_alphabetic c then plus c (stay (buffering (lowered c) m))
    else again other m

-- 13.2.5.27
abbrev pub double_escaped : Machine → Option ℕ → Row
double_escaped m None = ended m
double_escaped m (Some c) =
    if c == hyphen then plus hyphen (go ScriptDataDoubleEscapedDash m)
    else if c == less_than then plus less_than (go ScriptDataDoubleEscapedLessThanSign m)
    else plus (replaced c) (stay m)

-- 13.2.5.28
abbrev pub double_escaped_dash : Machine → Option ℕ → Row
double_escaped_dash m None = ended m
double_escaped_dash m (Some c) =
    if c == hyphen then plus hyphen (go ScriptDataDoubleEscapedDashDash m)
    else if c == less_than then plus less_than (go ScriptDataDoubleEscapedLessThanSign m)
    else plus (replaced c) (go ScriptDataDoubleEscaped m)

-- 13.2.5.29
abbrev pub double_escaped_dash_dash : Machine → Option ℕ → Row
double_escaped_dash_dash m None = ended m
double_escaped_dash_dash m (Some c) =
    if c == hyphen then plus hyphen (stay m)
    else if c == less_than then plus less_than (go ScriptDataDoubleEscapedLessThanSign m)
    else if c == greater_than then plus greater_than (go ScriptData m)
    else plus (replaced c) (go ScriptDataDoubleEscaped m)

-- 13.2.5.30
abbrev pub double_escaped_less_than_sign : Machine → Option ℕ → Row
double_escaped_less_than_sign m None = again ScriptDataDoubleEscaped m
double_escaped_less_than_sign m (Some c) =
    if c == solidus then plus solidus (go ScriptDataDoubleEscapeEnd (with_buffer [] m))
    else again ScriptDataDoubleEscaped m

-- the states with a row here
abbrev pub has_row : State → Bool
has_row Rcdata = true
has_row Rawtext = true
has_row ScriptData = true
has_row Plaintext = true
has_row RcdataLessThanSign = true
has_row RcdataEndTagOpen = true
has_row RcdataEndTagName = true
has_row RawtextLessThanSign = true
has_row RawtextEndTagOpen = true
has_row RawtextEndTagName = true
has_row ScriptDataLessThanSign = true
has_row ScriptDataEndTagOpen = true
has_row ScriptDataEndTagName = true
has_row ScriptDataEscapeStart = true
has_row ScriptDataEscapeStartDash = true
has_row ScriptDataEscaped = true
has_row ScriptDataEscapedDash = true
has_row ScriptDataEscapedDashDash = true
has_row ScriptDataEscapedLessThanSign = true
has_row ScriptDataEscapedEndTagOpen = true
has_row ScriptDataEscapedEndTagName = true
has_row ScriptDataDoubleEscapeStart = true
has_row ScriptDataDoubleEscaped = true
has_row ScriptDataDoubleEscapedDash = true
has_row ScriptDataDoubleEscapedDashDash = true
has_row ScriptDataDoubleEscapedLessThanSign = true
has_row ScriptDataDoubleEscapeEnd = true
has_row _ = false

-- the row of a state
abbrev pub row_of : State → Machine → Option ℕ → Row
row_of Rcdata = rcdata
row_of Rawtext = raw_text RawtextLessThanSign
row_of ScriptData = raw_text ScriptDataLessThanSign
row_of Plaintext = plaintext
row_of RcdataLessThanSign = less_than_sign RcdataEndTagOpen Rcdata
row_of RcdataEndTagOpen = end_tag_open RcdataEndTagName Rcdata
row_of RcdataEndTagName = end_tag_name Rcdata
row_of RawtextLessThanSign = less_than_sign RawtextEndTagOpen Rawtext
row_of RawtextEndTagOpen = end_tag_open RawtextEndTagName Rawtext
row_of RawtextEndTagName = end_tag_name Rawtext
row_of ScriptDataLessThanSign = script_less_than_sign
row_of ScriptDataEndTagOpen = end_tag_open ScriptDataEndTagName ScriptData
row_of ScriptDataEndTagName = end_tag_name ScriptData
row_of ScriptDataEscapeStart = escape_start ScriptDataEscapeStartDash
row_of ScriptDataEscapeStartDash = escape_start ScriptDataEscapedDashDash
row_of ScriptDataEscaped = escaped
row_of ScriptDataEscapedDash = escaped_dash
row_of ScriptDataEscapedDashDash = escaped_dash_dash
row_of ScriptDataEscapedLessThanSign = escaped_less_than_sign
row_of ScriptDataEscapedEndTagOpen = end_tag_open ScriptDataEscapedEndTagName ScriptDataEscaped
row_of ScriptDataEscapedEndTagName = end_tag_name ScriptDataEscaped
row_of ScriptDataDoubleEscapeStart = double_escape ScriptDataDoubleEscaped ScriptDataEscaped
row_of ScriptDataDoubleEscaped = double_escaped
row_of ScriptDataDoubleEscapedDash = double_escaped_dash
row_of ScriptDataDoubleEscapedDashDash = double_escaped_dash_dash
row_of ScriptDataDoubleEscapedLessThanSign = double_escaped_less_than_sign
row_of ScriptDataDoubleEscapeEnd = double_escape ScriptDataEscaped ScriptDataDoubleEscaped
row_of _ = λ m symbol. ended m

abbrev pub row : Machine → Option ℕ → Row
row m symbol = row_of m.state m symbol
