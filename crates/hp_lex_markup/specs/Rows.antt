-- The rows of markup declarations, comments, doctypes and CDATA sections (13.2.5.41 to 13.2.5.71), but for the words that are
-- read behind `<!` and behind a doctype's name. `None` is the end of input.
use Rattle.std.specs.Prelude.{ℕ, List, [], ◌==◌, ◌&&◌, not, Bool, Option, None, Some, true, false, if◌then◌else◌}
use Rattle.hp_tokens.specs.declared.state.State.{State}
use Rattle.hp_tokens.specs.declared.state.State.TheVariants.{Data, BogusComment, MarkupDeclarationOpen, CommentStart, CommentStartDash, Comment, CommentLessThanSign, CommentLessThanSignBang, CommentLessThanSignBangDash, CommentLessThanSignBangDashDash, CommentEndDash, CommentEnd, CommentEndBang, Doctype, BeforeDoctypeName, DoctypeName, AfterDoctypeName, AfterDoctypePublicKeyword, BeforeDoctypePublicIdentifier, DoctypePublicIdentifierDoubleQuoted, DoctypePublicIdentifierSingleQuoted, AfterDoctypePublicIdentifier, BetweenDoctypePublicAndSystemIdentifiers, AfterDoctypeSystemKeyword, BeforeDoctypeSystemIdentifier, DoctypeSystemIdentifierDoubleQuoted, DoctypeSystemIdentifierSingleQuoted, AfterDoctypeSystemIdentifier, BogusDoctype, CdataSection, CdataSectionBracket, CdataSectionEnd}
use Rattle.hp_tokens.specs.declared.building.Part.{Part}
use Rattle.hp_tokens.specs.declared.building.Part.TheVariants as parts
use Rattle.hp_tokens.specs.declared.machine.Machine.{Machine}
use Rattle.hp_tokens.specs.Rows.{Row, is_blank, replaced, go, again, stay, plus, ended, putting, putting_text, lowered, new_comment, new_doctype, quirky, emitting_built}
use Rattle.hp_lex_markup.specs.Letters.{exclamation, quotation_mark, apostrophe, hyphen, less_than, greater_than, right_bracket, two_hyphens, hyphens_and_exclamation}

-- what was built is emitted, and then the lexer goes to the data state, or the input ends
abbrev pub finished : Machine → Row
finished m = emitting_built (go Data) m

abbrev pub finished_at_end : Machine → Row
finished_at_end m = emitting_built ended m

-- 13.2.5.41
abbrev pub bogus_comment : Machine → Option ℕ → Row
bogus_comment m None = finished_at_end m
bogus_comment m (Some c) =
    if c == greater_than then finished m
    else stay (putting parts.Comment (replaced c) m)

-- 13.2.5.42, where no word is read
abbrev pub markup_declaration : Machine → Option ℕ → Row
markup_declaration m symbol = again BogusComment (new_comment m)

-- 13.2.5.43
abbrev pub comment_start : Machine → Option ℕ → Row
comment_start m None = again Comment m
comment_start m (Some c) =
    if c == hyphen then go CommentStartDash m
    else if c == greater_than then finished m
    else again Comment m

-- 13.2.5.44
abbrev pub comment_start_dash : Machine → Option ℕ → Row
comment_start_dash m None = finished_at_end m
comment_start_dash m (Some c) =
    if c == hyphen then go CommentEnd m
    else if c == greater_than then finished m
    else again Comment (putting parts.Comment hyphen m)

-- 13.2.5.45
abbrev pub comment : Machine → Option ℕ → Row
comment m None = finished_at_end m
comment m (Some c) =
    if c == less_than then go CommentLessThanSign (putting parts.Comment less_than m)
    else if c == hyphen then go CommentEndDash m
    else stay (putting parts.Comment (replaced c) m)

-- 13.2.5.46
abbrev pub comment_less_than_sign : Machine → Option ℕ → Row
comment_less_than_sign m None = again Comment m
comment_less_than_sign m (Some c) =
    if c == exclamation then go CommentLessThanSignBang (putting parts.Comment exclamation m)
    else if c == less_than then stay (putting parts.Comment less_than m)
    else again Comment m

-- 13.2.5.47 and 13.2.5.48: a hyphen leads further, anything else is read again in another state
abbrev pub comment_bang : State → State → Machine → Option ℕ → Row
comment_bang further otherwise m None = again otherwise m
comment_bang further otherwise m (Some c) =
    if c == hyphen then go further m
    else again otherwise m

-- 13.2.5.49; it reads no code point
abbrev pub comment_bang_dash_dash : Machine → Option ℕ → Row
comment_bang_dash_dash m symbol = again CommentEnd m

-- 13.2.5.50
abbrev pub comment_end_dash : Machine → Option ℕ → Row
comment_end_dash m None = finished_at_end m
comment_end_dash m (Some c) =
    if c == hyphen then go CommentEnd m
    else again Comment (putting parts.Comment hyphen m)

-- 13.2.5.51
abbrev pub comment_end : Machine → Option ℕ → Row
comment_end m None = finished_at_end m
comment_end m (Some c) =
    if c == greater_than then finished m
    else if c == exclamation then go CommentEndBang m
    else if c == hyphen then stay (putting parts.Comment hyphen m)
    else again Comment (putting_text parts.Comment two_hyphens m)

-- 13.2.5.52
abbrev pub comment_end_bang : Machine → Option ℕ → Row
comment_end_bang m None = finished_at_end m
comment_end_bang m (Some c) =
    if c == hyphen then go CommentEndDash (putting_text parts.Comment hyphens_and_exclamation m)
    else if c == greater_than then finished m
    else again Comment (putting_text parts.Comment hyphens_and_exclamation m)

-- 13.2.5.53
abbrev pub doctype : Machine → Option ℕ → Row
doctype m None = finished_at_end (quirky (new_doctype m))
doctype m (Some c) =
    if is_blank c then go BeforeDoctypeName m
    else again BeforeDoctypeName m

-- 13.2.5.54
abbrev pub before_doctype_name : Machine → Option ℕ → Row
before_doctype_name m None = finished_at_end (quirky (new_doctype m))
before_doctype_name m (Some c) =
    if is_blank c then stay m
    else if c == greater_than then finished (quirky (new_doctype m))
    else go DoctypeName (putting parts.DoctypeName (replaced (lowered c)) (new_doctype m))

-- the input ends within a doctype; a doctype goes on with what has no meaning there
abbrev pub unfinished : Machine → Row
unfinished m = finished_at_end (quirky m)

abbrev pub spoiled : Machine → Row
spoiled m = again BogusDoctype (quirky m)

-- 13.2.5.55
abbrev pub doctype_name : Machine → Option ℕ → Row
doctype_name m None = unfinished m
doctype_name m (Some c) =
    if is_blank c then go AfterDoctypeName m
    else if c == greater_than then finished m
    else stay (putting parts.DoctypeName (replaced (lowered c)) m)

-- 13.2.5.56, where no word is read
abbrev pub after_doctype_name : Machine → Option ℕ → Row
after_doctype_name m None = unfinished m
after_doctype_name m (Some c) =
    if is_blank c then stay m
    else if c == greater_than then finished m
    else spoiled m

-- the states of an identifier in quotation marks
abbrev pub double_quoted : Part → State
double_quoted parts.System = DoctypeSystemIdentifierDoubleQuoted
double_quoted _ = DoctypePublicIdentifierDoubleQuoted

abbrev pub single_quoted : Part → State
single_quoted parts.System = DoctypeSystemIdentifierSingleQuoted
single_quoted _ = DoctypePublicIdentifierSingleQuoted

-- a quotation mark opens an identifier, which is empty then
abbrev pub opened : Part → Machine → ℕ → Row
opened part m c =
    if c == quotation_mark then go (double_quoted part) (putting_text part [] m)
    else if c == apostrophe then go (single_quoted part) (putting_text part [] m)
    else spoiled m

-- 13.2.5.57 and 13.2.5.63: behind a keyword
abbrev pub after_keyword : State → Part → Machine → Option ℕ → Row
after_keyword before part m None = unfinished m
after_keyword before part m (Some c) =
    if is_blank c then go before m
    else if c == greater_than then finished (quirky m)
    else opened part m c

-- 13.2.5.58 and 13.2.5.64
abbrev pub before_identifier : Part → Machine → Option ℕ → Row
before_identifier part m None = unfinished m
before_identifier part m (Some c) =
    if is_blank c then stay m
    else if c == greater_than then finished (quirky m)
    else opened part m c

-- 13.2.5.59, 13.2.5.60, 13.2.5.65 and 13.2.5.66
abbrev pub quoted_identifier : ℕ → Part → State → Machine → Option ℕ → Row
quoted_identifier mark part after m None = unfinished m
quoted_identifier mark part after m (Some c) =
    if c == mark then go after m
    else if c == greater_than then finished (quirky m)
    else stay (putting part (replaced c) m)

-- 13.2.5.61
abbrev pub after_public_identifier : Machine → Option ℕ → Row
after_public_identifier m None = unfinished m
after_public_identifier m (Some c) =
    if is_blank c then go BetweenDoctypePublicAndSystemIdentifiers m
    else if c == greater_than then finished m
    else opened parts.System m c

-- 13.2.5.62
abbrev pub between_identifiers : Machine → Option ℕ → Row
between_identifiers m None = unfinished m
between_identifiers m (Some c) =
    if is_blank c then stay m
    else if c == greater_than then finished m
    else opened parts.System m c

-- 13.2.5.67; what follows does not force quirks
abbrev pub after_system_identifier : Machine → Option ℕ → Row
after_system_identifier m None = unfinished m
after_system_identifier m (Some c) =
    if is_blank c then stay m
    else if c == greater_than then finished m
    else again BogusDoctype m

-- 13.2.5.68
abbrev pub bogus_doctype : Machine → Option ℕ → Row
bogus_doctype m None = finished_at_end m
bogus_doctype m (Some c) =
    if c == greater_than then finished m
    else stay m

-- 13.2.5.69
abbrev pub cdata_section : Machine → Option ℕ → Row
cdata_section m None = ended m
cdata_section m (Some c) =
    if c == right_bracket then go CdataSectionBracket m
    else plus c (stay m)

-- 13.2.5.70
abbrev pub cdata_section_bracket : Machine → Option ℕ → Row
cdata_section_bracket m None = plus right_bracket (again CdataSection m)
cdata_section_bracket m (Some c) =
    if c == right_bracket then go CdataSectionEnd m
    else plus right_bracket (again CdataSection m)

-- 13.2.5.71
abbrev pub cdata_section_end : Machine → Option ℕ → Row
cdata_section_end m None = plus right_bracket (plus right_bracket (again CdataSection m))
cdata_section_end m (Some c) =
    if c == right_bracket then plus right_bracket (stay m)
    else if c == greater_than then go Data m
    else plus right_bracket (plus right_bracket (again CdataSection m))

-- the states within a doctype's identifier, those of a doctype, and those of this part of the lexer
abbrev pub in_identifier : State → Bool
in_identifier DoctypePublicIdentifierDoubleQuoted = true
in_identifier DoctypePublicIdentifierSingleQuoted = true
in_identifier DoctypeSystemIdentifierDoubleQuoted = true
in_identifier DoctypeSystemIdentifierSingleQuoted = true
in_identifier _ = false

abbrev pub in_doctype : State → Bool
in_doctype Doctype = true
in_doctype BeforeDoctypeName = true
in_doctype DoctypeName = true
in_doctype AfterDoctypeName = true
in_doctype AfterDoctypePublicKeyword = true
in_doctype BeforeDoctypePublicIdentifier = true
in_doctype AfterDoctypePublicIdentifier = true
in_doctype BetweenDoctypePublicAndSystemIdentifiers = true
in_doctype AfterDoctypeSystemKeyword = true
in_doctype BeforeDoctypeSystemIdentifier = true
in_doctype AfterDoctypeSystemIdentifier = true
in_doctype BogusDoctype = true
in_doctype s = in_identifier s

abbrev pub is_here : State → Bool
is_here BogusComment = true
is_here MarkupDeclarationOpen = true
is_here CommentStart = true
is_here CommentStartDash = true
is_here Comment = true
is_here CommentLessThanSign = true
is_here CommentLessThanSignBang = true
is_here CommentLessThanSignBangDash = true
is_here CommentLessThanSignBangDashDash = true
is_here CommentEndDash = true
is_here CommentEnd = true
is_here CommentEndBang = true
is_here CdataSection = true
is_here CdataSectionBracket = true
is_here CdataSectionEnd = true
is_here s = in_doctype s

-- the states in which a word may be read, and those that read by their row alone
abbrev pub reads_word : State → Bool
reads_word MarkupDeclarationOpen = true
reads_word AfterDoctypeName = true
reads_word _ = false

abbrev pub has_row : State → Bool
has_row s = is_here s && not (reads_word s)

-- the row of a state
abbrev pub row_of : State → Machine → Option ℕ → Row
row_of BogusComment = bogus_comment
row_of MarkupDeclarationOpen = markup_declaration
row_of CommentStart = comment_start
row_of CommentStartDash = comment_start_dash
row_of Comment = comment
row_of CommentLessThanSign = comment_less_than_sign
row_of CommentLessThanSignBang = comment_bang CommentLessThanSignBangDash Comment
row_of CommentLessThanSignBangDash = comment_bang CommentLessThanSignBangDashDash CommentEndDash
row_of CommentLessThanSignBangDashDash = comment_bang_dash_dash
row_of CommentEndDash = comment_end_dash
row_of CommentEnd = comment_end
row_of CommentEndBang = comment_end_bang
row_of Doctype = doctype
row_of BeforeDoctypeName = before_doctype_name
row_of DoctypeName = doctype_name
row_of AfterDoctypeName = after_doctype_name
row_of AfterDoctypePublicKeyword = after_keyword BeforeDoctypePublicIdentifier parts.Public
row_of BeforeDoctypePublicIdentifier = before_identifier parts.Public
row_of DoctypePublicIdentifierDoubleQuoted = quoted_identifier quotation_mark parts.Public AfterDoctypePublicIdentifier
row_of DoctypePublicIdentifierSingleQuoted = quoted_identifier apostrophe parts.Public AfterDoctypePublicIdentifier
row_of AfterDoctypePublicIdentifier = after_public_identifier
row_of BetweenDoctypePublicAndSystemIdentifiers = between_identifiers
row_of AfterDoctypeSystemKeyword = after_keyword BeforeDoctypeSystemIdentifier parts.System
row_of BeforeDoctypeSystemIdentifier = before_identifier parts.System
row_of DoctypeSystemIdentifierDoubleQuoted = quoted_identifier quotation_mark parts.System AfterDoctypeSystemIdentifier
row_of DoctypeSystemIdentifierSingleQuoted = quoted_identifier apostrophe parts.System AfterDoctypeSystemIdentifier
row_of AfterDoctypeSystemIdentifier = after_system_identifier
row_of BogusDoctype = bogus_doctype
row_of CdataSection = cdata_section
row_of CdataSectionBracket = cdata_section_bracket
row_of CdataSectionEnd = cdata_section_end
row_of _ = λ m symbol. ended m

abbrev pub row : Machine → Option ℕ → Row
row m symbol = row_of m.state m symbol
