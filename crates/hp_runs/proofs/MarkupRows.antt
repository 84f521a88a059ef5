-- The start tags that the rows of markup emit are HTML's.
use Rattle.std.proofs.Common.{ℕ, Bool, true, false, ◌&&◌, not, Option, None, Some, refl}
use Rattle.std.specs.Prelude.{IsTrue}
use Rattle.hp_tokens.specs.declared.state.State.{State}
use Rattle.hp_tokens.specs.declared.state.State.TheVariants.{BogusComment, MarkupDeclarationOpen, CommentStart, CommentStartDash, Comment, CommentLessThanSign, CommentLessThanSignBang, CommentLessThanSignBangDash, CommentLessThanSignBangDashDash, CommentEndDash, CommentEnd, CommentEndBang, Doctype, BeforeDoctypeName, DoctypeName, AfterDoctypeName, AfterDoctypePublicKeyword, BeforeDoctypePublicIdentifier, DoctypePublicIdentifierDoubleQuoted, DoctypePublicIdentifierSingleQuoted, AfterDoctypePublicIdentifier, BetweenDoctypePublicAndSystemIdentifiers, AfterDoctypeSystemKeyword, BeforeDoctypeSystemIdentifier, DoctypeSystemIdentifierDoubleQuoted, DoctypeSystemIdentifierSingleQuoted, AfterDoctypeSystemIdentifier, BogusDoctype, CdataSection, CdataSectionBracket, CdataSectionEnd}
use Rattle.hp_tokens.specs.declared.machine.Machine.{Machine}
use Rattle.hp_lex_markup.specs.Rows.{row, row_of, is_here, reads_word, has_row}
use Rattle.hp_runs.proofs.ReadRows.{html, IsHtml}

each_html : (s : State) (m : Machine) (symbol : Option ℕ) → IsTrue (is_here s) → IsHtml (row_of s m symbol)
each_html BogusComment m None h = search html depth 9
each_html BogusComment m (Some c) h = search html depth 9
each_html MarkupDeclarationOpen m None h = search html depth 9
each_html MarkupDeclarationOpen m (Some c) h = search html depth 9
each_html CommentStart m None h = search html depth 9
each_html CommentStart m (Some c) h = search html depth 9
each_html CommentStartDash m None h = search html depth 9
each_html CommentStartDash m (Some c) h = search html depth 9
each_html Comment m None h = search html depth 9
each_html Comment m (Some c) h = search html depth 9
each_html CommentLessThanSign m None h = search html depth 9
each_html CommentLessThanSign m (Some c) h = search html depth 9
each_html CommentLessThanSignBang m None h = search html depth 9
each_html CommentLessThanSignBang m (Some c) h = search html depth 9
each_html CommentLessThanSignBangDash m None h = search html depth 9
each_html CommentLessThanSignBangDash m (Some c) h = search html depth 9
each_html CommentLessThanSignBangDashDash m None h = search html depth 9
each_html CommentLessThanSignBangDashDash m (Some c) h = search html depth 9
each_html CommentEndDash m None h = search html depth 9
each_html CommentEndDash m (Some c) h = search html depth 9
each_html CommentEnd m None h = search html depth 9
each_html CommentEnd m (Some c) h = search html depth 9
each_html CommentEndBang m None h = search html depth 9
each_html CommentEndBang m (Some c) h = search html depth 9
each_html Doctype m None h = search html depth 9
each_html Doctype m (Some c) h = search html depth 9
each_html BeforeDoctypeName m None h = search html depth 9
each_html BeforeDoctypeName m (Some c) h = search html depth 9
each_html DoctypeName m None h = search html depth 9
each_html DoctypeName m (Some c) h = search html depth 9
each_html AfterDoctypeName m None h = search html depth 9
each_html AfterDoctypeName m (Some c) h = search html depth 9
each_html AfterDoctypePublicKeyword m None h = search html depth 9
each_html AfterDoctypePublicKeyword m (Some c) h = search html depth 9
each_html BeforeDoctypePublicIdentifier m None h = search html depth 9
each_html BeforeDoctypePublicIdentifier m (Some c) h = search html depth 9
each_html DoctypePublicIdentifierDoubleQuoted m None h = search html depth 9
each_html DoctypePublicIdentifierDoubleQuoted m (Some c) h = search html depth 9
each_html DoctypePublicIdentifierSingleQuoted m None h = search html depth 9
each_html DoctypePublicIdentifierSingleQuoted m (Some c) h = search html depth 9
each_html AfterDoctypePublicIdentifier m None h = search html depth 9
each_html AfterDoctypePublicIdentifier m (Some c) h = search html depth 9
each_html BetweenDoctypePublicAndSystemIdentifiers m None h = search html depth 9
each_html BetweenDoctypePublicAndSystemIdentifiers m (Some c) h = search html depth 9
each_html AfterDoctypeSystemKeyword m None h = search html depth 9
each_html AfterDoctypeSystemKeyword m (Some c) h = search html depth 9
each_html BeforeDoctypeSystemIdentifier m None h = search html depth 9
each_html BeforeDoctypeSystemIdentifier m (Some c) h = search html depth 9
each_html DoctypeSystemIdentifierDoubleQuoted m None h = search html depth 9
each_html DoctypeSystemIdentifierDoubleQuoted m (Some c) h = search html depth 9
each_html DoctypeSystemIdentifierSingleQuoted m None h = search html depth 9
each_html DoctypeSystemIdentifierSingleQuoted m (Some c) h = search html depth 9
each_html AfterDoctypeSystemIdentifier m None h = search html depth 9
each_html AfterDoctypeSystemIdentifier m (Some c) h = search html depth 9
each_html BogusDoctype m None h = search html depth 9
each_html BogusDoctype m (Some c) h = search html depth 9
each_html CdataSection m None h = search html depth 9
each_html CdataSection m (Some c) h = search html depth 9
each_html CdataSectionBracket m None h = search html depth 9
each_html CdataSectionBracket m (Some c) h = search html depth 9
each_html CdataSectionEnd m None h = search html depth 9
each_html CdataSectionEnd m (Some c) h = search html depth 9
each_html _ m symbol h = cc

-- of each state of this part; of those that read by their row alone
pub here_html : (m : Machine) (symbol : Option ℕ) → IsTrue (is_here m.state) → IsHtml (row m symbol)
here_html m symbol h = each_html m.state m symbol h

is_first : (a b : Bool) → IsTrue (a && b) → IsTrue a
is_first true b h = refl
is_first false b h = h

pub row_html : (m : Machine) (symbol : Option ℕ) → IsTrue (has_row m.state) → IsHtml (row m symbol)
row_html m symbol h = here_html m symbol (is_first (is_here m.state) (not (reads_word m.state)) h)
