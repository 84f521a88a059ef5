-- The rows of markup emit at most one token that is not characters, on a code point that they consume.
use Rattle.std.proofs.Common.{ℕ, Bool, true, false, ◌&&◌, not, Option, None, Some, refl}
use Rattle.std.specs.Prelude.{IsTrue}
use Rattle.hp_tokens.specs.declared.state.State.{State}
use Rattle.hp_tokens.specs.declared.state.State.TheVariants.{BogusComment, MarkupDeclarationOpen, CommentStart, CommentStartDash, Comment, CommentLessThanSign, CommentLessThanSignBang, CommentLessThanSignBangDash, CommentLessThanSignBangDashDash, CommentEndDash, CommentEnd, CommentEndBang, Doctype, BeforeDoctypeName, DoctypeName, AfterDoctypeName, AfterDoctypePublicKeyword, BeforeDoctypePublicIdentifier, DoctypePublicIdentifierDoubleQuoted, DoctypePublicIdentifierSingleQuoted, AfterDoctypePublicIdentifier, BetweenDoctypePublicAndSystemIdentifiers, AfterDoctypeSystemKeyword, BeforeDoctypeSystemIdentifier, DoctypeSystemIdentifierDoubleQuoted, DoctypeSystemIdentifierSingleQuoted, AfterDoctypeSystemIdentifier, BogusDoctype, CdataSection, CdataSectionBracket, CdataSectionEnd}
use Rattle.hp_tokens.specs.declared.machine.Machine.{Machine}
use Rattle.hp_lex_markup.specs.Rows.{row, row_of, is_here, reads_word, has_row}
use Rattle.hp_runs.proofs.SparseRows.{sparse, IsSparse}

each_sparse : (s : State) (m : Machine) (symbol : Option ℕ) → IsTrue (is_here s) → IsSparse (row_of s m symbol)
each_sparse BogusComment m None h = search sparse depth 9
each_sparse BogusComment m (Some c) h = search sparse depth 9
each_sparse MarkupDeclarationOpen m None h = search sparse depth 9
each_sparse MarkupDeclarationOpen m (Some c) h = search sparse depth 9
each_sparse CommentStart m None h = search sparse depth 9
each_sparse CommentStart m (Some c) h = search sparse depth 9
each_sparse CommentStartDash m None h = search sparse depth 9
each_sparse CommentStartDash m (Some c) h = search sparse depth 9
each_sparse Comment m None h = search sparse depth 9
each_sparse Comment m (Some c) h = search sparse depth 9
each_sparse CommentLessThanSign m None h = search sparse depth 9
each_sparse CommentLessThanSign m (Some c) h = search sparse depth 9
each_sparse CommentLessThanSignBang m None h = search sparse depth 9
each_sparse CommentLessThanSignBang m (Some c) h = search sparse depth 9
each_sparse CommentLessThanSignBangDash m None h = search sparse depth 9
each_sparse CommentLessThanSignBangDash m (Some c) h = search sparse depth 9
each_sparse CommentLessThanSignBangDashDash m None h = search sparse depth 9
each_sparse CommentLessThanSignBangDashDash m (Some c) h = search sparse depth 9
each_sparse CommentEndDash m None h = search sparse depth 9
each_sparse CommentEndDash m (Some c) h = search sparse depth 9
each_sparse CommentEnd m None h = search sparse depth 9
each_sparse CommentEnd m (Some c) h = search sparse depth 9
each_sparse CommentEndBang m None h = search sparse depth 9
each_sparse CommentEndBang m (Some c) h = search sparse depth 9
each_sparse Doctype m None h = search sparse depth 9
each_sparse Doctype m (Some c) h = search sparse depth 9
each_sparse BeforeDoctypeName m None h = search sparse depth 9
each_sparse BeforeDoctypeName m (Some c) h = search sparse depth 9
each_sparse DoctypeName m None h = search sparse depth 9
each_sparse DoctypeName m (Some c) h = search sparse depth 9
each_sparse AfterDoctypeName m None h = search sparse depth 9
each_sparse AfterDoctypeName m (Some c) h = search sparse depth 9
each_sparse AfterDoctypePublicKeyword m None h = search sparse depth 9
each_sparse AfterDoctypePublicKeyword m (Some c) h = search sparse depth 9
each_sparse BeforeDoctypePublicIdentifier m None h = search sparse depth 9
each_sparse BeforeDoctypePublicIdentifier m (Some c) h = search sparse depth 9
each_sparse DoctypePublicIdentifierDoubleQuoted m None h = search sparse depth 9
each_sparse DoctypePublicIdentifierDoubleQuoted m (Some c) h = search sparse depth 9
each_sparse DoctypePublicIdentifierSingleQuoted m None h = search sparse depth 9
each_sparse DoctypePublicIdentifierSingleQuoted m (Some c) h = search sparse depth 9
each_sparse AfterDoctypePublicIdentifier m None h = search sparse depth 9
each_sparse AfterDoctypePublicIdentifier m (Some c) h = search sparse depth 9
each_sparse BetweenDoctypePublicAndSystemIdentifiers m None h = search sparse depth 9
each_sparse BetweenDoctypePublicAndSystemIdentifiers m (Some c) h = search sparse depth 9
each_sparse AfterDoctypeSystemKeyword m None h = search sparse depth 9
each_sparse AfterDoctypeSystemKeyword m (Some c) h = search sparse depth 9
each_sparse BeforeDoctypeSystemIdentifier m None h = search sparse depth 9
each_sparse BeforeDoctypeSystemIdentifier m (Some c) h = search sparse depth 9
each_sparse DoctypeSystemIdentifierDoubleQuoted m None h = search sparse depth 9
each_sparse DoctypeSystemIdentifierDoubleQuoted m (Some c) h = search sparse depth 9
each_sparse DoctypeSystemIdentifierSingleQuoted m None h = search sparse depth 9
each_sparse DoctypeSystemIdentifierSingleQuoted m (Some c) h = search sparse depth 9
each_sparse AfterDoctypeSystemIdentifier m None h = search sparse depth 9
each_sparse AfterDoctypeSystemIdentifier m (Some c) h = search sparse depth 9
each_sparse BogusDoctype m None h = search sparse depth 9
each_sparse BogusDoctype m (Some c) h = search sparse depth 9
each_sparse CdataSection m None h = search sparse depth 9
each_sparse CdataSection m (Some c) h = search sparse depth 9
each_sparse CdataSectionBracket m None h = search sparse depth 9
each_sparse CdataSectionBracket m (Some c) h = search sparse depth 9
each_sparse CdataSectionEnd m None h = search sparse depth 9
each_sparse CdataSectionEnd m (Some c) h = search sparse depth 9
each_sparse _ m symbol h = cc

-- of each state of this part; of those that read by their row alone
pub here_sparse : (m : Machine) (symbol : Option ℕ) → IsTrue (is_here m.state) → IsSparse (row m symbol)
here_sparse m symbol h = each_sparse m.state m symbol h

is_first : (a b : Bool) → IsTrue (a && b) → IsTrue a
is_first true b h = refl
is_first false b h = h

pub row_sparse : (m : Machine) (symbol : Option ℕ) → IsTrue (has_row m.state) → IsSparse (row m symbol)
row_sparse m symbol h = here_sparse m symbol (is_first (is_here m.state) (not (reads_word m.state)) h)
