-- Each row of this part reads a code point for good or goes to a state of a lower rank, and emits code points one by one.
use Rattle.std.proofs.Common.{ℕ, Bool, true, false, ◌&&◌, not, Option, None, Some, refl, arith}
use Rattle.std.specs.Prelude.{IsTrue}
use Rattle.hp_tokens.specs.declared.state.State.{State}
use Rattle.hp_tokens.specs.declared.state.State.TheVariants.{BogusComment, MarkupDeclarationOpen, CommentStart, CommentStartDash, Comment, CommentLessThanSign, CommentLessThanSignBang, CommentLessThanSignBangDash, CommentLessThanSignBangDashDash, CommentEndDash, CommentEnd, CommentEndBang, Doctype, BeforeDoctypeName, DoctypeName, AfterDoctypeName, AfterDoctypePublicKeyword, BeforeDoctypePublicIdentifier, DoctypePublicIdentifierDoubleQuoted, DoctypePublicIdentifierSingleQuoted, AfterDoctypePublicIdentifier, BetweenDoctypePublicAndSystemIdentifiers, AfterDoctypeSystemKeyword, BeforeDoctypeSystemIdentifier, DoctypeSystemIdentifierDoubleQuoted, DoctypeSystemIdentifierSingleQuoted, AfterDoctypeSystemIdentifier, BogusDoctype, CdataSection, CdataSectionBracket, CdataSectionEnd}
use Rattle.hp_tokens.specs.declared.machine.Machine.{Machine}
use Rattle.hp_tokens.specs.Ranks.{IsFine}
use Rattle.hp_tokens.proofs.FineRows.{fine}
use Rattle.hp_lex_markup.specs.Rows.{row, row_of, is_here, reads_word, has_row}

never : {A : Type 0} → IsTrue false → A
never h = cc

each_fine : (s : State) (m : Machine) (symbol : Option ℕ) → IsTrue (is_here s) → IsFine s symbol (row_of s m symbol)
each_fine BogusComment m None h = search fine
each_fine BogusComment m (Some c) h = search fine
each_fine MarkupDeclarationOpen m None h = search fine
each_fine MarkupDeclarationOpen m (Some c) h = search fine
each_fine CommentStart m None h = search fine
each_fine CommentStart m (Some c) h = search fine
each_fine CommentStartDash m None h = search fine
each_fine CommentStartDash m (Some c) h = search fine
each_fine Comment m None h = search fine
each_fine Comment m (Some c) h = search fine
each_fine CommentLessThanSign m None h = search fine
each_fine CommentLessThanSign m (Some c) h = search fine
each_fine CommentLessThanSignBang m None h = search fine
each_fine CommentLessThanSignBang m (Some c) h = search fine
each_fine CommentLessThanSignBangDash m None h = search fine
each_fine CommentLessThanSignBangDash m (Some c) h = search fine
each_fine CommentLessThanSignBangDashDash m None h = search fine
each_fine CommentLessThanSignBangDashDash m (Some c) h = search fine
each_fine CommentEndDash m None h = search fine
each_fine CommentEndDash m (Some c) h = search fine
each_fine CommentEnd m None h = search fine
each_fine CommentEnd m (Some c) h = search fine
each_fine CommentEndBang m None h = search fine
each_fine CommentEndBang m (Some c) h = search fine
each_fine Doctype m None h = search fine
each_fine Doctype m (Some c) h = search fine
each_fine BeforeDoctypeName m None h = search fine
each_fine BeforeDoctypeName m (Some c) h = search fine
each_fine DoctypeName m None h = search fine
each_fine DoctypeName m (Some c) h = search fine
each_fine AfterDoctypeName m None h = search fine
each_fine AfterDoctypeName m (Some c) h = search fine
each_fine AfterDoctypePublicKeyword m None h = search fine
each_fine AfterDoctypePublicKeyword m (Some c) h = search fine
each_fine BeforeDoctypePublicIdentifier m None h = search fine
each_fine BeforeDoctypePublicIdentifier m (Some c) h = search fine
each_fine DoctypePublicIdentifierDoubleQuoted m None h = search fine
each_fine DoctypePublicIdentifierDoubleQuoted m (Some c) h = search fine
each_fine DoctypePublicIdentifierSingleQuoted m None h = search fine
each_fine DoctypePublicIdentifierSingleQuoted m (Some c) h = search fine
each_fine AfterDoctypePublicIdentifier m None h = search fine
each_fine AfterDoctypePublicIdentifier m (Some c) h = search fine
each_fine BetweenDoctypePublicAndSystemIdentifiers m None h = search fine
each_fine BetweenDoctypePublicAndSystemIdentifiers m (Some c) h = search fine
each_fine AfterDoctypeSystemKeyword m None h = search fine
each_fine AfterDoctypeSystemKeyword m (Some c) h = search fine
each_fine BeforeDoctypeSystemIdentifier m None h = search fine
each_fine BeforeDoctypeSystemIdentifier m (Some c) h = search fine
each_fine DoctypeSystemIdentifierDoubleQuoted m None h = search fine
each_fine DoctypeSystemIdentifierDoubleQuoted m (Some c) h = search fine
each_fine DoctypeSystemIdentifierSingleQuoted m None h = search fine
each_fine DoctypeSystemIdentifierSingleQuoted m (Some c) h = search fine
each_fine AfterDoctypeSystemIdentifier m None h = search fine
each_fine AfterDoctypeSystemIdentifier m (Some c) h = search fine
each_fine BogusDoctype m None h = search fine
each_fine BogusDoctype m (Some c) h = search fine
each_fine CdataSection m None h = search fine
each_fine CdataSection m (Some c) h = search fine
each_fine CdataSectionBracket m None h = search fine
each_fine CdataSectionBracket m (Some c) h = search fine
each_fine CdataSectionEnd m None h = search fine
each_fine CdataSectionEnd m (Some c) h = search fine
each_fine _ m symbol h = never h

-- of each state of this part; of those that read by their row alone
pub here_fine : (m : Machine) (symbol : Option ℕ) → IsTrue (is_here m.state) → IsFine m.state symbol (row m symbol)
here_fine m symbol h = each_fine m.state m symbol h

is_first : (a b : Bool) → IsTrue (a && b) → IsTrue a
is_first true b h = refl
is_first false b h = h

pub row_fine : (m : Machine) (symbol : Option ℕ) → IsTrue (has_row m.state) → IsFine m.state symbol (row m symbol)
row_fine m symbol h = here_fine m symbol (is_first (is_here m.state) (not (reads_word m.state)) h)
