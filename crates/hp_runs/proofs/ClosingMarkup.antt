-- The rows of markup emit characters alone, but where they consume `>`.
use Rattle.std.proofs.Common.{ℕ, Some}
use Rattle.std.specs.Prelude.{IsTrue}
use Rattle.hp_tokens.specs.declared.state.State.{State}
use Rattle.hp_tokens.specs.declared.state.State.TheVariants.{BogusComment, MarkupDeclarationOpen, CommentStart, CommentStartDash, Comment, CommentLessThanSign, CommentLessThanSignBang, CommentLessThanSignBangDash, CommentLessThanSignBangDashDash, CommentEndDash, CommentEnd, CommentEndBang, Doctype, BeforeDoctypeName, DoctypeName, AfterDoctypeName, AfterDoctypePublicKeyword, BeforeDoctypePublicIdentifier, DoctypePublicIdentifierDoubleQuoted, DoctypePublicIdentifierSingleQuoted, AfterDoctypePublicIdentifier, BetweenDoctypePublicAndSystemIdentifiers, AfterDoctypeSystemKeyword, BeforeDoctypeSystemIdentifier, DoctypeSystemIdentifierDoubleQuoted, DoctypeSystemIdentifierSingleQuoted, AfterDoctypeSystemIdentifier, BogusDoctype, CdataSection, CdataSectionBracket, CdataSectionEnd}
use Rattle.hp_tokens.specs.declared.machine.Machine.{Machine}
use Rattle.hp_lex_markup.specs.Rows.{row, row_of, is_here}
use Rattle.hp_runs.proofs.ClosingRows.{closes, Closes}

each_closes : (s : State) (m : Machine) (c : ℕ) → IsTrue (is_here s) → Closes c (row_of s m (Some c))
each_closes BogusComment m c h = search closes depth 9
each_closes MarkupDeclarationOpen m c h = search closes depth 9
each_closes CommentStart m c h = search closes depth 9
each_closes CommentStartDash m c h = search closes depth 9
each_closes Comment m c h = search closes depth 9
each_closes CommentLessThanSign m c h = search closes depth 9
each_closes CommentLessThanSignBang m c h = search closes depth 9
each_closes CommentLessThanSignBangDash m c h = search closes depth 9
each_closes CommentLessThanSignBangDashDash m c h = search closes depth 9
each_closes CommentEndDash m c h = search closes depth 9
each_closes CommentEnd m c h = search closes depth 9
each_closes CommentEndBang m c h = search closes depth 9
each_closes Doctype m c h = search closes depth 9
each_closes BeforeDoctypeName m c h = search closes depth 9
each_closes DoctypeName m c h = search closes depth 9
each_closes AfterDoctypeName m c h = search closes depth 9
each_closes AfterDoctypePublicKeyword m c h = search closes depth 9
each_closes BeforeDoctypePublicIdentifier m c h = search closes depth 9
each_closes DoctypePublicIdentifierDoubleQuoted m c h = search closes depth 9
each_closes DoctypePublicIdentifierSingleQuoted m c h = search closes depth 9
each_closes AfterDoctypePublicIdentifier m c h = search closes depth 9
each_closes BetweenDoctypePublicAndSystemIdentifiers m c h = search closes depth 9
each_closes AfterDoctypeSystemKeyword m c h = search closes depth 9
each_closes BeforeDoctypeSystemIdentifier m c h = search closes depth 9
each_closes DoctypeSystemIdentifierDoubleQuoted m c h = search closes depth 9
each_closes DoctypeSystemIdentifierSingleQuoted m c h = search closes depth 9
each_closes AfterDoctypeSystemIdentifier m c h = search closes depth 9
each_closes BogusDoctype m c h = search closes depth 9
each_closes CdataSection m c h = search closes depth 9
each_closes CdataSectionBracket m c h = search closes depth 9
each_closes CdataSectionEnd m c h = search closes depth 9
each_closes _ m c h = cc

-- of each state of this part; of those that read by their row alone
pub here_closes : (m : Machine) (c : ℕ) → IsTrue (is_here m.state) → Closes c (row m (Some c))
here_closes m c h = each_closes m.state m c h
