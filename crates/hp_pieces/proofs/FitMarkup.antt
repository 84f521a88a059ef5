-- The rows of markup keep a machine that fits.
use Rattle.std.proofs.Common.{◌≡◌, ℕ, Bool, true, false, ◌&&◌, not, refl, Some}
use Rattle.std.specs.Prelude.{IsTrue}
use Rattle.hp_tokens.specs.declared.building.Building.{Building}
use Rattle.hp_tokens.specs.declared.machine.Machine.{Machine}
use Rattle.hp_tokens.specs.declared.state.State.{State}
use Rattle.hp_tokens.specs.declared.state.State.TheVariants.{BogusComment, MarkupDeclarationOpen, CommentStart, CommentStartDash, Comment, CommentLessThanSign, CommentLessThanSignBang, CommentLessThanSignBangDash, CommentLessThanSignBangDashDash, CommentEndDash, CommentEnd, CommentEndBang, Doctype, BeforeDoctypeName, DoctypeName, AfterDoctypeName, AfterDoctypePublicKeyword, BeforeDoctypePublicIdentifier, DoctypePublicIdentifierDoubleQuoted, DoctypePublicIdentifierSingleQuoted, AfterDoctypePublicIdentifier, BetweenDoctypePublicAndSystemIdentifiers, AfterDoctypeSystemKeyword, BeforeDoctypeSystemIdentifier, DoctypeSystemIdentifierDoubleQuoted, DoctypeSystemIdentifierSingleQuoted, AfterDoctypeSystemIdentifier, BogusDoctype, CdataSection, CdataSectionBracket, CdataSectionEnd}
use Rattle.hp_lex_markup.specs.Rows.{row, row_of, is_here, reads_word, has_row}
use Rattle.hp_pieces.proofs.FitRows.{Fits, Keeps, keeps, built-fits}

each_keeps : (s : State) (m : Machine) (c : ℕ) → m.state ≡ s → Fits m → IsTrue (is_here s) → Keeps (row_of s m (Some c))
each_keeps BogusComment m c e h k = let part : (x : Building) → Fits (record m { building = x }) = λ x. built-fits BogusComment m x e refl h in search (keeps, part, h.told) depth 9
each_keeps MarkupDeclarationOpen m c e h k = search (keeps, h.told) depth 9
each_keeps CommentStart m c e h k = search (keeps, h.told) depth 9
each_keeps CommentStartDash m c e h k = search (keeps, h.told) depth 9
each_keeps Comment m c e h k = let part : (x : Building) → Fits (record m { building = x }) = λ x. built-fits Comment m x e refl h in search (keeps, part, h.told) depth 9
each_keeps CommentLessThanSign m c e h k = let part : (x : Building) → Fits (record m { building = x }) = λ x. built-fits CommentLessThanSign m x e refl h in search (keeps, part, h.told) depth 9
each_keeps CommentLessThanSignBang m c e h k = search (keeps, h.told) depth 9
each_keeps CommentLessThanSignBangDash m c e h k = search (keeps, h.told) depth 9
each_keeps CommentLessThanSignBangDashDash m c e h k = search (keeps, h.told) depth 9
each_keeps CommentEndDash m c e h k = search (keeps, h.told) depth 9
each_keeps CommentEnd m c e h k = let part : (x : Building) → Fits (record m { building = x }) = λ x. built-fits CommentEnd m x e refl h in search (keeps, part, h.told) depth 9
each_keeps CommentEndBang m c e h k = search (keeps, h.told) depth 9
each_keeps Doctype m c e h k = search (keeps, h.told) depth 9
each_keeps BeforeDoctypeName m c e h k = search (keeps, h, h.told) depth 9
each_keeps DoctypeName m c e h k = let part : (x : Building) → Fits (record m { building = x }) = λ x. built-fits DoctypeName m x e refl h in search (keeps, part, h.told) depth 9
each_keeps AfterDoctypeName m c e h k = search (keeps, h, h.told) depth 9
each_keeps AfterDoctypePublicKeyword m c e h k = search (keeps, h.told) depth 9
each_keeps BeforeDoctypePublicIdentifier m c e h k = search (keeps, h, h.told) depth 9
each_keeps DoctypePublicIdentifierDoubleQuoted m c e h k = let part : (x : Building) → Fits (record m { building = x }) = λ x. built-fits DoctypePublicIdentifierDoubleQuoted m x e refl h in search (keeps, part, h.told) depth 9
each_keeps DoctypePublicIdentifierSingleQuoted m c e h k = let part : (x : Building) → Fits (record m { building = x }) = λ x. built-fits DoctypePublicIdentifierSingleQuoted m x e refl h in search (keeps, part, h.told) depth 9
each_keeps AfterDoctypePublicIdentifier m c e h k = search (keeps, h.told) depth 9
each_keeps BetweenDoctypePublicAndSystemIdentifiers m c e h k = search (keeps, h, h.told) depth 9
each_keeps AfterDoctypeSystemKeyword m c e h k = search (keeps, h.told) depth 9
each_keeps BeforeDoctypeSystemIdentifier m c e h k = search (keeps, h, h.told) depth 9
each_keeps DoctypeSystemIdentifierDoubleQuoted m c e h k = let part : (x : Building) → Fits (record m { building = x }) = λ x. built-fits DoctypeSystemIdentifierDoubleQuoted m x e refl h in search (keeps, part, h.told) depth 9
each_keeps DoctypeSystemIdentifierSingleQuoted m c e h k = let part : (x : Building) → Fits (record m { building = x }) = λ x. built-fits DoctypeSystemIdentifierSingleQuoted m x e refl h in search (keeps, part, h.told) depth 9
each_keeps AfterDoctypeSystemIdentifier m c e h k = search (keeps, h, h.told) depth 9
each_keeps BogusDoctype m c e h k = search (keeps, h, h.told) depth 9
each_keeps CdataSection m c e h k = search (keeps, h, h.told) depth 9
each_keeps CdataSectionBracket m c e h k = search (keeps, h.told) depth 9
each_keeps CdataSectionEnd m c e h k = search (keeps, h, h.told) depth 9
each_keeps _ m c e h k = cc

pub here_keeps : (m : Machine) (c : ℕ) → Fits m → IsTrue (is_here m.state) → Keeps (row m (Some c))
here_keeps m c h k = each_keeps m.state m c refl h k

is_first : (a b : Bool) → IsTrue (a && b) → IsTrue a
is_first true b h = refl
is_first false b h = h

pub row_keeps : (m : Machine) (c : ℕ) → Fits m → IsTrue (has_row m.state) → Keeps (row m (Some c))
row_keeps m c h k = here_keeps m c h (is_first (is_here m.state) (not (reads_word m.state)) k)
