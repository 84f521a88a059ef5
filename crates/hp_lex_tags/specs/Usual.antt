-- References that are read at once.
use Rattle.std.specs.Prelude.{◌≡◌, ℕ, ◌==◌, true, false, List, drop, None, Some}
use Rattle.std.specs.Char.{is_ascii_alphanumeric}
use Rattle.hp_names.specs.References.{Reference}
use Rattle.hp_names.specs.Longest.{longest, is_open}
use Rattle.hp_names.specs.declared.names.Found.{Found}
use Rattle.hp_tokens.specs.Reading.{Unread, first, IsAsciiFront, ReadsAscii}
use Rattle.hp_lex_tags.specs.Decided.{IsReference}

-- The longest name at the front of a text, which ends with a semicolon, so that it is decided whatever follows: ASCII, and it
-- stands for one code point, which is not U+0000.
pub record IsUsual (names : List Reference) (text : List ℕ) (f : Found) : Type 0 where
  pub c : ℕ
  pub first : first text ≡ Some c
  pub letter : is_ascii_alphanumeric c ≡ true
  pub closed : is_open names text ≡ false
  pub longest : longest names text ≡ Some f
  pub alone : f.second ≡ None
  pub semicolon : f.ends_with_semicolon ≡ true
  pub some : (f.first == 0) ≡ false
  pub ascii : IsAsciiFront f.length text

-- A reference that is decided whatever follows was taken, and stands for this code point.
pub record ReferenceTaken (names : List Reference) (old : Unread) (c : ℕ) (new : Unread) : Type 0 where
  pub length : ℕ
  pub mid : Unread
  pub begins : first old.text ≡ Some 38
  pub decided : IsReference names (drop 1 old.text) c length
  pub skipped : ReadsAscii 1 old mid
  pub read : ReadsAscii length mid new
