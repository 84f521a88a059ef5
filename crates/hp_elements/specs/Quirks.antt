-- The doctypes that give quirks (13.2.6.4.1), by this profile's list. Identifiers are compared in UTF-8, without ASCII case.
use Rattle.std.specs.Prelude.{ℕ, List, Bool, false, not, ◌&&◌, ◌||◌, Option, None, Some, codes, take, length}
use Rattle.std.specs.Str.{bytes_eq}
use Rattle.std.specs.Option.{is_some}
use lib.Utf8.{encodes}
use Rattle.hp_elements.specs.declared.token.DoctypeParts.{DoctypeParts}
use Rattle.hp_elements.specs.Names.{lowered}

-- the bytes of a text in UTF-8, lowered
abbrev pub bytes_of : List ℕ → List ℕ
bytes_of text = lowered (encodes text)

abbrev pub begins : List ℕ → List ℕ → Bool
begins front text = bytes_eq (take (length front) (bytes_of text)) front

abbrev pub equals : List ℕ → List ℕ → Bool
equals other text = bytes_eq (bytes_of text) other

-- whether a part is there and passes a test
abbrev pub is_part : (List ℕ → Bool) → Option (List ℕ) → Bool
is_part test None = false
is_part test (Some text) = test text

abbrev pub quirky : List ℕ → Bool
quirky public =
    equals (codes "html") public || begins (codes "-//ietf//dtd html") public || begins (codes "-//w3c//dtd html 3.2") public
    || begins (codes "-//w3c//dtd html 4.0 frameset//") public || begins (codes "-//w3c//dtd html 4.0 transitional//") public
    || begins (codes "-//netscape comm. corp.//dtd") public

-- public identifiers that give quirks where there is no system identifier
abbrev pub quirky_alone : List ℕ → Bool
quirky_alone public = begins (codes "-//w3c//dtd html 4.01 frameset//") public || begins (codes "-//w3c//dtd html 4.01 transitional//") public

abbrev pub gives_quirks : DoctypeParts → Bool
gives_quirks parts =
    parts.force_quirks || not (is_part (equals (codes "html")) parts.name) || is_part quirky parts.public || (is_part quirky_alone parts.public && not (is_some parts.system))
