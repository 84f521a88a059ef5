-- Classes of code points, and what the rules look at in a token.
use Rattle.std.specs.Prelude.{ℕ, ◌==◌, ◌||◌, if◌then◌else◌}
use Rattle.hp_elements.specs.declared.token.CharClass.{CharClass}
use Rattle.hp_elements.specs.declared.token.CharClass.TheVariants.{White, Nul, Other}
use Rattle.hp_elements.specs.declared.token.Kind.{Kind}
use Rattle.hp_elements.specs.declared.token.Kind.TheVariants as kind
use Rattle.hp_elements.specs.declared.token.Token.{Token}
use Rattle.hp_elements.specs.declared.token.Token.TheVariants as token
use Rattle.hp_elements.specs.Names.{known_of}

-- white space, U+0000, or another code point
abbrev pub class_of : ℕ → CharClass
class_of c = if c == 0x9 || c == 0xA || c == 0xC || c == 0xD || c == 0x20 then White else if c == 0 then Nul else Other

abbrev pub kind_of : Token → Kind
kind_of (token.Characters class text) = kind.Characters class
kind_of (token.Start self_closing tag) = kind.Start (known_of tag.name)
kind_of (token.EndTag name) = kind.End (known_of name)
kind_of (token.Comment text) = kind.Comment
kind_of (token.Doctype doctype) = kind.Doctype
kind_of token.EndOfInput = kind.EndOfInput
