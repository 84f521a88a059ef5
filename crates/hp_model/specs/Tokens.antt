-- What the rules read in a token.
use Rattle.std.specs.Prelude.{ℕ, Bool, true, false, ◌&&◌, ◌==◌, List, [], ◌∷◌, map, codes, None}
use Rattle.std.specs.List.{list_any}
use Rattle.std.specs.Str.{bytes_eq}
use Rattle.hp_elements.specs.Names.{text_of, lowered}
use Rattle.hp_elements.specs.declared.act.Which.{Which}
use Rattle.hp_elements.specs.declared.act.Which.TheVariants.{Its, Named}
use Rattle.hp_elements.specs.declared.known.Known.{Known}
use Rattle.hp_elements.specs.declared.sets.Namespace.TheVariants.{Html}
use Rattle.hp_elements.specs.declared.tag.Attribute.{Attribute}
use Rattle.hp_elements.specs.declared.tag.Tag.{Tag}
use Rattle.hp_elements.specs.declared.token.DoctypeParts.{DoctypeParts}
use Rattle.hp_elements.specs.declared.token.Token.{Token}
use Rattle.hp_elements.specs.declared.token.Token.TheVariants as token
use Rattle.hp_control.specs.declared.edit.Child.{Child}
use Rattle.hp_control.specs.declared.edit.Child.TheVariants as child

-- an HTML tag without attributes
abbrev pub bare : List ℕ → Tag
bare name = record { namespace = Html; name = name; attributes = [] }

-- the tag of a start tag; the others have no attributes
abbrev pub tag_of : Token → Tag
tag_of (token.Start self_closing tag) = tag
tag_of (token.EndTag name) = bare name
tag_of _ = bare []

abbrev pub name_of : Token → List ℕ
name_of t = (tag_of t).name

abbrev pub name_for : Token → Which → List ℕ
name_for t Its = name_of t
name_for t (Named name) = text_of name

abbrev pub is_self_closing : Token → Bool
is_self_closing (token.Start self_closing tag) = self_closing
is_self_closing _ = false

abbrev pub characters : Token → List ℕ
characters (token.Characters class text) = text
characters _ = []

abbrev pub comment : Token → List ℕ
comment (token.Comment text) = text
comment _ = []

abbrev pub parts_of : Token → DoctypeParts
parts_of (token.Doctype parts) = parts
parts_of _ = record { name = None; public = None; system = None; force_quirks = true }

-- the doctype that the parts make
abbrev pub doctype_of : DoctypeParts → Child
doctype_of parts = child.Doctype parts

abbrev pub is_hidden : Attribute → Bool
is_hidden a = bytes_eq a.name (codes "type") && bytes_eq (lowered a.value) (codes "hidden")

abbrev pub has_hidden_type : Token → Bool
has_hidden_type t = list_any is_hidden (tag_of t).attributes

-- the same token as a start tag of another name
abbrev pub as_start : Known → Token → Token
as_start name t = token.Start (is_self_closing t) (record (tag_of t) { name = text_of name })

abbrev pub begins_with_line_feed : List ℕ → Bool
begins_with_line_feed [] = false
begins_with_line_feed (c ∷ cs) = c == 0xA

-- a line feed
abbrev pub is_line_feed : Token → Bool
is_line_feed (token.Characters class text) = begins_with_line_feed text
is_line_feed _ = false

-- the tokens of which a token consists: a run of characters is its code points, one by one
abbrev pub pieces : Token → List Token
pieces (token.Characters class text) = map (λ c. token.Characters class (c ∷ [])) text
pieces t = t ∷ []
