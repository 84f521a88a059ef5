-- The printed form of a tree, in UTF-8: each line begins with `| ` and two spaces for each depth, and ends with a line feed.
use Rattle.std.specs.Prelude.{ℕ, zero, suc, ◌+◌, List, [], ◌∷◌, ◌++◌, length, Option, None, Some, unwrap_or, replicate, codes, encode_utf8_all, if◌then◌else◌}
use Rattle.std.specs.List.{flat_map}
use Rattle.hp_elements.specs.declared.sets.Namespace.{Namespace}
use Rattle.hp_elements.specs.declared.sets.Namespace.TheVariants.{Html, Svg, MathMl}
use Rattle.hp_elements.specs.declared.tag.Attribute.{Attribute}
use Rattle.hp_elements.specs.declared.tag.Tag.{Tag}
use Rattle.hp_control.specs.Tree.{Tree, Item, branch}
use Rattle.hp_control.specs.Tree as item
use Rattle.hp_arena.specs.Readers.{is_template}
use Rattle.hp_print.specs.Order.{space_word, in_order}

-- how a line of this depth begins
abbrev pub indentation : ℕ → List ℕ
indentation depth = codes "| " ++ replicate (depth + depth) 32

-- what stands before the name of an element
abbrev pub namespace_word : Namespace → List ℕ
namespace_word Html = []
namespace_word Svg = codes "svg "
namespace_word MathMl = codes "math "

-- an element: its name, after its namespace where that isn't HTML
abbrev pub opening : ℕ → Tag → List ℕ
opening depth tag = indentation depth ++ codes "<" ++ namespace_word tag.namespace ++ encode_utf8_all tag.name ++ codes ">\n"

-- an attribute: its name and its value
abbrev pub attribute_line : ℕ → Attribute → List ℕ
attribute_line depth attribute =
    indentation depth ++ space_word attribute.space ++ encode_utf8_all attribute.name ++ codes "=\"" ++ encode_utf8_all attribute.value ++ codes "\"\n"

abbrev pub attribute_lines : ℕ → List Attribute → List ℕ
attribute_lines depth attributes = flat_map (attribute_line depth) attributes

-- the line above the contents of a template
abbrev pub contents_line : ℕ → List ℕ
contents_line depth = indentation depth ++ codes "content\n"

-- an element with its attributes
abbrev pub tag_lines : ℕ → Tag → List ℕ
tag_lines depth tag = opening depth tag ++ attribute_lines (depth + 1) (in_order tag.attributes)

-- the lines of an element: it, its attributes, and the line above its contents
abbrev pub element_lines : ℕ → Tag → List ℕ
element_lines depth tag = tag_lines depth tag ++ (if is_template tag then contents_line (depth + 1) else [])

-- a text in quotation marks
abbrev pub text_line : ℕ → List ℕ → List ℕ
text_line depth text = indentation depth ++ codes "\"" ++ encode_utf8_all text ++ codes "\"\n"

abbrev pub comment_line : ℕ → List ℕ → List ℕ
comment_line depth text = indentation depth ++ codes "<!-- " ++ encode_utf8_all text ++ codes " -->\n"

-- the public and the system identifier of a doctype, where it has one of them
abbrev pub identifiers : Option (List ℕ) → Option (List ℕ) → List ℕ
identifiers None None = []
identifiers None (Some system) = codes " \"" ++ [] ++ codes "\" \"" ++ encode_utf8_all system ++ codes "\""
identifiers (Some public) system =
    codes " \"" ++ encode_utf8_all public ++ codes "\" \"" ++ encode_utf8_all (unwrap_or system []) ++ codes "\""

abbrev pub doctype_line : ℕ → List ℕ → Option (List ℕ) → Option (List ℕ) → List ℕ
doctype_line depth name public system =
    indentation depth ++ codes "<!DOCTYPE " ++ encode_utf8_all name ++ identifiers public system ++ codes ">\n"

-- the lines of what has this tag, if any
abbrev pub tagged_lines : ℕ → Option Tag → List ℕ
tagged_lines depth None = []
tagged_lines depth (Some tag) = element_lines depth tag

-- the lines of an item, before those of what stands inside it
abbrev pub own_lines : Tree → ℕ → Item → List ℕ
own_lines t depth (item.Element id) = tagged_lines depth (branch t id).tag
own_lines t depth (item.Text text) = text_line depth text
own_lines t depth (item.Comment text) = comment_line depth text
own_lines t depth (item.Doctype name public system) = doctype_line depth name public system

-- and of an item, if any
abbrev pub lines_of : Tree → ℕ → Option Item → List ℕ
lines_of t depth None = []
lines_of t depth (Some item) = own_lines t depth item

-- what stands inside an item
abbrev pub inside : Tree → Item → List Item
inside t (item.Element id) = (branch t id).inside
inside t (item.Text text) = []
inside t (item.Comment text) = []
inside t (item.Doctype name public system) = []

-- one more for the contents of a template
abbrev pub tag_extra : Option Tag → ℕ
tag_extra None = 0
tag_extra (Some tag) = if is_template tag then 1 else 0

abbrev pub extra : Tree → Item → ℕ
extra t (item.Element id) = tag_extra (branch t id).tag
extra t (item.Text text) = 0
extra t (item.Comment text) = 0
extra t (item.Doctype name public system) = 0

-- the lines of these items at a depth, where no way down has more than `left` lists of items
unfoldable pub lines : Tree → ℕ → ℕ → List Item → List ℕ
lines t zero depth items = []
lines t (suc left) depth [] = []
lines t (suc left) depth (item ∷ items) =
    own_lines t depth item ++ lines t left (depth + 1 + extra t item) (inside t item) ++ lines t (suc left) depth items

-- the tree as text: no way down from the document has more lists of items than there are
abbrev pub print : Tree → List ℕ
print t = lines t (length t) 0 (branch t 0).inside
