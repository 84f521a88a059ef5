-- The HTML text of a tree, in code points (13.3).
use Rattle.std.specs.Prelude.{ℕ, zero, suc, List, [], ◌∷◌, ◌++◌, length, Bool, false, Option, None, Some, codes, bytes_eq, if◌then◌else◌}
use Rattle.std.specs.List.{flat_map}
use Rattle.hp_elements.specs.Sets.{html as html_names, is_member, in_set}
use Rattle.hp_elements.specs.declared.sets.SetName.TheVariants as set
use Rattle.hp_elements.specs.declared.tag.Attribute.{Attribute}
use Rattle.hp_elements.specs.declared.tag.AttributeSpace.{AttributeSpace}
use Rattle.hp_elements.specs.declared.tag.AttributeSpace.TheVariants.{Plain, Xlink, Xml, Xmlns}
use Rattle.hp_elements.specs.declared.tag.Tag.{Tag}
use Rattle.hp_control.specs.Tree.{Tree, Item, branch}
use Rattle.hp_control.specs.Tree as item
use Rattle.hp_serial.specs.declared.escape.Place.TheVariants as place
use Rattle.hp_serial.specs.Escaping.{escaped}

-- an HTML element of these names has a start tag alone
abbrev pub is_void : Tag → Bool
is_void tag = in_set set.Void tag.namespace tag.name

-- the texts in an HTML element of these names stand as they are
abbrev pub keeps_raw : Tag → Bool
keeps_raw tag = is_member (html_names "style script xmp iframe noembed noframes plaintext") tag.namespace tag.name

-- what stands before the name of an attribute in this space
abbrev pub prefix : AttributeSpace → List ℕ → List ℕ
prefix Plain name = []
prefix Xlink name = codes "xlink:"
prefix Xml name = codes "xml:"
prefix Xmlns name = if bytes_eq name (codes "xmlns") then [] else codes "xmlns:"

abbrev pub qualified : AttributeSpace → List ℕ → List ℕ
qualified space name = prefix space name ++ name

abbrev pub attribute_text : Attribute → List ℕ
attribute_text a = codes " " ++ qualified a.space a.name ++ codes "=\"" ++ escaped place.Value a.value ++ codes "\""

abbrev pub start_tag : Tag → List ℕ
start_tag tag = codes "<" ++ tag.name ++ flat_map attribute_text tag.attributes ++ codes ">"

abbrev pub end_tag : Tag → List ℕ
end_tag tag = if is_void tag then [] else codes "</" ++ tag.name ++ codes ">"

-- the document has no tags
abbrev pub start_of : Option Tag → List ℕ
start_of None = []
start_of (Some tag) = start_tag tag

abbrev pub end_of : Option Tag → List ℕ
end_of None = []
end_of (Some tag) = end_tag tag

abbrev pub text_in : Bool → List ℕ → List ℕ
text_in raw text = if raw then text else escaped place.Text text

-- an item up to what stands inside it; in some elements a text stands raw
abbrev pub front : Tree → Bool → Item → List ℕ
front t raw (item.Element id) = start_of (branch t id).tag
front t raw (item.Text text) = text_in raw text
front t raw (item.Comment text) = codes "<!--" ++ text ++ codes "-->"
front t raw (item.Doctype name public system) = codes "<!DOCTYPE " ++ name ++ codes ">"

-- and behind that
abbrev pub back : Tree → Item → List ℕ
back t (item.Element id) = end_of (branch t id).tag
back t (item.Text text) = []
back t (item.Comment text) = []
back t (item.Doctype name public system) = []

-- whether the texts that stand inside an element with this tag are raw
abbrev pub keeps_raw_in : Option Tag → Bool
keeps_raw_in None = false
keeps_raw_in (Some tag) = keeps_raw tag

abbrev pub raw_inside : Tree → Item → Bool
raw_inside t (item.Element id) = keeps_raw_in (branch t id).tag
raw_inside t (item.Text text) = false
raw_inside t (item.Comment text) = false
raw_inside t (item.Doctype name public system) = false

-- what of the items inside an element with this tag is written: nothing of a void one
abbrev pub written_inside : Option Tag → List Item → List Item
written_inside None items = items
written_inside (Some tag) items = if is_void tag then [] else items

-- what stands inside an item: the children, or the contents of a template
abbrev pub inside : Tree → Item → List Item
inside t (item.Element id) = written_inside (branch t id).tag (branch t id).inside
inside t (item.Text text) = []
inside t (item.Comment text) = []
inside t (item.Doctype name public system) = []

-- the text of these items, where no way down has more than `left` lists of items
unfoldable pub html : Tree → ℕ → Bool → List Item → List ℕ
html t zero raw items = []
html t (suc left) raw [] = []
html t (suc left) raw (item ∷ items) =
    front t raw item ++ html t left (raw_inside t item) (inside t item) ++ back t item ++ html t (suc left) raw items

-- the text of the tree: no way down from the document has more lists of items than there are
abbrev pub html_of : Tree → List ℕ
html_of t = html t (length t) false (branch t 0).inside
