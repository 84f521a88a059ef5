-- Foreign content: which tokens go to it, and its acts as functions of the whole state (13.2.6, 13.2.6.1, 13.2.6.5).
use Rattle.std.specs.Prelude.{ℕ, Bool, true, false, not, ◌&&◌, ◌||◌, if◌then◌else◌, List, [], ◌∷◌, map, Option, None, Some}
use Rattle.std.specs.Option.{unwrap_or}
use Rattle.std.specs.List.{list_any}
use Rattle.std.specs.Str.{bytes_eq}
use Rattle.hp_elements.specs.Names.{text_of, words, is_among}
use Rattle.hp_elements.specs.Respelling.{spellings_of, respelling_of, foreign_attribute_of}
use Rattle.hp_elements.specs.declared.kinds.Kinds.TheVariants as kinds
use Rattle.hp_elements.specs.declared.kinds.Point.{Point}
use Rattle.hp_elements.specs.declared.kinds.Point.TheVariants as point
use Rattle.hp_elements.specs.declared.known.Known.{Known}
use Rattle.hp_elements.specs.declared.known.Known.TheVariants as names
use Rattle.hp_elements.specs.declared.element_name.ElementName.TheVariants as element
use Rattle.hp_elements.specs.KnownNames as known
use Rattle.hp_elements.specs.declared.respelling.Respelling.TheVariants.{SvgNames, SvgAttributes, MathMlAttributes}
use Rattle.hp_elements.specs.declared.sets.Namespace.{Namespace}
use Rattle.hp_elements.specs.declared.sets.Namespace.TheVariants.{Html, MathMl, Svg}
use Rattle.hp_elements.specs.declared.tag.Attribute.{Attribute}
use Rattle.hp_elements.specs.declared.tag.AttributeSpace.{AttributeSpace}
use Rattle.hp_elements.specs.declared.tag.Tag.{Tag}
use Rattle.hp_elements.specs.declared.token.Kind.{Kind}
use Rattle.hp_elements.specs.declared.token.Kind.TheVariants as kind
use Rattle.hp_control.specs.declared.edit.Child.TheVariants as child
use Rattle.hp_control.specs.declared.element.OpenElement.{OpenElement}
use Rattle.hp_control.specs.Acts.{insert, pop, pop_to, put_here, through}
use Rattle.hp_control.specs.Outcome.{Act, and_then, nothing_done}
use Rattle.hp_control.specs.States.{ControlState, is_html}
use Rattle.hp_control.specs.Walks.{seen}

-- the start tags that are foreign content at a MathML text integration point
abbrev pub is_glyph : Option Known → Bool
is_glyph (Some (names.Element element.Mglyph)) = true
is_glyph (Some (names.Element element.Malignmark)) = true
is_glyph _ = false

-- whether the mode's rules are used for the token at an integration point
abbrev pub enters : Point → Kind → Bool
enters point.MathText (kind.Characters class) = true
enters point.MathText (kind.Start name) = not (is_glyph name)
enters point.Html (kind.Characters class) = true
enters point.Html (kind.Start name) = true
enters _ _ = false

abbrev pub is_svg_start : Kind → Bool
is_svg_start (kind.Start (Some (names.Element element.Svg))) = true
is_svg_start _ = false

abbrev pub is_annotation_in : Namespace → List ℕ → Bool
is_annotation_in MathMl name = bytes_eq name (text_of known.AnnotationXml)
is_annotation_in _ name = false

-- a MathML annotation-xml element
abbrev pub is_annotation : OpenElement → Bool
is_annotation e = is_annotation_in e.namespace e.name

abbrev pub is_end_of_input : Kind → Bool
is_end_of_input kind.EndOfInput = true
is_end_of_input _ = false

-- whether the token is foreign content where this element is the current node
abbrev pub is_foreign_at : Kind → OpenElement → Bool
is_foreign_at token e = not (is_end_of_input token || is_html e || enters e.point token || (is_annotation e && is_svg_start token))

-- dispatch: whether a token is handled by the rules of foreign content, and not by those of the mode (13.2.6)
abbrev pub is_foreign : Kind → List OpenElement → Bool
is_foreign token [] = false
is_foreign token (e ∷ es) = is_foreign_at token e

-- the names of the attributes that are spelled otherwise in elements of the namespace
abbrev pub attribute_spellings : Namespace → List (List ℕ)
attribute_spellings Html = []
attribute_spellings MathMl = spellings_of MathMlAttributes
attribute_spellings Svg = spellings_of SvgAttributes

-- the spelling of which the name is the lower case, or the name
abbrev pub respelled : List (List ℕ) → List ℕ → List ℕ
respelled spellings name = unwrap_or (respelling_of spellings name) name

abbrev pub attribute_as : Namespace → Attribute → Option (AttributeSpace × List ℕ) → Attribute
attribute_as space a None = record { space = a.space; name = respelled (attribute_spellings space) a.name; value = a.value }
attribute_as space a (Some foreign) = record { space = foreign.0; name = foreign.1; value = a.value }

-- the attribute that an element of the namespace has for one of the token
abbrev pub attribute_in : Namespace → Attribute → Attribute
attribute_in space a = attribute_as space a (foreign_attribute_of a.name)

-- the name that an element of the namespace has for a token of that name
abbrev pub name_in : Namespace → List ℕ → List ℕ
name_in Html name = name
name_in MathMl name = name
name_in Svg name = respelled (spellings_of SvgNames) name

-- the tag of an element of the namespace that is made for the token's tag
abbrev pub tag_in : Namespace → Tag → Tag
tag_in space tag = record { namespace = space; name = name_in space tag.name; attributes = map (attribute_in space) tag.attributes }

-- an element of the namespace for the tag; it is popped where the tag is self-closing
abbrev pub insert_in : Namespace → Bool → Bool → Tag → Act
insert_in space fostering self_closing tag = and_then (insert fostering (tag_in space tag)) (if self_closing then pop else nothing_done)

-- the namespace of the element that a start tag math or svg opens
abbrev pub opened_namespace : List ℕ → Namespace
opened_namespace name = if bytes_eq name (text_of known.Svg) then Svg else MathMl

abbrev pub insert_foreign : Bool → Bool → Tag → Act
insert_foreign fostering self_closing tag = insert_in (opened_namespace tag.name) fostering self_closing tag

abbrev pub current_namespace : List OpenElement → Namespace
current_namespace [] = Html
current_namespace (e ∷ es) = e.namespace

-- an element of the current node's namespace for the tag
abbrev pub insert_as_current : Bool → Bool → Tag → Act
insert_as_current fostering self_closing tag c = insert_in (current_namespace c.stack) fostering self_closing tag c

-- pops to an HTML element or an integration point
abbrev pub pop_to_point : Act
pop_to_point = pop_to kinds.HtmlOrPoint

-- a foreign element of that name, without ASCII case, stands above the nearest HTML element
abbrev pub names_foreign : List ℕ → ControlState → Bool
names_foreign name c = seen (kinds.Foreign name) kinds.AnyHtml c.stack

-- pops up to and with it
abbrev pub through_foreign : List ℕ → Act
through_foreign name = through (kinds.Foreign name) kinds.AnyHtml

-- U+FFFD for each code point of a text
abbrev pub replaced : List ℕ → List ℕ
replaced text = map (λ c. 0xFFFD) text

abbrev pub put_replacements : Bool → List ℕ → Act
put_replacements fostering text = put_here fostering (child.Text (replaced text))

-- whether the tag has an attribute of one of these names
abbrev pub has_attribute : List (List ℕ) → Tag → Bool
has_attribute names tag = list_any (λ (a : Attribute). is_among names a.name) tag.attributes

-- a start tag font is foreign content's unless it has one of these (13.2.6.5)
abbrev pub has_font_attribute : Tag → Bool
has_font_attribute tag = has_attribute (words "color face size") tag
