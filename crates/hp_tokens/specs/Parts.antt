-- What the table's acts do to the token under construction.
use Rattle.std.specs.Prelude.{ℕ, List, [], ◌∷◌, ◌++◌, Bool, true, false, Option, None, Some, if◌then◌else◌}
use Rattle.std.specs.List.{list_any}
use Rattle.std.specs.Str.{bytes_eq}
use Rattle.hp_elements.specs.declared.sets.Namespace.TheVariants as namespace
use Rattle.hp_elements.specs.declared.tag.AttributeSpace.TheVariants as space
use Rattle.hp_elements.specs.declared.tag.Attribute.{Attribute}
use Rattle.hp_elements.specs.declared.tag.Tag.{Tag}
use Rattle.hp_elements.specs.declared.token.DoctypeParts.{DoctypeParts}
use Rattle.hp_elements.specs.declared.token.Token.{Token}
use Rattle.hp_elements.specs.declared.token.Token.TheVariants as token
use Rattle.hp_tokens.specs.declared.building.Building.{Building}
use Rattle.hp_tokens.specs.declared.building.Building.TheVariants.{Nothing, StartTag, EndTag, Comment, Doctype}
use Rattle.hp_tokens.specs.declared.building.NewAttribute.{NewAttribute}
use Rattle.hp_tokens.specs.declared.building.NewTag.{NewTag}
use Rattle.hp_tokens.specs.declared.building.NewDoctype.{NewDoctype}
use Rattle.hp_tokens.specs.declared.building.Part.{Part}
use Rattle.hp_tokens.specs.declared.building.Part.TheVariants as part

-- tokens as they begin; a new doctype lacks all parts
abbrev pub start_tag : Building
start_tag = StartTag (record { name = []; attributes = []; attribute = None; self_closing = false })

abbrev pub doctype : Building
doctype = Doctype (record { name = None; public = None; system = None; force_quirks = false })

-- appends text to a part that may be missing
abbrev pub appended : Option (List ℕ) → List ℕ → Option (List ℕ)
appended None text = Some text
appended (Some old) text = Some (old ++ text)

-- to the name and to the value of the attribute under construction
abbrev pub longer_name : List ℕ → Option NewAttribute → Option NewAttribute
longer_name text None = None
longer_name text (Some a) = Some (record a { name = a.name ++ text })

abbrev pub longer_value : List ℕ → Option NewAttribute → Option NewAttribute
longer_value text None = None
longer_value text (Some a) = Some (record a { value = a.value ++ text })

-- to a part of a start tag, of an end tag, of a comment and of a doctype, where it has that part
abbrev pub put_in_tag : Part → List ℕ → NewTag → NewTag
put_in_tag part.Name text t = record t { name = t.name ++ text }
put_in_tag part.AttributeName text t = record t { attribute = longer_name text t.attribute }
put_in_tag part.Value text t = record t { attribute = longer_value text t.attribute }
put_in_tag _ text t = t

abbrev pub put_in_name : Part → List ℕ → List ℕ → List ℕ
put_in_name part.Name text name = name ++ text
put_in_name _ text name = name

abbrev pub put_in_comment : Part → List ℕ → List ℕ → List ℕ
put_in_comment part.Comment text comment = comment ++ text
put_in_comment _ text comment = comment

abbrev pub put_in_doctype : Part → List ℕ → NewDoctype → NewDoctype
put_in_doctype part.DoctypeName text d = record d { name = appended d.name text }
put_in_doctype part.Public text d = record d { public = appended d.public text }
put_in_doctype part.System text d = record d { system = appended d.system text }
put_in_doctype _ text d = d

-- to a part of what is built
abbrev pub put : Part → List ℕ → Building → Building
put part text Nothing = Nothing
put part text (StartTag t) = StartTag (put_in_tag part text t)
put part text (EndTag name) = EndTag (put_in_name part text name)
put part text (Comment comment) = Comment (put_in_comment part text comment)
put part text (Doctype d) = Doctype (put_in_doctype part text d)

abbrev pub quirks_forced : Building → Building
quirks_forced (Doctype d) = Doctype (record d { force_quirks = true })
quirks_forced b = b

abbrev pub self_closed : Building → Building
self_closed (StartTag t) = StartTag (record t { self_closing = true })
self_closed b = b

-- whether one of the attributes has that name
abbrev pub has_name : List ℕ → List Attribute → Bool
has_name name attributes = list_any (λ a. bytes_eq a.name name) attributes

-- the attribute goes behind the others, unless one of them has its name already
abbrev pub joined : List Attribute → Attribute → List Attribute
joined attributes a = if has_name a.name attributes then attributes else attributes ++ a ∷ []

-- The attribute under construction is finished: it goes behind the others, unless the tag has its name already;
-- then it is dropped with its value.
abbrev pub added : List Attribute → Option NewAttribute → List Attribute
added attributes None = attributes
added attributes (Some a) =
    if has_name a.name attributes then attributes
    else attributes ++ record { space = space.Plain; name = a.name; value = a.value } ∷ []

abbrev pub finished : NewTag → NewTag
finished t = record t { attributes = added t.attributes t.attribute; attribute = None }

-- a new attribute, behind the one under construction
abbrev pub attribute_begun : Building → Building
attribute_begun (StartTag t) = StartTag (record (finished t) { attribute = Some (record { name = []; value = [] }) })
attribute_begun b = b

-- the tag and the doctype that were built
abbrev pub finished_tag : NewTag → Tag
finished_tag t = record { namespace = namespace.Html; name = t.name; attributes = added t.attributes t.attribute }

abbrev pub finished_doctype : NewDoctype → DoctypeParts
finished_doctype d = record { name = d.name; public = d.public; system = d.system; force_quirks = d.force_quirks }

-- the token that was built
abbrev pub built : Building → List Token
built Nothing = []
built (StartTag t) = token.Start t.self_closing (finished_tag t) ∷ []
built (EndTag name) = token.EndTag name ∷ []
built (Comment text) = token.Comment text ∷ []
built (Doctype d) = token.Doctype (finished_doctype d) ∷ []

-- the last start tag's name, once what was built is emitted
abbrev pub last_tag_after : Building → Option (List ℕ) → Option (List ℕ)
last_tag_after (StartTag t) last = Some t.name
last_tag_after b last = last
