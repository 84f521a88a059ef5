-- What a selector matches.
use Rattle.std.specs.Prelude.{ℕ, ◌||◌, ◌&&◌, Bool, true, false, List, [], ◌∷◌, codes, bytes_eq, filter}
use Rattle.std.specs.Char.{is_ascii_whitespace}
use Rattle.std.specs.List.{list_any, list_all, slice_split}
use Rattle.hp_elements.specs.Names.{lowered}
use Rattle.hp_elements.specs.declared.sets.Namespace.{Namespace}
use Rattle.hp_elements.specs.declared.sets.Namespace.TheVariants.{Html, Svg, MathMl}
use Rattle.hp_elements.specs.declared.tag.Attribute.{Attribute}
use Rattle.hp_elements.specs.declared.tag.AttributeSpace.{AttributeSpace}
use Rattle.hp_elements.specs.declared.tag.AttributeSpace.TheVariants.{Plain, Xlink, Xml, Xmlns}
use Rattle.hp_elements.specs.declared.tag.Tag.{Tag}
use Rattle.hp_select.specs.declared.selector.Combinator.{Combinator}
use Rattle.hp_select.specs.declared.selector.Combinator.TheVariants.{Begin, Descendant, Child}
use Rattle.hp_select.specs.declared.selector.Simple.{Simple}
use Rattle.hp_select.specs.declared.selector.Simple.TheVariants as simple
use Rattle.hp_select.specs.declared.selector.Step.{Step}

-- a name as it has to be in a namespace: in lower case for HTML elements, and else as written
abbrev pub name_in : Namespace → List ℕ → List ℕ
name_in Html name = lowered name
name_in Svg name = name
name_in MathMl name = name

abbrev pub is_plain : AttributeSpace → Bool
is_plain Plain = true
is_plain Xlink = false
is_plain Xml = false
is_plain Xmlns = false

-- there is an attribute of that name, in no namespace, whose value passes a test
abbrev pub has_plain : List ℕ → (List ℕ → Bool) → Tag → Bool
has_plain name test tag = list_any (λ (a : Attribute). is_plain a.space && (bytes_eq a.name name && test a.value)) tag.attributes

abbrev pub is_filled : List ℕ → Bool
is_filled [] = false
is_filled (c ∷ text) = true

-- the words between ASCII white space (TAB, LF, FF, CR and space), of which none is empty
abbrev pub words : List ℕ → List (List ℕ)
words value = filter is_filled (slice_split is_ascii_whitespace value)

abbrev pub has_word : List ℕ → List ℕ → Bool
has_word word value = list_any (bytes_eq word) (words value)

-- an element with this tag is what a simple selector asks for
abbrev pub is_simple : Tag → Simple → Bool
is_simple tag simple.Universal = true
is_simple tag (simple.OfType name) = bytes_eq tag.name (name_in tag.namespace name)
is_simple tag (simple.Id id) = has_plain (codes "id") (λ value. bytes_eq value id) tag
is_simple tag (simple.Class class) = has_plain (codes "class") (has_word class) tag
is_simple tag (simple.Attribute name) = has_plain (name_in tag.namespace name) (λ value. true) tag
is_simple tag (simple.Value name wanted) = has_plain (name_in tag.namespace name) (λ value. bytes_eq value wanted) tag

abbrev pub is_compound : Tag → List Simple → Bool
is_compound tag compound = list_all (is_simple tag) compound

-- a path is an element's tag and those of its ancestors, from the parent up. It passes the test itself, or one of its ends does
abbrev pub any_from : (List Tag → Bool) → List Tag → Bool
any_from test [] = false
any_from test (tag ∷ above) = test (tag ∷ above) || any_from test above

-- what a combinator asks: nothing where a chain begins, that the chain so far matches the parent, or that it matches an ancestor
abbrev pub is_tied : Combinator → Bool → Bool → Bool
is_tied Begin parent ancestor = true
is_tied Child parent ancestor = parent
is_tied Descendant parent ancestor = ancestor

-- the chain up to the last of these steps, which come last first, matches the element at the front of a path: its last compound does, and
-- the compounds before it match ancestors, the parent where the step is one to a child
abbrev pub ends_at : List Step → List Tag → Bool
ends_at [] path = false
ends_at (step ∷ before) [] = false
ends_at (step ∷ before) (tag ∷ above) =
    is_compound tag step.compound && is_tied step.combinator (ends_at before above) (any_from (ends_at before) above)

-- a chain ends before these steps
abbrev pub is_end : List Step → Bool
is_end [] = true
is_end (step ∷ steps) = begins step.combinator where
  begins : Combinator → Bool
  begins Begin = true
  begins Descendant = false
  begins Child = false

-- one of the chains that end among these steps matches, where those before them come last first
abbrev pub matches_behind : List Step → List Step → List Tag → Bool
matches_behind before [] path = false
matches_behind before (step ∷ steps) path =
    (is_end steps && ends_at (step ∷ before) path) || matches_behind (step ∷ before) steps path

-- one of the selector's chains matches the element at the front of a path
abbrev pub matches : List Step → List Tag → Bool
matches selector path = matches_behind [] selector path
