-- Selectors, and the elements that they match.
use Rattle.std.specs.Prelude.{◌≡◌, ℕ, List, [], ◌∷◌, Option, Some, None, codes, option_map}
use Rattle.hp_elements.specs.declared.sets.Namespace.TheVariants.{Html}
use Rattle.hp_elements.specs.declared.tag.Attribute.{Attribute}
use Rattle.hp_elements.specs.declared.tag.AttributeSpace.TheVariants.{Plain}
use Rattle.hp_control.specs.Tree.{Branch, Item, Tree}
use Rattle.hp_control.specs.Tree as item
use Rattle.hp_select.specs.declared.selector.Combinator.TheVariants.{Begin, Descendant, Child}
use Rattle.hp_select.specs.declared.selector.Simple.TheVariants as simple
use Rattle.hp_select.specs.Grammar.{selector_of}
use Rattle.hp_select.specs.Selected.{selected}

abbrev pub plain : List ℕ → List ℕ → Attribute
plain name value = record { space = Plain; name = name; value = value }

-- an HTML element with what stands inside it
abbrev pub element : List ℕ → List Attribute → List Item → Branch
element name attributes inside = record { tag = Some (record { namespace = Html; name = name; attributes = attributes }); inside = inside }

-- `<ul class="a b"><li id=x>1<li>2</ul><li>3`
abbrev pub lists : Tree
lists =
    record { tag = None; inside = item.Element 1 ∷ [] } ∷
    element (codes "html") [] (item.Element 2 ∷ item.Element 3 ∷ []) ∷
    element (codes "head") [] [] ∷
    element (codes "body") [] (item.Element 4 ∷ item.Element 7 ∷ []) ∷
    element (codes "ul") (plain (codes "class") (codes "a b") ∷ []) (item.Element 5 ∷ item.Element 6 ∷ []) ∷
    element (codes "li") (plain (codes "id") (codes "x") ∷ []) (item.Text (codes "1") ∷ []) ∷
    element (codes "li") [] (item.Text (codes "2") ∷ []) ∷
    element (codes "li") [] (item.Text (codes "3") ∷ []) ∷ []

-- `<div><template><b>`, and behind the template another `<b>`
abbrev pub contents : Tree
contents =
    record { tag = None; inside = item.Element 1 ∷ [] } ∷
    element (codes "div") [] (item.Element 2 ∷ item.Element 4 ∷ []) ∷
    element (codes "template") [] (item.Element 3 ∷ []) ∷
    element (codes "b") [] [] ∷
    element (codes "b") [] [] ∷ []

-- the ids of the elements that a text selects, where it is a selector
abbrev pub found : Tree → List ℕ → Option (List ℕ)
found t text = option_map (selected t) (selector_of text)

pub record Examples : Type 0 where
  pub parts : selector_of (codes "ul.b > [x=\"v\"]") ≡ Some (record { combinator = Begin; compound = simple.OfType (codes "ul") ∷ simple.Class (codes "b") ∷ [] }
      ∷ record { combinator = Child; compound = simple.Value (codes "x") (codes "v") ∷ [] } ∷ [])
  pub two_chains : selector_of (codes "a  *, #x[y]") ≡ Some (record { combinator = Begin; compound = simple.OfType (codes "a") ∷ [] }
      ∷ record { combinator = Descendant; compound = simple.Universal ∷ [] }
      ∷ record { combinator = Begin; compound = simple.Id (codes "x") ∷ simple.Attribute (codes "y") ∷ [] } ∷ [])
  pub no_end : selector_of (codes "ul >") ≡ None
  pub nothing : selector_of [] ≡ None
  pub space_in_front : selector_of (codes " ul") ≡ None
  pub space_in_brackets : selector_of (codes "[ x]") ≡ None
  pub children : found lists (codes "ul.b > li") ≡ Some (5 ∷ 6 ∷ [])
  pub each_once : found lists (codes "li, #x") ≡ Some (5 ∷ 6 ∷ 7 ∷ [])
  pub inside_body : found lists (codes "body LI") ≡ Some (5 ∷ 6 ∷ 7 ∷ [])
  pub no_grandchild : found lists (codes "body > li") ≡ Some (7 ∷ [])
  pub all_of_a_class : found lists (codes ".a, .bb") ≡ Some (4 ∷ [])
  pub in_contents : found contents (codes "b") ≡ Some (3 ∷ 4 ∷ [])
  pub no_ancestors_outside : found contents (codes "div b, template b") ≡ Some (4 ∷ [])
