-- Small lists of edits, with what is inner and outer in each by the words above. The page is `<div>`: the ids of
-- html, head, body and div are 1 to 4, the document's is 0, and own elements count from 5.
use Rattle.std.specs.Prelude.{◌≡◌, ℕ, List, [], ◌∷◌, ◌++◌, map}
use Rattle.hp_elements.specs.KnownNames as known
use Rattle.hp_elements.specs.declared.known.Known.{Known}
use Rattle.hp_control.specs.declared.edit.Child.TheVariants as child
use Rattle.hp_control.specs.declared.edit.Edit.{Edit}
use Rattle.hp_control.specs.declared.edit.Edit.TheVariants.{NewElement, Put, Detach, MoveChildren}
use Rattle.hp_control.specs.declared.edit.Place.TheVariants.{Into, Foster}
use Rattle.hp_control.specs.declared.edit.Ref.TheVariants.{Fixed, Older, Own}
use Rattle.hp_control.specs.Examples.{tag_of}
use Rattle.hp_control.specs.Tree.{Tree, Branch, Item, Element, Text, applied_all, document}
use Rattle.hp_groves.specs.Grafts.{graft}
use Rattle.hp_groves.specs.Naming.{own_grove, own_outer}
use Rattle.hp_groves.specs.Split.{grove_of, outer_of}

-- a new element put last into another
abbrev pub child_of : ℕ → ℕ → Known → List Edit
child_of parent id name = NewElement (tag_of name) ∷ Put (child.Element (Fixed id)) (Into (Fixed parent)) ∷ []

-- the text x put last into an element
abbrev pub text_in : ℕ → Edit
text_in parent = Put (child.Text (0x78 ∷ [])) (Into (Fixed parent))

-- the children of each element
abbrev pub children : Tree → List (List Item)
children t = map (λ (b : Branch). b.inside) t

-- `<div>`
abbrev pub page : Tree
page = applied_all document (child_of 0 1 known.Html ++ child_of 1 2 known.Head ++ child_of 1 3 known.Body ++ child_of 3 4 known.Div)

-- `<ul><li>x<li>x</ul>`
abbrev pub items : List Edit
items = child_of 4 5 known.Ul ++ child_of 5 6 known.Li ++ text_in 6 ∷ child_of 5 7 known.Li ++ text_in 7 ∷ []

-- `<div><b><p>x</b>`: the paragraph leaves the b, and a new b takes its children
abbrev pub adopted : List Edit
adopted =
    child_of 4 5 known.Div ++ child_of 5 6 known.B ++ child_of 6 7 known.P ++ text_in 7
    ∷ Put (child.Element (Fixed 7)) (Into (Fixed 5)) ∷ NewElement (tag_of known.B) ∷ MoveChildren (Fixed 7) (Fixed 8) ∷ Put (child.Element (Fixed 8)) (Into (Fixed 7)) ∷ []

-- `<div><table>x`
abbrev pub fostered : List Edit
fostered = child_of 4 5 known.Div ++ child_of 5 6 known.Table ++ Put (child.Text (0x78 ∷ [])) (Foster (Fixed 6) (Fixed 5)) ∷ []

-- an element put into an older one, taken out again and put into a new one
abbrev pub moved_on : List Edit
moved_on = child_of 4 5 known.P ++ Detach (Fixed 5) ∷ NewElement (tag_of known.B) ∷ Put (child.Element (Fixed 5)) (Into (Fixed 6)) ∷ text_in 6 ∷ text_in 5 ∷ []

-- `<ul><li>x<li>x</ul>` as a fragment tells it, which doesn't know what is below it but by depth
abbrev pub fragment : List Edit
fragment =
    NewElement (tag_of known.Ul) ∷ Put (child.Element (Own 0)) (Into (Older 0)) ∷ NewElement (tag_of known.Li) ∷ Put (child.Element (Own 1)) (Into (Own 0)) ∷ Put (child.Text (0x78 ∷ [])) (Into (Own 1))
    ∷ NewElement (tag_of known.Li) ∷ Put (child.Element (Own 2)) (Into (Own 0)) ∷ Put (child.Text (0x78 ∷ [])) (Into (Own 2)) ∷ []

pub record Examples : Type 0 where
  -- the list is finished by itself, and one edit puts it into the div
  pub items_outer : outer_of 5 items ≡ Put (child.Element (Fixed 5)) (Into (Fixed 4)) ∷ []
  pub items_grove : children (grove_of 5 items) ≡ (Element 1 ∷ Element 2 ∷ []) ∷ (Text (0x78 ∷ []) ∷ []) ∷ (Text (0x78 ∷ []) ∷ []) ∷ []
  pub items_made : children (applied_all (graft page (grove_of 5 items)) (outer_of 5 items)) ≡ (Element 1 ∷ []) ∷ (Element 2 ∷ Element 3 ∷ []) ∷ [] ∷ (Element 4 ∷ []) ∷ (Element 5 ∷ []) ∷ (Element 6 ∷ Element 7 ∷ []) ∷ (Text (0x78 ∷ []) ∷ []) ∷ (Text (0x78 ∷ []) ∷ []) ∷ []
  -- an adoption among own elements is inner
  pub adopted_outer : outer_of 5 adopted ≡ Put (child.Element (Fixed 5)) (Into (Fixed 4)) ∷ []
  pub adopted_grove : children (grove_of 5 adopted) ≡ (Element 1 ∷ Element 2 ∷ []) ∷ [] ∷ (Element 3 ∷ []) ∷ (Text (0x78 ∷ []) ∷ []) ∷ []
  -- so is a text before an own table; before an older one it is outer
  pub fostered_outer : outer_of 5 fostered ≡ Put (child.Element (Fixed 5)) (Into (Fixed 4)) ∷ []
  pub fostered_grove : children (grove_of 5 fostered) ≡ (Text (0x78 ∷ []) ∷ Element 1 ∷ []) ∷ [] ∷ []
  pub before_older : outer_of 5 (Put (child.Text (0x78 ∷ [])) (Foster (Fixed 4) (Fixed 3)) ∷ []) ≡ Put (child.Text (0x78 ∷ [])) (Foster (Fixed 4) (Fixed 3)) ∷ []
  -- what an outer edit touched stays with outer edits, but for the children of the element that moves
  pub moved_on_outer : outer_of 5 moved_on ≡ Put (child.Element (Fixed 5)) (Into (Fixed 4)) ∷ Detach (Fixed 5) ∷ Put (child.Element (Fixed 5)) (Into (Fixed 6)) ∷ text_in 6 ∷ []
  pub moved_on_grove : children (grove_of 5 moved_on) ≡ (Text (0x78 ∷ []) ∷ []) ∷ [] ∷ []
  -- by itself the fragment splits as it does over the page's state
  pub fragment_outer : own_outer fragment ≡ Put (child.Element (Own 0)) (Into (Older 0)) ∷ []
  pub fragment_grove : own_grove fragment ≡ grove_of 5 items
