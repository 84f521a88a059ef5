-- A document tree, and what the edits make of it.
use Rattle.std.specs.Prelude.{◌≡◌, ℕ, ◌<◌, ◌==◌, ◌&&◌, Bool, false, not, if◌then◌else◌, List, [], ◌∷◌, ◌++◌, length, map, filter, slice_set, slice_get, slice_index_or, Option, Some, None, nat_lt, bytes_eq}
use Rattle.std.specs.List.{list_any}
use Rattle.std.specs.Option.{unwrap_or}
use Rattle.hp_elements.specs.declared.tag.Attribute.{Attribute}
use Rattle.hp_elements.specs.declared.tag.Tag.{Tag}
use Rattle.hp_elements.specs.declared.token.DoctypeParts.{DoctypeParts}
use Rattle.hp_control.specs.declared.edit.Child.{Child}
use Rattle.hp_control.specs.declared.edit.Child.TheVariants as child
use Rattle.hp_control.specs.declared.edit.Place.{Place}
use Rattle.hp_control.specs.declared.edit.Place.TheVariants.{Into, Foster}
use Rattle.hp_control.specs.declared.edit.Edit.{Edit}
use Rattle.hp_control.specs.declared.edit.Edit.TheVariants.{NewElement, Put, Detach, MoveChildren, AddMissing}
use Rattle.hp_control.specs.declared.edit.Ref.{Ref}
use Rattle.hp_control.specs.declared.edit.Ref.TheVariants.{Fixed, Older, Own}

-- what stands in a list of children; texts are code points
pub data Item : Type 0 where
  Element : ℕ → Item
  Text : List ℕ → Item
  Comment : List ℕ → Item
  Doctype : List ℕ → Option (List ℕ) → Option (List ℕ) → Item

-- an element with what stands inside it: its children, or the contents if it is a template. The document has no tag
pub record Branch : Type 0 where
  pub tag : Option Tag
  pub inside : List Item

-- the branches by their ids, which count the elements in the order in which they were made. The document is 0
abbrev pub Tree : Type 0
Tree = List Branch

-- what stands at an absent id
abbrev pub no_branch : Branch
no_branch = record { tag = None; inside = [] }

abbrev pub branch : Tree → ℕ → Branch
branch t id = slice_index_or t id no_branch

-- the document alone
abbrev pub document : Tree
document = no_branch ∷ []

abbrev pub is_element : ℕ → Item → Bool
is_element id (Element other) = other == id
is_element id (Text text) = false
is_element id (Comment text) = false
is_element id (Doctype name public system) = false

-- two neighbours: a text joins a text before it
abbrev pub beside : Item → Item → List Item
beside (Text a) (Text b) = Text (a ++ b) ∷ []
beside a b = a ∷ b ∷ []

-- the items with one more at their end
abbrev pub put_last : List Item → Item → List Item
put_last [] item = item ∷ []
put_last (x ∷ []) item = beside x item
put_last (x ∷ y ∷ rest) item = x ∷ put_last (y ∷ rest) item

-- the items with one more directly before the element of this id, where that is among them
abbrev pub put_before : ℕ → List Item → Item → List Item
put_before id [] item = []
put_before id (x ∷ []) item = if is_element id x then item ∷ x ∷ [] else x ∷ []
put_before id (x ∷ y ∷ rest) item =
    if is_element id x then item ∷ x ∷ y ∷ rest
    else (if is_element id y then beside x item ++ y ∷ rest else x ∷ put_before id (y ∷ rest) item)

-- the branch with this done to what stands inside it
abbrev pub with_inside : (List Item → List Item) → Branch → Branch
with_inside change b = record b { inside = change b.inside }

-- the tree with this done to each list of children
abbrev pub in_each : (List Item → List Item) → Tree → Tree
in_each change t = map (with_inside change) t

-- the tree with this done to the children of one element
abbrev pub in_one : (List Item → List Item) → Tree → ℕ → Tree
in_one change t id = slice_set t id (with_inside change (branch t id))

-- the tree with the element outside every list
abbrev pub detached : Tree → ℕ → Tree
detached t id = in_each (filter (λ item. not (is_element id item))) t

-- the element stands in the list of children of this parent
abbrev pub stands_in : Tree → ℕ → ℕ → Bool
stands_in t parent id = list_any (is_element id) (branch t parent).inside

-- the element stands in a list of children
abbrev pub has_parent : Tree → ℕ → Bool
has_parent t id = list_any (λ b. list_any (is_element id) b.inside) t

-- the tree with the item last among the children of an element
abbrev pub put_into : Tree → Item → ℕ → Tree
put_into t item parent = in_one (λ items. put_last items item) t parent

-- the id that is meant. Where none is told, the edit does nothing, by the next definition
abbrev pub id_of : Ref → ℕ
id_of (Fixed id) = id
id_of (Older depth) = 0
id_of (Own number) = 0

-- an element of this id is there
abbrev pub is_there : Tree → Ref → Bool
is_there t (Fixed id) = nat_lt id (length t)
is_there t (Older depth) = false
is_there t (Own number) = false

-- all that a place names is there
abbrev pub is_place : Tree → Place → Bool
is_place t (Into parent) = is_there t parent
is_place t (Foster table above) = is_there t table && is_there t above

-- an element that may be a child: it is there and isn't the document
abbrev pub may_be_child : Tree → Ref → Bool
may_be_child t node = is_there t node && not (id_of node == 0)

-- the tree with the item at the place
abbrev pub put : Tree → Item → Place → Tree
put t item (Into parent) = put_into t item (id_of parent)
put t item (Foster table above) =
    if has_parent t (id_of table)
    then in_each (λ items. put_before (id_of table) items item) t
    else put_into t item (id_of above)

-- the parent at the place is the document
abbrev pub leads_into_document : Tree → Place → Bool
leads_into_document t (Into parent) = id_of parent == 0
leads_into_document t (Foster table above) =
    if has_parent t (id_of table) then stands_in t 0 (id_of table) else id_of above == 0

-- a doctype among children; a name that is missing is the empty text
abbrev pub item_of_doctype : DoctypeParts → Item
item_of_doctype parts = Doctype (unwrap_or parts.name []) parts.public parts.system

-- the tree with a child at a place that is there. The document has no text among its children
abbrev pub put_child : Tree → Child → Place → Tree
put_child t (child.Element node) place =
    if may_be_child t node then put (detached t (id_of node)) (Element (id_of node)) place else t
put_child t (child.Text text) place = if leads_into_document t place then t else put t (Text text) place
put_child t (child.Comment text) place = put t (Comment text) place
put_child t (child.Doctype parts) place = put t (item_of_doctype parts) place

abbrev pub has_name : List Attribute → Attribute → Bool
has_name attributes one = list_any (λ a. bytes_eq a.name one.name) attributes

-- the attributes with each further one whose name isn't there yet, one after the other
abbrev pub with_missing : List Attribute → List Attribute → List Attribute
with_missing attributes [] = attributes
with_missing attributes (one ∷ more) = with_missing (if has_name attributes one then attributes else attributes ++ one ∷ []) more

abbrev pub with_attributes : Option Tag → List Attribute → Option Tag
with_attributes None more = None
with_attributes (Some tag) more = Some (record tag { attributes = with_missing tag.attributes more })

-- the tree with this tag at one element
abbrev pub with_tag : Tree → ℕ → Option Tag → Tree
with_tag t id tag = slice_set t id (record { tag = tag; inside = (branch t id).inside })

-- the tree with all children of one element appended to those of another
abbrev pub children_moved : Tree → ℕ → ℕ → Tree
children_moved t from to = in_one (λ _. []) (in_one (λ items. items ++ (branch t from).inside) t to) from

-- the tree after an edit. An edit that names what isn't there, or the document as a child, does nothing
abbrev pub applied : Tree → Edit → Tree
applied t (NewElement tag) = t ++ record { tag = Some tag; inside = [] } ∷ []
applied t (Put c place) = if is_place t place then put_child t c place else t
applied t (Detach node) = if may_be_child t node then detached t (id_of node) else t
applied t (MoveChildren from to) =
    if is_there t from && is_there t to && not (id_of from == id_of to)
    then children_moved t (id_of from) (id_of to)
    else t
applied t (AddMissing node more) =
    if is_there t node
    then with_tag t (id_of node) (with_attributes (branch t (id_of node)).tag more)
    else t

-- the tree after edits, one after the other
abbrev pub applied_all : Tree → List Edit → Tree
applied_all t [] = t
applied_all t (edit ∷ edits) = applied_all (applied t edit) edits

-- the element stands at this place in the list of the parent
abbrev pub HasChild : Tree → ℕ → ℕ → ℕ → Type 0
HasChild t parent place child = slice_get (branch t parent).inside place ≡ Some (Element child)

-- each child is there, has one parent and one place in it, and the document is no child
pub record IsForest (t : Tree) : Type 0 where
  pub document : 0 < length t
  pub there : (parent place child : ℕ) → HasChild t parent place child → child < length t
  pub below : (parent place child : ℕ) → HasChild t parent place child → 0 < child
  pub one_parent : (p q i j child : ℕ) → HasChild t p i child → HasChild t q j child → p ≡ q
