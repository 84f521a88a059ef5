-- What the readers of a tree show.
use Rattle.std.specs.Prelude.{◌≡◌, ℕ, Bool, true, false, ◌&&◌, if◌then◌else◌, List, [], Option, None, Some, codes, bytes_eq, slice_get, slice_index_or, unwrap_or}
use Rattle.std.specs.Option.{option_copied}
use Rattle.std.specs.List.{concat}
use Rattle.hp_elements.specs.declared.sets.Namespace.{Namespace}
use Rattle.hp_elements.specs.declared.sets.Namespace.TheVariants.{Html, Svg, MathMl}
use Rattle.hp_elements.specs.declared.tag.Tag.{Tag}
use Rattle.hp_control.specs.Tree.{Item, Tree, branch}
use Rattle.hp_control.specs.Tree as item
use Rattle.hp_store.specs.declared.node.Node.{Node}
use Rattle.hp_arena.specs.Arena.{Seen}
use Rattle.hp_arena.specs.Nodes.{stops}
use Rattle.hp_arena.specs.Shape.{placed}
use Rattle.hp_arena.specs.declared.readers.At.{At}
use Rattle.hp_arena.specs.declared.readers.At.TheVariants as at
use Rattle.hp_arena.specs.declared.readers.Spot.{Spot}
use Rattle.hp_arena.specs.declared.readers.Runs.{Runs}
use Rattle.hp_arena.specs.declared.readers.Runs.TheVariants.{One, Several}
use Rattle.hp_arena.specs.declared.readers.NodeView.{NodeView}
use Rattle.hp_arena.specs.declared.readers.NodeView.TheVariants.{Document, Contents, Doctype, Element, Text, Comment}

-- an HTML element `template`, whose contents stand inside it
abbrev pub is_template : Tag → Bool
is_template tag = is_html tag.namespace && bytes_eq tag.name (codes "template") where
  is_html : Namespace → Bool
  is_html Html = true
  is_html Svg = false
  is_html MathMl = false

abbrev pub is_template_tag : Option Tag → Bool
is_template_tag None = false
is_template_tag (Some tag) = is_template tag

-- what stands inside the element of this id are its contents, and it has no children
abbrev pub has_contents : Tree → ℕ → Bool
has_contents t id = is_template_tag (branch t id).tag

-- the node stands at its place in the list of its parent, before the next one
abbrev pub IsSpot : Seen → Spot → Type 0
IsSpot t spot = slice_get (slice_index_or t.order spot.parent []) spot.place ≡ Some (record { node = spot.node; next = spot.next; kind = spot.kind })

-- the spot is that of a node which is no end, at this place of the list of this element
pub record IsSpotOf (nodes : List Node) (parent place node : ℕ) (spot : Spot) : Type 0 where
  pub parent_is : spot.parent ≡ parent
  pub place_is : spot.place ≡ place
  pub inner : stops nodes node ≡ false
  pub placed_is : record { node = spot.node; next = spot.next; kind = spot.kind } ≡ placed nodes node

-- it is in the tree: the document, an item in a list of children, or the contents of a template
abbrev pub IsAt : Seen → At → Type 0
IsAt t at.Document = Unit {0}
IsAt t (at.Child spot) = IsSpot t spot
IsAt t (at.Contents id) = has_contents t.branches id ≡ true

-- it is the item at this place in the list of children of this element
abbrev pub IsIn : Seen → ℕ → ℕ → At → Type 0
IsIn t parent place at.Document = ⊥
IsIn t parent place (at.Child spot) = (spot.parent ≡ parent) × ((spot.place ≡ place) × IsSpot t spot)
IsIn t parent place (at.Contents id) = ⊥

-- the element in whose list of children it stands, where it stands in one
abbrev pub parent_of : At → ℕ
parent_of at.Document = 0
parent_of (at.Child spot) = spot.parent
parent_of (at.Contents id) = 0

-- and at which place
abbrev pub place_of : At → ℕ
place_of at.Document = 0
place_of (at.Child spot) = spot.place
place_of (at.Contents id) = 0

-- the list of children that it stands in
abbrev pub siblings : Tree → At → List Item
siblings t at.Document = []
siblings t (at.Child spot) = (branch t spot.parent).inside
siblings t (at.Contents id) = []

-- the element whose list a reader comes to below an item. A template has no children, since all goes into its contents
abbrev pub list_below : Tree → Option Item → Option ℕ
list_below t None = None
list_below t (Some (item.Element id)) = if has_contents t id then None else Some id
list_below t (Some (item.Text text)) = None
list_below t (Some (item.Comment text)) = None
list_below t (Some (item.Doctype name public system)) = None

abbrev pub list_of : Tree → At → Option ℕ
list_of t at.Document = Some 0
list_of t (at.Child spot) = list_below t (slice_get (branch t spot.parent).inside spot.place)
list_of t (at.Contents id) = Some id

-- the items of that list
abbrev pub items_in_list : Tree → Option ℕ → List Item
items_in_list t None = []
items_in_list t (Some id) = (branch t id).inside

abbrev pub children : Tree → At → List Item
children t a = items_in_list t (list_of t a)

-- it is the first of the children
abbrev pub IsFirstChild : Seen → At → At → Type 0
IsFirstChild t a first = (id : ℕ) × ((list_of t.branches a ≡ Some id) × IsIn t id 0 first)

-- the element that an item is
abbrev pub element_of : Option Item → Option ℕ
element_of None = None
element_of (Some (item.Element id)) = Some id
element_of (Some (item.Text text)) = None
element_of (Some (item.Comment text)) = None
element_of (Some (item.Doctype name public system)) = None

-- the element that stands there among the children of another
abbrev pub element_at : Tree → At → Option ℕ
element_at t at.Document = None
element_at t (at.Child spot) = element_of (slice_get (branch t spot.parent).inside spot.place)
element_at t (at.Contents id) = None

-- it is the first of what stands inside the element there
abbrev pub IsFirstBelow : Seen → At → At → Type 0
IsFirstBelow t a first = (id : ℕ) × ((element_at t.branches a ≡ Some id) × IsIn t id 0 first)

-- the contents of an item
abbrev pub contents_below : Tree → Option Item → Option At
contents_below t None = None
contents_below t (Some (item.Element id)) = if has_contents t id then Some (at.Contents id) else None
contents_below t (Some (item.Text text)) = None
contents_below t (Some (item.Comment text)) = None
contents_below t (Some (item.Doctype name public system)) = None

abbrev pub contents_of : Tree → At → Option At
contents_of t at.Document = None
contents_of t (at.Child spot) = contents_below t (slice_get (branch t spot.parent).inside spot.place)
contents_of t (at.Contents id) = None

-- the text of runs: these one after the other
abbrev pub text_of : Runs → List ℕ
text_of (One run) = run.now
text_of (Several runs) = concat runs.now

-- the item that a view shows
abbrev pub shown : NodeView → Option Item
shown Document = None
shown Contents = None
shown (Doctype name public system) = Some (item.Doctype (unwrap_or (option_copied name) []) (option_copied public) (option_copied system))
shown (Element id tag) = Some (item.Element id)
shown (Text runs) = Some (item.Text (text_of runs))
shown (Comment text) = Some (item.Comment text.now)

abbrev pub is_item : NodeView → Bool
is_item Document = false
is_item Contents = false
is_item (Doctype name public system) = true
is_item (Element id tag) = true
is_item (Text runs) = true
is_item (Comment text) = true

-- the view shows what stands there
abbrev pub IsShown : Tree → At → NodeView → Type 0
IsShown t at.Document view = view ≡ Document
IsShown t (at.Child spot) view = (slice_get (branch t spot.parent).inside spot.place ≡ shown view) × (is_item view ≡ true)
IsShown t (at.Contents id) view = view ≡ Contents

-- an element's tag is that of its branch
abbrev pub HasTag : Tree → NodeView → Type 0
HasTag t Document = Unit {0}
HasTag t Contents = Unit {0}
HasTag t (Doctype name public system) = Unit {0}
HasTag t (Element id tag) = (branch t id).tag ≡ Some tag.now
HasTag t (Text runs) = Unit {0}
HasTag t (Comment text) = Unit {0}
