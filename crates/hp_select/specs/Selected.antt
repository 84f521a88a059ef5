-- The elements of a tree that a selector matches.
use Rattle.std.specs.Prelude.{ℕ, zero, suc, List, [], ◌∷◌, ◌++◌, length, map, filter, Option, None, Some, if◌then◌else◌}
use Rattle.hp_elements.specs.declared.tag.Tag.{Tag}
use Rattle.hp_control.specs.Tree.{Tree, Item, branch}
use Rattle.hp_control.specs.Tree as item
use Rattle.hp_arena.specs.Readers.{is_template}
use Rattle.hp_select.specs.declared.selector.Step.{Step}
use Rattle.hp_select.specs.Matching.{matches}

-- an element, with its tag and those of its ancestors, from the parent up
pub record Placed : Type 0 where
  pub id : ℕ
  pub path : List Tag

abbrev pub placed : ℕ → List Tag → Option Tag → List Placed
placed id above None = []
placed id above (Some tag) = record { id = id; path = tag ∷ above } ∷ []

-- an item that is an element
abbrev pub own : Tree → List Tag → Item → List Placed
own t above (item.Element id) = placed id above (branch t id).tag
own t above (item.Text text) = []
own t above (item.Comment text) = []
own t above (item.Doctype name public system) = []

-- the ancestors of what stands inside an element with this tag: what stands in a template has none outside
abbrev pub path_inside : List Tag → Option Tag → List Tag
path_inside above None = above
path_inside above (Some tag) = if is_template tag then [] else tag ∷ above

abbrev pub above_inside : Tree → List Tag → Item → List Tag
above_inside t above (item.Element id) = path_inside above (branch t id).tag
above_inside t above (item.Text text) = above
above_inside t above (item.Comment text) = above
above_inside t above (item.Doctype name public system) = above

-- what stands inside an item: the children, or the contents of a template
abbrev pub inside : Tree → Item → List Item
inside t (item.Element id) = (branch t id).inside
inside t (item.Text text) = []
inside t (item.Comment text) = []
inside t (item.Doctype name public system) = []

-- the elements among these items and below, each before those inside it, where no way down has more than `left` lists of items
unfoldable pub elements_in : Tree → ℕ → List Tag → List Item → List Placed
elements_in t zero above items = []
elements_in t (suc left) above [] = []
elements_in t (suc left) above (item ∷ items) =
    own t above item ++ elements_in t left (above_inside t above item) (inside t item) ++ elements_in t (suc left) above items

-- the elements of the tree: no way down from the document has more lists of items than there are
abbrev pub elements : Tree → List Placed
elements t = elements_in t (length t) [] (branch t 0).inside

-- those that a selector matches, in tree order
abbrev pub selected : Tree → List Step → List ℕ
selected t selector = map (λ (e : Placed). e.id) (filter (λ (e : Placed). matches selector e.path) (elements t))
