-- Finished elements put behind those of a tree.
use Rattle.std.specs.Prelude.{ℕ, ◌+◌, ◌++◌, map, length}
use Rattle.hp_control.specs.Tree.{Tree, Branch, Item, Element, Text, Comment, Doctype}

-- an item with this done to its id, where it is an element
abbrev pub renumbered_item : (ℕ → ℕ) → Item → Item
renumbered_item f (Element id) = Element (f id)
renumbered_item f (Text text) = Text text
renumbered_item f (Comment text) = Comment text
renumbered_item f (Doctype name public system) = Doctype name public system

-- a branch with this done to the ids of its children
abbrev pub renumbered : (ℕ → ℕ) → Branch → Branch
renumbered f b = record b { inside = map (renumbered_item f) b.inside }

-- the tree with a grove behind it: the grove's element of number k has the id `length t + k`
abbrev pub graft : Tree → Tree → Tree
graft t grove = t ++ map (renumbered (λ number. length t + number)) grove
