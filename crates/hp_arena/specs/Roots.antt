-- Which elements may stand among the children of the document.
use Rattle.std.specs.Prelude.{◌≡◌, ℕ, ◌==◌, ◌||◌, Bool, true, false, not, if◌then◌else◌}
use Rattle.hp_control.specs.Tree.{Tree, stands_in, id_of}
use Rattle.hp_control.specs.declared.edit.Child.TheVariants as child
use Rattle.hp_control.specs.declared.edit.Place.{Place}
use Rattle.hp_control.specs.declared.edit.Place.TheVariants.{Into, Foster}
use Rattle.hp_control.specs.declared.edit.Edit.{Edit}
use Rattle.hp_control.specs.declared.edit.Edit.TheVariants.{NewElement, Put, Detach, MoveChildren, AddMissing}
use Rattle.hp_arena.specs.declared.roots.Roots.{Roots}
use Rattle.hp_arena.specs.declared.roots.Roots.TheVariants as roots

-- the table before which a child goes is a child of the document
abbrev pub is_root_table : Tree → Place → Bool
is_root_table t (Into parent) = false
is_root_table t (Foster table above) = stands_in t 0 (id_of table)

abbrev pub has_root_table : Tree → Edit → Bool
has_root_table t (NewElement tag) = false
has_root_table t (Put c place) = is_root_table t place
has_root_table t (Detach node) = false
has_root_table t (MoveChildren from to) = false
has_root_table t (AddMissing node more) = false

abbrev pub may_be_root : Roots → ℕ → Bool
may_be_root roots.None id = false
may_be_root (roots.Only root) id = root == id
may_be_root roots.Any id = true

-- one more that may stand there
abbrev pub with_root : Roots → ℕ → Roots
with_root roots.None id = roots.Only id
with_root (roots.Only root) id = if root == id then roots.Only root else roots.Any
with_root roots.Any id = roots.Any

-- a child at this place may be a child of the document
abbrev pub may_lead : Roots → Place → Bool
may_lead r (Into parent) = id_of parent == 0
may_lead r (Foster table above) = may_be_root r (id_of table) || id_of above == 0

abbrev pub roots_after : Roots → Edit → Roots
roots_after r (NewElement tag) = r
roots_after r (Put (child.Element node) place) = if may_lead r place then with_root r (id_of node) else r
roots_after r (Put (child.Text text) place) = r
roots_after r (Put (child.Comment text) place) = r
roots_after r (Put (child.Doctype parts) place) = r
roots_after r (Detach node) = r
roots_after r (MoveChildren from to) = if id_of to == 0 then roots.Any else r
roots_after r (AddMissing node more) = r

-- the table of the edit, if any, is none of them
abbrev pub is_apart : Roots → Edit → Bool
is_apart r (NewElement tag) = true
is_apart r (Put c (Into parent)) = true
is_apart r (Put c (Foster table above)) = not (may_be_root r (id_of table))
is_apart r (Detach node) = true
is_apart r (MoveChildren from to) = true
is_apart r (AddMissing node more) = true

-- each child of the document is one of them
abbrev pub AreRoots : Roots → Tree → Type 0
AreRoots r t = (id : ℕ) → stands_in t 0 id ≡ true → may_be_root r id ≡ true
