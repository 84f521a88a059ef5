-- What contracts see of a tree.
use Rattle.std.specs.Prelude.{ℕ, List}
use Rattle.hp_control.specs.Tree.{Tree}
use Rattle.hp_store.specs.declared.node.Kind.{Kind}

-- by what an item in a list of children is found again: its node, the one after it, and what it is
pub record Placed : Type 0 where
  pub node : ℕ
  pub next : ℕ
  pub kind : Kind

-- what contracts see of a `Tree`: its branches, how much more room there is for edits, and by what each item in a list of
-- children is found again, branch by branch and in the same order
pub record Seen : Type 0 where
  pub branches : Tree
  pub spare : ℕ
  pub order : List (List Placed)
