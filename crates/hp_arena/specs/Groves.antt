-- Elements that were made by themselves.
use Rattle.std.specs.Prelude.{◌≡◌, ◌-◌, drop, length, ◌<◌, map}
use Rattle.hp_control.specs.Tree.{Tree, branch, no_branch}
use Rattle.hp_groves.specs.Grafts.{renumbered}

-- the elements behind the document, counted from 0
abbrev pub behind_document : Tree → Tree
behind_document t = map (renumbered (λ id. id - 1)) (drop 1 t)

-- there is a document, and nothing stands in it
pub record IsBlank (t : Tree) : Type 0 where
  pub there : 0 < length t
  pub blank : branch t 0 ≡ no_branch
