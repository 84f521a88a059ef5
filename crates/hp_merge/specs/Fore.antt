-- What callers see of the front.
use Rattle.hp_control.specs.States.{ControlState}
use Rattle.hp_control.specs.Tree.{Tree}

-- the state and the tree behind the text that was joined
pub record Fore : Type 0 where
  pub control : ControlState
  pub tree : Tree
