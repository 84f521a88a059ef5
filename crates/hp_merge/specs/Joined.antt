-- What a fragment makes of the front.
use Rattle.hp_control.specs.States.{ControlState}
use Rattle.hp_control.specs.Tree.{Tree}
use Rattle.hp_pieces.specs.Growth.{grown_tree}
use Rattle.hp_pieces.specs.Guesses.{state_behind, tree_behind}
use Rattle.hp_pieces.specs.declared.fragment.Fragment.{Fragment}
use Rattle.hp_pieces.specs.declared.fragment.Fragment.TheVariants.{Exact, Guessed}
use Rattle.hp_merge.specs.Fore.{Fore}

-- the state behind what it covers
abbrev pub exit_over : ControlState → Fragment → ControlState
exit_over s (Exact known) = known.exit
exit_over s (Guessed f) = state_behind f s

-- what it makes of the tree of this state
abbrev pub tree_over : ControlState → Fragment → Tree → Tree
tree_over s (Exact known) t = grown_tree known.grove known.outer s t
tree_over s (Guessed f) t = tree_behind f s t

abbrev pub joined : Fore → Fragment → Fore
joined f fragment = record { control = exit_over f.control fragment; tree = tree_over f.control fragment f.tree }
