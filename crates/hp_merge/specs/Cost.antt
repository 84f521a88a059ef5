-- How many steps a fragment costs at most: each look at an answer, each entry that is put on top and each edit that is made is one.
use Rattle.std.specs.Prelude.{ℕ, ◌+◌, length}
use Rattle.hp_pieces.specs.declared.fragment.Fragment.{Fragment}
use Rattle.hp_pieces.specs.declared.fragment.Fragment.TheVariants.{Exact, Guessed}

-- its check: the answers that it assumes
abbrev pub check_cost : Fragment → ℕ
check_cost (Exact known) = 0
check_cost (Guessed f) = length f.assumptions

-- its join: the edits that reach older elements, and of a guess the own entries of stack and list that it keeps
abbrev pub join_cost : Fragment → ℕ
join_cost (Exact known) = length known.outer
join_cost (Guessed f) = length f.outer + (length f.change.stack + length f.change.formatting)

-- both
abbrev pub cost_of : Fragment → ℕ
cost_of fragment = check_cost fragment + join_cost fragment
