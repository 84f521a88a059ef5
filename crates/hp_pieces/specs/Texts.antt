-- The text of a fragment, how much of it the fragment covers, and the state from which it is exact.
use Rattle.std.specs.Prelude.{◌≡◌, ℕ, List, length}
use Rattle.hp_control.specs.States.{ControlState}
use Rattle.hp_pieces.specs.declared.fragment.Fragment.{Fragment}
use Rattle.hp_pieces.specs.declared.fragment.Fragment.TheVariants.{Exact, Guessed}

abbrev pub text_of : Fragment → List ℕ
text_of (Exact known) = known.text
text_of (Guessed f) = f.text

abbrev pub covered_of : Fragment → ℕ
covered_of (Exact known) = length known.text
covered_of (Guessed f) = f.covered

-- it is exact, and this is the state before it
abbrev pub IsExactFrom : ControlState → Fragment → Type 0
IsExactFrom entry (Exact known) = known.entry ≡ entry
IsExactFrom entry (Guessed f) = ⊥
