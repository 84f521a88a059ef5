-- What each fragment is: a run, or sound, by the built-in names.
use Rattle.std.specs.Prelude.{◌≡◌}
use Rattle.hp_names.specs.BuiltIn.{built_in}
use Rattle.hp_pieces.specs.Fragments.{IsRun}
use Rattle.hp_pieces.specs.Guesses.{IsSound}
use Rattle.hp_pieces.specs.declared.fragment.Fragment.{Fragment}
use Rattle.hp_pieces.specs.declared.fragment.Fragment.TheVariants.{Exact, Guessed}

abbrev pub IsSoundFragment : Fragment → Type 0
IsSoundFragment (Exact known) = IsRun known
IsSoundFragment (Guessed f) = IsSound f × (f.names ≡ built_in)
