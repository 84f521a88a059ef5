-- Fragments and their parts.
use Rattle.hp_names.specs.BuiltIn.{built_in}
use Rattle.hp_pieces.specs.Fragments.{Known}
use Rattle.hp_pieces.specs.Guesses.{Guessed}
use Rattle.hp_pieces.specs.declared.exact_parts.ExactParts.{ExactParts}
use Rattle.hp_pieces.specs.declared.guessed_parts.GuessedParts.{GuessedParts}

-- the run of these parts
abbrev pub run_of : ExactParts → Known
run_of p = record { text = p.text.now; entry = p.states.value.entry; exit = p.states.value.exit; grove = p.grove; outer = p.outer }

-- the guess of these parts
abbrev pub guess_of : GuessedParts → Guessed
guess_of p = record { names = built_in; text = p.text.now; covered = p.covered; assumptions = p.assumptions; change = p.change.value; grove = p.grove; outer = p.outer; by = p.by }
