use Rattle.std.proofs.Common.{refl}
use Rattle.hp_fragment.proofs.Guesses.{nothing-sound}
use Rattle.hp_fragment.proofs.speculating.cover_nothing.Goals as goal

pub grown_guess-requires : goal.grown_guess-requires
grown_guess-requires g c = record { sound = λ grove outer comes. nothing-sound _ c.utf8.text refl }
