use Rattle.hp_growing.proofs.Below.{first-is_below}
use Rattle.hp_growing.proofs.Guesses.{guess-builds}
use Rattle.hp_growing.proofs.Known.{grown-builds, run-grows}
use Rattle.hp_growing.proofs.guesses_grow.Goals as goal

pub returns : goal.returns
returns c = record { builds = guess-builds; below = first-is_below; grown = grown-builds; run = run-grows }
