use Rattle.hp_growing.proofs.Places.{ends-have_there, places-count, runs-count, trees-have_there}
use Rattle.hp_growing.proofs.trees_are_counted.Goals as goal

pub returns : goal.returns
returns c = record { runs = runs-count; ends = ends-have_there; places = places-count; pages = trees-have_there }
