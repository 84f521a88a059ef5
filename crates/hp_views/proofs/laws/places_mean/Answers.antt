use Rattle.hp_views.specs.PlaceLaws.{place_placed}
use Rattle.hp_views.proofs.laws.places_mean.Goals as goal

pub returns : goal.returns
returns c = place_placed
