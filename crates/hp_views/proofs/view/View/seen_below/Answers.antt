use Rattle.std.proofs.Common.{refl}
use Rattle.hp_views.proofs.view.View.seen_below.Goals as goal

pub returns : goal.returns
returns g c = record { runs = c.in_ok-older_seen.ensures; same = refl }
