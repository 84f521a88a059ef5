use Rattle.std.proofs.Common.{refl}
use Rattle.hp_views.proofs.view.View.html_below.Goals as goal

pub returns : goal.returns
returns g c = record { runs = c.in_ok-older_html.ensures; same = refl }
