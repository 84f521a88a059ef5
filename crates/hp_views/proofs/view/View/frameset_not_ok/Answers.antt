use Rattle.hp_views.proofs.AtOnce.{gives_at_once}
use Rattle.hp_views.proofs.view.View.frameset_not_ok.Goals as goal

pub returns : goal.returns
returns g c = gives_at_once (g.B.Below.heard c.args.self.now.below) _
