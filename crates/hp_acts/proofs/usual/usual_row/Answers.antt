use Rattle.std.proofs.Common.{◌∙◌, refl, sym}
use Rattle.hp_views.specs.View.{split_of}
use Rattle.hp_acts.proofs.UsualRuns.{usual_there}
use Rattle.hp_acts.proofs.usual.usual_row.Goals as goal

pub returns : goal.returns
returns g c = usual_there (split_of c.args.view.now) c.args.view.now.change.mode c.args.token.now c.usual_in_mode.result (sym c.is_in_html.ensures ∙ c.if-not-is_in_html.false) refl c.usual_in_mode.ensures
