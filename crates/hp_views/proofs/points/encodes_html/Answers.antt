use Rattle.std.proofs.Common.{◌∙◌}
use Rattle.hp_views.specs.Encodings.{encodings_alike}
use Rattle.hp_views.proofs.points.encodes_html.Goals as goal

pub returns : goal.returns
returns c = c.any_encodes.ensures ∙ encodings_alike c.args.attributes.now
