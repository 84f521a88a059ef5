use Rattle.std.proofs.Common.{◌∙◌}
use Rattle.hp_foreign.specs.Fonts.{font_alike}
use Rattle.hp_foreign.proofs.attributes.has_font_attribute.Goals as goal

pub returns : goal.returns
returns c = c.has_any.ensures ∙ font_alike c.args.tag.now.attributes
