use Rattle.std.proofs.Common.{ap, ◌∙◌}
use Rattle.std.specs.Prelude.{◌&&◌, bytes_eq}
use Rattle.hp_select.specs.Matching.{is_plain}
use Rattle.hp_select.proofs.Texts.{chars-id}
use Rattle.hp_select.proofs.matching.is_id.Goals as goal

pub returns : goal.returns
returns c = c.has_text.ensures ∙ ap (λ name. is_plain c.args.attribute.now.space && bytes_eq c.args.attribute.now.name name) chars-id
