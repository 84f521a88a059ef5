use Rattle.std.proofs.Common.{◌∙◌}
use Rattle.hp_tokens.proofs.Fronts.{front-is}
use Rattle.hp_tokens.proofs.cursor.Cursor.front.Goals as goal

pub returns : goal.returns
returns c = front-is c.rest.result.now c.args.self.now.text c.copied.result c.rest.ensures.utf8 c.rest.ensures.chars (c.copied.ensures ∙ c.first.ensures.value)
