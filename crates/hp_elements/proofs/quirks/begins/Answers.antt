use Rattle.std.proofs.Common.{ap, ◌∙◌}
use Rattle.std.specs.Str.{chars}
use Rattle.hp_elements.proofs.QuirksLemmas.{begins_is, begins_not}
use Rattle.hp_elements.proofs.quirks.begins.Goals as goal

pub returns-then-bytes-front : goal.returns-then-bytes-front
returns-then-bytes-front c =
    begins_not c.as_bytes-bytes.result.now c.args.text.now c.args.front.now c.as_bytes-bytes.ensures.utf8 (ap chars c.as_bytes-bytes.ensures.value ∙ c.as_str.ensures) c.if-bytes-front.true

pub returns : goal.returns
returns c =
    begins_is c.lowers_to.result c.as_bytes-bytes.result.now c.args.text.now c.as_bytes.result.now c.args.front.now c.as_bytes-bytes.ensures.utf8
    (ap chars c.as_bytes-bytes.ensures.value ∙ c.as_str.ensures) c.as_bytes.ensures.value c.lowers_to.ensures
