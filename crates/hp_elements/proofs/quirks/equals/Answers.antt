use Rattle.std.proofs.Common.{ap, ◌∙◌}
use Rattle.std.specs.Str.{chars}
use Rattle.hp_elements.proofs.QuirksLemmas.{equals_is}
use Rattle.hp_elements.proofs.quirks.equals.Goals as goal

pub returns : goal.returns
returns c =
    equals_is c.lowers_to.result c.as_bytes.result.now c.args.text.now c.as_bytes-2.result.now c.args.other.now c.as_bytes.ensures.utf8
    (ap chars c.as_bytes.ensures.value ∙ c.as_str.ensures) c.as_bytes-2.ensures.value c.lowers_to.ensures
