use Rattle.std.proofs.Common.{ap, ◌∙◌, sum_by}
use Rattle.std.specs.Char.{len_utf8}
use Rattle.hp_elements.proofs.TextLemmas.{byte_length}
use Rattle.hp_elements.proofs.text.Text.len_bytes.Goals as goal

pub returns : goal.returns
returns c = byte_length c.as_str.result.now c.as_str.utf8 ∙ ap (sum_by len_utf8) c.as_str.ensures
