use Rattle.std.proofs.Common.{ap, ◌∙◌, List, ℕ}
use Rattle.std.specs.Prelude.{sum_by}
use Rattle.std.specs.Char.{len_utf8}
use Rattle.hp_tokens.proofs.Characters.{bytes-length}
use Rattle.hp_tokens.proofs.owned.OwnedText.len_bytes.Goals as goal

pub returns : goal.returns
returns c = bytes-length c.as_str.result.now c.as_str.utf8 ∙ ap (λ (cs : List ℕ). sum_by len_utf8 cs) c.as_str.ensures
