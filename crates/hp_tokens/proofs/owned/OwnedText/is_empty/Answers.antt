use Rattle.std.proofs.Common.{◌==◌, length, List, ℕ, ap, ◌∙◌}
use Rattle.hp_tokens.proofs.Texts.{empty_text}
use Rattle.hp_tokens.proofs.owned.OwnedText.is_empty.Goals as goal

pub returns : goal.returns
returns c = c.is_empty.ensures ∙ (empty_text c.as_str.result.now c.as_str.utf8 ∙ ap (λ (xs : List ℕ). length xs == 0) c.as_str.ensures)
