use Rattle.std.proofs.Common.{◌==◌, length, List, ℕ, ap, ◌∙◌}
use Rattle.hp_elements.proofs.TextLemmas.{is_empty_text}
use Rattle.hp_elements.proofs.text.Text.is_empty.Goals as goal

pub returns : goal.returns
returns c = c.is_empty.ensures ∙ (is_empty_text c.as_str.result.now c.as_str.utf8 ∙ ap (λ (xs : List ℕ). length xs == 0) c.as_str.ensures)
