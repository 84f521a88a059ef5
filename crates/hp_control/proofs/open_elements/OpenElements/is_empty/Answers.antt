use Rattle.std.proofs.Common.{ℕ, length, ap, sym, ◌∙◌}
use Rattle.std.specs.Prelude.{◌==◌}
use Rattle.hp_control.proofs.StandingLemmas.{elements_count}
use Rattle.hp_control.proofs.open_elements.OpenElements.is_empty.Goals as goal

pub returns : goal.returns
returns c = c.is_empty.ensures ∙ ap (λ (n : ℕ). n == 0) (sym (elements_count c.self.inside.standing) ∙ ap length c.self.view_is)
