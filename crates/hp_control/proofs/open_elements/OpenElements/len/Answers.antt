use Rattle.std.proofs.Common.{length, ap, sym, ◌∙◌}
use Rattle.hp_control.proofs.StandingLemmas.{elements_count}
use Rattle.hp_control.proofs.open_elements.OpenElements.len.Goals as goal

pub returns : goal.returns
returns c = c.len.ensures ∙ (sym (elements_count c.self.inside.standing) ∙ ap length c.self.view_is)
