use Rattle.std.proofs.Common.{length, ap, sym, ◌∙◌}
use Rattle.std.proofs.lemmas.List.{length-reverse}
use Rattle.hp_control.specs.Held.{held}
use Rattle.hp_control.proofs.stack.Stack.len.Goals as goal

pub returns : goal.returns
returns g c = ap length c.as_slice.ensures ∙ (sym (length-reverse (held c.self.inside.items)) ∙ ap length c.self.view_is)
