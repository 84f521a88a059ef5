use Rattle.std.proofs.Common.{ap, sym, ◌∙◌}
use Rattle.hp_elements.specs.declared.sets.Namespace.{Namespace}
use Rattle.hp_control.specs.Foreign.{name_in}
use Rattle.hp_foreign.proofs.attributes.element_name.Goals as goal

pub returns-in-Svg : goal.returns-in-Svg
returns-in-Svg c = c.respelled.ensures ∙ ap (λ (space : Namespace). name_in space c.args.name) (sym c.in-Svg.is)
