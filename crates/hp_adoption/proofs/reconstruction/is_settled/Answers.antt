use Rattle.std.proofs.Common.{sym, ap, ◌∙◌}
use Rattle.hp_adoption.specs.ReconPlans.{is_settled}
use Rattle.hp_adoption.proofs.Settled.{open_found}
use Rattle.hp_adoption.proofs.reconstruction.is_settled.Goals as goal

pub returns-in-Element : goal.returns-in-Element
returns-in-Element c = c.is_open.ensures ∙ (open_found c.in-Element.id c.args.stack.now ∙ ap (is_settled c.args.stack.now) (sym c.in-Element.is))
