use Rattle.std.proofs.Common.{sym, ◌∙◌}
use Rattle.hp_views.specs.declared.walks.Walk.TheVariants.{Found, Stopped, PastAll}
use Rattle.hp_views.proofs.Walking.{entry_found}
use Rattle.hp_views.proofs.view.View.has_entry.Goals as goal

pub returns-in-Found : goal.returns-in-Found
returns-in-Found g c = entry_found c.args.id c.args.self.now.change.formatting (Found c.in-Found.field-0) (sym c.in-Found.is ∙ c.listed_walk.ensures.walk)

pub returns-in-Stopped : goal.returns-in-Stopped
returns-in-Stopped g c = entry_found c.args.id c.args.self.now.change.formatting Stopped (sym c.in-Stopped.is ∙ c.listed_walk.ensures.walk)

pub returns-in-PastAll : goal.returns-in-PastAll
returns-in-PastAll g c = entry_found c.args.id c.args.self.now.change.formatting PastAll (sym c.in-PastAll.is ∙ c.listed_walk.ensures.walk)
