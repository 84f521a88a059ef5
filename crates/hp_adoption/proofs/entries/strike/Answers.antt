use Rattle.std.proofs.Common.{[], sym, ◌∙◌}
use Rattle.hp_adoption.proofs.Spots.{left_past, left_stopped, struck}
use Rattle.hp_adoption.proofs.entries.strike.Goals as goal

pub returns-in-Found : goal.returns-in-Found
returns-in-Found c = struck c.args.id c.in-Found.depth c.args.list.now c.take_out.new.self (sym c.in-Found.is ∙ c.listed_walk.ensures.walk) c.take_out.ensures

pub returns-in-Stopped : goal.returns-in-Stopped
returns-in-Stopped c = left_stopped c.args.id 1 [] c.args.list.now (sym c.in-Stopped.is ∙ c.listed_walk.ensures.walk)

pub returns-in-PastAll : goal.returns-in-PastAll
returns-in-PastAll c = left_past c.args.id 1 [] c.args.list.now (sym c.in-PastAll.is ∙ c.listed_walk.ensures.walk)
