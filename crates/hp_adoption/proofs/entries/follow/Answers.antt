use Rattle.std.proofs.Common.{[], ◌∷◌, sym, ◌∙◌}
use Rattle.hp_adoption.proofs.Spots.{joins, left_past, left_stopped, ok_as}
use Rattle.hp_adoption.proofs.entries.follow.Goals as goal

pub returns-in-Found : goal.returns-in-Found
returns-in-Found c =
    ok_as _ _ _ c.insert_at.result c.insert_at.ensures.ok (joins c.args.id c.in-Found.depth c.args.entry c.args.list.now (sym c.in-Found.is ∙ c.listed_walk.ensures.walk))

pub returns-in-Stopped : goal.returns-in-Stopped
returns-in-Stopped c = left_stopped c.args.id 0 (c.args.entry ∷ []) c.args.list.now (sym c.in-Stopped.is ∙ c.listed_walk.ensures.walk)

pub returns-in-PastAll : goal.returns-in-PastAll
returns-in-PastAll c = left_past c.args.id 0 (c.args.entry ∷ []) c.args.list.now (sym c.in-PastAll.is ∙ c.listed_walk.ensures.walk)
