use Rattle.std.proofs.Common.{[], ◌∷◌, sym, subst, ◌∙◌}
use Rattle.hp_views.specs.declared.walks.Walk.{Walk}
use Rattle.hp_views.specs.Walks.{IsWithin}
use Rattle.hp_adoption.proofs.Spots.{left_past, left_stopped, supplanted}
use Rattle.hp_adoption.proofs.entries.supplant.Goals as goal

pub replace-requires : goal.replace-requires
replace-requires c =
    let P : Walk → Type 0 = λ w. IsWithin w c.args.list.now in
    (subst P c.in-Found.is c.listed_walk.ensures.within).0

pub returns-in-Found : goal.returns-in-Found
returns-in-Found c =
    let P : Walk → Type 0 = λ w. IsWithin w c.args.list.now in
    supplanted c.args.id c.in-Found.depth c.args.entry c.args.list.now c.replace.new.self (sym c.in-Found.is ∙ c.listed_walk.ensures.walk) (subst P c.in-Found.is c.listed_walk.ensures.within).0 c.replace.ensures.items

pub returns-in-Stopped : goal.returns-in-Stopped
returns-in-Stopped c = left_stopped c.args.id 1 (c.args.entry ∷ []) c.args.list.now (sym c.in-Stopped.is ∙ c.listed_walk.ensures.walk)

pub returns-in-PastAll : goal.returns-in-PastAll
returns-in-PastAll c = left_past c.args.id 1 (c.args.entry ∷ []) c.args.list.now (sym c.in-PastAll.is ∙ c.listed_walk.ensures.walk)
