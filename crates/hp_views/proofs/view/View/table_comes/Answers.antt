use Rattle.std.specs.Prelude.{Ok, true, false, drop, refl}
use Rattle.std.proofs.Common.{subst}
use Rattle.hp_elements.specs.declared.kinds.Kinds.{Kinds}
use Rattle.hp_views.specs.declared.walks.Walk.TheVariants.{Found, Stopped, PastAll}
use Rattle.hp_views.specs.Asking.{ask_seen}
use Rattle.hp_views.specs.PlacePlans.{a_table, a_template}
use Rattle.hp_views.specs.ResetPlans.{table_plan}
use Rattle.hp_views.specs.StackPlans.{seen_on}
use Rattle.hp_views.specs.View.{Answers, sight}
use Rattle.hp_views.proofs.AtOnce.{gives_at_once}
use Rattle.hp_views.proofs.Carrying.{answers_as}
use Rattle.hp_views.proofs.Tables.{table_seen}
use Rattle.hp_views.proofs.view.View.table_comes.Goals as goal

pub returns-in-Found : goal.returns-in-Found
returns-in-Found g c =
    let v = c.args.self.now in
    let below = drop c.args.from v.change.stack in
    let now = sight g.B.Below.heard v in
    answers_as (Ok true) now now (λ w. seen_on w.change.popped a_table a_template (Found c.in-Found.field-0)) (λ w. table_plan w below)
    (table_seen v.change.popped below c.a_table.result c.a_template.result c.element_walk_from-walk.result (Found c.in-Found.field-0) c.a_table.ensures c.a_template.ensures c.in-Found.is c.element_walk_from-walk.ensures)
    (record { runs = gives_at_once now.heard true; same = refl })

pub returns-in-Stopped : goal.returns-in-Stopped
returns-in-Stopped g c =
    let v = c.args.self.now in
    let below = drop c.args.from v.change.stack in
    let now = sight g.B.Below.heard v in
    answers_as (Ok false) now now (λ w. seen_on w.change.popped a_table a_template Stopped) (λ w. table_plan w below)
    (table_seen v.change.popped below c.a_table.result c.a_template.result c.element_walk_from-walk.result Stopped c.a_table.ensures c.a_template.ensures c.in-Stopped.is c.element_walk_from-walk.ensures)
    (record { runs = gives_at_once now.heard false; same = refl })

pub returns-in-PastAll : goal.returns-in-PastAll
returns-in-PastAll g c =
    let v = c.args.self.now in
    let below = drop c.args.from v.change.stack in
    let result = c.seen_below.result in
    let old = sight g.B.Below.heard v in
    let new = sight g.B.Below.heard c.seen_below.new.self in
    let P : Kinds → Type 0 = λ k. Answers result old new (λ w. ask_seen w.change.popped k c.a_template-in-PastAll.result) in
    let Q : Kinds → Type 0 = λ k. Answers result old new (λ w. ask_seen w.change.popped a_table k) in
    answers_as result old new (λ w. seen_on w.change.popped a_table a_template PastAll) (λ w. table_plan w below)
    (table_seen v.change.popped below c.a_table.result c.a_template.result c.element_walk_from-walk.result PastAll c.a_table.ensures c.a_template.ensures c.in-PastAll.is c.element_walk_from-walk.ensures)
    (subst Q c.a_template-in-PastAll.ensures (subst P c.a_table-in-PastAll.ensures c.seen_below.ensures))
