use Rattle.std.specs.Prelude.{Ok, drop, refl}
use Rattle.std.proofs.Common.{◌≡◌, ap, sym}
use Rattle.hp_elements.specs.declared.kinds.Kinds.TheVariants as kinds
use Rattle.hp_control.specs.declared.edit.Place.TheVariants.{Into}
use Rattle.hp_views.specs.declared.walks.Walk.TheVariants.{Found, Stopped, PastAll}
use Rattle.hp_views.specs.PlacePlans.{a_table, a_template, foster_on, foster_plan, own_table, top_ref}
use Rattle.hp_views.specs.View.{sight, split_of}
use Rattle.hp_views.specs.Walks.{walk_of}
use Rattle.hp_views.proofs.AtOnce.{gives_same}
use Rattle.hp_views.proofs.Carrying.{answers_as}
use Rattle.hp_views.proofs.Walking.{walk_told}
use Rattle.hp_views.proofs.view.View.foster_place.Goals as goal

pub returns-in-Found : goal.returns-in-Found
returns-in-Found g c =
    let v = c.args.self.now in
    let k = c.in-Found.depth in
    let now = sight g.B.Below.heard v in
    let ended : Found k ≡ walk_of a_template a_table v.change.stack =
    walk_told c.a_template.result c.a_table.result a_template a_table v.change.stack c.element_walk-walk.result (Found k) c.a_template.ensures c.a_table.ensures c.in-Found.is c.element_walk-walk.ensures.walk in
    answers_as (Ok (Into c.ref_at.result)) now now (λ w. foster_on w (Found k)) foster_plan (ap (foster_on (split_of v)) ended)
    (record { runs = gives_same now.heard (Into (top_ref now.split.page v.change.popped (drop k v.change.stack))) (Into c.ref_at.result) (ap Into (sym c.ref_at.ensures)); same = refl })

pub returns-in-Stopped : goal.returns-in-Stopped
returns-in-Stopped g c =
    let v = c.args.self.now in
    let now = sight g.B.Below.heard v in
    let ended : Stopped ≡ walk_of a_template a_table v.change.stack =
    walk_told c.a_template.result c.a_table.result a_template a_table v.change.stack c.element_walk-walk.result Stopped c.a_template.ensures c.a_table.ensures c.in-Stopped.is c.element_walk-walk.ensures.walk in
    answers_as (Ok c.own_table.result) now now (λ w. foster_on w Stopped) foster_plan (ap (foster_on (split_of v)) ended)
    (record { runs = gives_same now.heard (own_table (split_of v) (walk_of a_table kinds.Nothing v.change.stack)) c.own_table.result (sym c.own_table.ensures); same = refl })

pub returns-in-PastAll : goal.returns-in-PastAll
returns-in-PastAll g c =
    let v = c.args.self.now in
    let ended : PastAll ≡ walk_of a_template a_table v.change.stack =
    walk_told c.a_template.result c.a_table.result a_template a_table v.change.stack c.element_walk-walk.result PastAll c.a_template.ensures c.a_table.ensures c.in-PastAll.is c.element_walk-walk.ensures.walk in
    answers_as c.foster_below.result (sight g.B.Below.heard v) (sight g.B.Below.heard c.foster_below.new.self) (λ w. foster_on w PastAll) foster_plan (ap (foster_on (split_of v)) ended)
    c.foster_below.ensures
