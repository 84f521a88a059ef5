use Rattle.std.specs.Prelude.{Ok, true, refl}
use Rattle.std.proofs.Common.{◌≡◌, ap}
use Rattle.hp_elements.specs.declared.kinds.Kinds.TheVariants as kinds
use Rattle.hp_views.specs.declared.walks.Walk.TheVariants.{Found}
use Rattle.hp_views.specs.PlacePlans.{a_template}
use Rattle.hp_views.specs.StackPlans.{template_on, template_plan}
use Rattle.hp_views.specs.View.{sight}
use Rattle.hp_views.specs.Walks.{walk_of}
use Rattle.hp_views.proofs.AtOnce.{gives_at_once}
use Rattle.hp_views.proofs.Carrying.{answers_as}
use Rattle.hp_views.proofs.Walking.{walk_told}
use Rattle.hp_views.proofs.view.View.template_in_stack.Goals as goal

pub returns-in-Found : goal.returns-in-Found
returns-in-Found g c =
    let v = c.args.self.now in
    let k = c.in-Found.field-0 in
    let now = sight g.B.Below.heard v in
    let ended : Found k ≡ walk_of a_template kinds.Nothing v.change.stack =
    walk_told c.a_template.result kinds.Nothing a_template kinds.Nothing v.change.stack c.element_walk-walk.result (Found k) c.a_template.ensures refl c.in-Found.is c.element_walk-walk.ensures.walk in
    answers_as (Ok true) now now (λ w. template_on w.change.popped (Found k)) template_plan (ap (template_on v.change.popped) ended)
    (record { runs = gives_at_once now.heard true; same = refl })
