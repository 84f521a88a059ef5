use Rattle.std.proofs.Common.{ap, subst, sym}
use Rattle.hp_elements.specs.declared.tag.Tag.{Tag}
use Rattle.hp_control.specs.Acts.{point_in}
use Rattle.hp_views.specs.PlacePlans.{insert_plan}
use Rattle.hp_views.specs.View.{Carries, sight}
use Rattle.hp_acts.specs.Spending.{IsLeftOf}
use Rattle.hp_acts.proofs.CarriedOut.{where_ok}
use Rattle.hp_acts.proofs.inserts.insert.Goals as goal

pub insert-requires : goal.insert-requires
insert-requires g c = record { point = sym (ap (λ (t : Tag). point_in t.namespace t) c.in_ok-tag.ensures.value) }

pub returns-clause-plan : goal.returns-clause-plan
returns-clause-plan g c =
    let P : Tag → Type 0 = λ t. Carries c.insert.result (sight g.B.Below.heard c.args.view.now) (sight g.B.Below.heard c.insert.new.self) (insert_plan c.args.fostering t) in
    subst P c.in_ok-tag.ensures.value c.insert.ensures

pub returns-clause-left : goal.returns-clause-left
returns-clause-left g c = where_ok c.insert.result (IsLeftOf c.args.token.now c.take_tag.new.token) c.in_ok-tag.ensures.left

pub returns-clause-copies : goal.returns-clause-copies
returns-clause-copies g c = c.take_tag.ensures.copies
