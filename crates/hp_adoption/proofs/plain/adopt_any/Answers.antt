use Rattle.std.proofs.Common.{Bool, true, false, subst}
use Rattle.hp_views.proofs.Carrying.{carries_then}
use Rattle.hp_views.specs.View.{Finds, sight}
use Rattle.hp_adoption.specs.AdoptPlans.{adopt_by, is_plain_plan}
use Rattle.hp_adoption.proofs.plain.adopt_any.Goals as goal

pub returns-then-branch : goal.returns-then-branch
returns-then-branch g c =
    let P : Bool → Type 0 = λ b. Finds (sight g.B.Below.heard c.args.view.now) (sight g.B.Below.heard c.is_plain.new.view) (is_plain_plan c.args.name.now) b in
    carries_then c.pop.result (sight g.B.Below.heard c.args.view.now) (sight g.B.Below.heard c.is_plain.new.view) (sight g.B.Below.heard c.pop.new.self)
    (is_plain_plan c.args.name.now) (adopt_by c.args.fostering c.args.name.now) true (subst P c.if-branch.true c.in_ok-is_plain.ensures) c.pop.ensures

pub returns-else-branch : goal.returns-else-branch
returns-else-branch g c =
    let P : Bool → Type 0 = λ b. Finds (sight g.B.Below.heard c.args.view.now) (sight g.B.Below.heard c.is_plain.new.view) (is_plain_plan c.args.name.now) b in
    carries_then c.turns.result (sight g.B.Below.heard c.args.view.now) (sight g.B.Below.heard c.is_plain.new.view) (sight g.B.Below.heard c.turns.new.view)
    (is_plain_plan c.args.name.now) (adopt_by c.args.fostering c.args.name.now) false (subst P c.if-branch.false c.in_ok-is_plain.ensures) c.turns.ensures
