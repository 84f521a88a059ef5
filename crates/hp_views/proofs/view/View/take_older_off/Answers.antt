use Rattle.std.proofs.Common.{length, sym, ◌∙◌}
use Rattle.std.proofs.lemmas.Bool.{eqb-true}
use Rattle.std.proofs.lemmas.List.{nil_from_length}
use Rattle.hp_views.specs.FormPlans.{older_off_plan}
use Rattle.hp_views.specs.StackPlans.{pop_plan}
use Rattle.hp_views.specs.View.{sight, split_of}
use Rattle.hp_views.proofs.AtOnce.{older_popped}
use Rattle.hp_views.proofs.Carrying.{carries_as}
use Rattle.hp_views.proofs.view.View.take_older_off.Goals as goal

pub returns-then-depth-self-2-clause-plan : goal.returns-then-depth-self-2-clause-plan
returns-then-depth-self-2-clause-plan g c =
    let heard = g.B.Below.heard in
    carries_as c.pop.result (sight heard c.args.self.now) (sight heard c.pop.new.self) pop_plan (older_off_plan c.args.depth)
    (older_popped c.args.depth (split_of c.args.self.now) (sym c.is_empty.ensures ∙ c.if-is_empty.true) c.if-depth-self-2.true) c.pop.ensures

pub returns-then-depth-self-2-clause-no_memory : goal.returns-then-depth-self-2-clause-no_memory
returns-then-depth-self-2-clause-no_memory g c = λ _.
    let own = c.args.self.now.change.stack in
    (nil_from_length own (eqb-true (length own) 0 (sym c.is_empty.ensures ∙ c.if-is_empty.true)), c.if-depth-self-2.true)
