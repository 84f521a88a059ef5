use Rattle.std.proofs.Common.{ℕ, List, subst}
use Rattle.hp_elements.specs.Names.{text_of}
use Rattle.hp_views.specs.ClosingPlans.{implied_except_plan, through_named_plan}
use Rattle.hp_views.specs.View.{Carries, sight}
use Rattle.hp_views.proofs.Carrying.{carries_next, carries_failed}
use Rattle.hp_views.proofs.view.View.close.Goals as goal

pub returns-in_err-implied_except : goal.returns-in_err-implied_except
returns-in_err-implied_except g c =
    carries_failed c.from_residual.result c.in_err-implied_except.field-0.0 (sight g.B.Below.heard c.args.self.now) (sight g.B.Below.heard c.implied_except.new.self)
    (implied_except_plan c.args.name) (through_named_plan (text_of c.args.name)) c.from_residual.ensures.1 c.in_err-implied_except.ensures

pub returns : goal.returns
returns g c =
    let P : List ℕ → Type 0 = λ name. Carries c.through_named.result (sight g.B.Below.heard c.implied_except.new.self) (sight g.B.Below.heard c.through_named.new.self) (through_named_plan name) in
    carries_next c.through_named.result (sight g.B.Below.heard c.args.self.now) (sight g.B.Below.heard c.implied_except.new.self) (sight g.B.Below.heard c.through_named.new.self)
    (implied_except_plan c.args.name) (through_named_plan (text_of c.args.name)) c.in_ok-implied_except.ensures (subst P c.of_known.ensures c.through_named.ensures)
