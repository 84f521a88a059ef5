use Rattle.std.proofs.Common.{true, Ok, refl}
use Rattle.std.specs.Prelude.{not}
use Rattle.hp_control.specs.Plan.{followed_by, gives}
use Rattle.hp_elements.specs.declared.act.Act.TheVariants as act
use Rattle.hp_views.specs.View.{sight}
use Rattle.hp_acts.specs.Plans.{act_plan, test_plan}
use Rattle.hp_acts.specs.Spending.{IsLeftOf}
use Rattle.hp_acts.proofs.CarriedOut.{by_no_test, by_test, left_alone, not_answered, not_carried, not_ok}
use Rattle.hp_acts.proofs.Deciding.{finds_not}
use Rattle.hp_acts.proofs.RowRuns.{is_error, left_whole}
use Rattle.hp_acts.proofs.acts.carry.Goals as goal

pub returns-in-If : goal.returns-in-If
returns-in-If g c =
    record {
      carried = by_test c.args.fostering c.args.token.now c.holds.result (sight g.B.Below.heard c.args.view.now) (sight g.B.Below.heard c.holds.new.view) c.args.act (act.If c.in-If.test c.in-If.otherwise) c.in-If.is c.holds.ensures.plan;
      left = left_alone c.holds.result c.args.token.now;
      copies = λ copied. refl;
    }

pub returns-in_err-holds-in-Unless : goal.returns-in_err-holds-in-Unless
returns-in_err-holds-in-Unless g c =
    record {
      carried = by_test c.args.fostering c.args.token.now c.from_residual.result (sight g.B.Below.heard c.args.view.now) (sight g.B.Below.heard c.holds-in-Unless.new.view) c.args.act (act.Unless c.in-Unless.test c.in-Unless.otherwise) c.in-Unless.is
          (not_answered c.from_residual.result c.in_err-holds-in-Unless.field-0.0 (sight g.B.Below.heard c.args.view.now) (sight g.B.Below.heard c.holds-in-Unless.new.view) (λ v. test_plan c.args.token.now c.in-Unless.test v) (λ v. followed_by (test_plan c.args.token.now c.in-Unless.test v) (λ b. gives (not b)))
          (is_error c.from_residual.result c.in_err-holds-in-Unless.field-0.0 c.from_residual.ensures.1) c.in_err-holds-in-Unless.ensures.plan);
      left = left_alone c.from_residual.result c.args.token.now;
      copies = λ copied. refl;
    }

pub returns-in_ok-holds-in-Unless : goal.returns-in_ok-holds-in-Unless
returns-in_ok-holds-in-Unless g c =
    record {
      carried = by_test c.args.fostering c.args.token.now (Ok (not c.in_ok-holds-in-Unless.holds)) (sight g.B.Below.heard c.args.view.now) (sight g.B.Below.heard c.holds-in-Unless.new.view) c.args.act (act.Unless c.in-Unless.test c.in-Unless.otherwise) c.in-Unless.is
          (finds_not (sight g.B.Below.heard c.args.view.now) (sight g.B.Below.heard c.holds-in-Unless.new.view) (λ v. test_plan c.args.token.now c.in-Unless.test v) c.in_ok-holds-in-Unless.holds c.in_ok-holds-in-Unless.ensures.plan);
      left = left_whole c.args.token.now;
      copies = λ copied. refl;
    }

pub returns-in_err-carry_out-in_default : goal.returns-in_err-carry_out-in_default
returns-in_err-carry_out-in_default g c =
    let result = c.from_residual-in_err-carry_out-in_default.result in
    let refused = c.in_err-carry_out-in_default.field-0.0 in
    record {
      carried = by_no_test c.args.fostering c.args.token.now result (sight g.B.Below.heard c.args.view.now) (sight g.B.Below.heard c.carry_out.new.view) c.args.act c.in_default.not-If c.in_default.not-Unless
          (not_carried result refused (sight g.B.Below.heard c.args.view.now) (sight g.B.Below.heard c.carry_out.new.view) (act_plan c.args.fostering c.args.token.now c.args.act) (is_error result refused c.from_residual-in_err-carry_out-in_default.ensures.1) c.in_err-carry_out-in_default.ensures.plan);
      left = not_ok result refused (IsLeftOf c.args.token.now c.carry_out.new.token) (is_error result refused c.from_residual-in_err-carry_out-in_default.ensures.1);
      copies = c.carry_out.ensures.copies;
    }

pub returns-in_ok-carry_out-in_default : goal.returns-in_ok-carry_out-in_default
returns-in_ok-carry_out-in_default g c =
    record {
      carried = by_no_test c.args.fostering c.args.token.now (Ok true) (sight g.B.Below.heard c.args.view.now) (sight g.B.Below.heard c.carry_out.new.view) c.args.act c.in_default.not-If c.in_default.not-Unless c.in_ok-carry_out-in_default.ensures.plan;
      left = c.in_ok-carry_out-in_default.ensures.left;
      copies = c.carry_out.ensures.copies;
    }
