use Rattle.std.proofs.Common.{◌≡◌, ◌+◌, ◌∙◌, false, drop, None, Some, Err, ap, refl, subst, sym, arith}
use Rattle.std.specs.Prelude.{if◌then◌else◌, not}
use Rattle.hp_elements.specs.Rules.{goes_later}
use Rattle.hp_elements.specs.declared.act.Act.TheVariants as act
use Rattle.hp_views.specs.View.{sight}
use Rattle.hp_acts.specs.Carrying.{GoesBy, Stays, UsesRules, going, present_plan, reached}
use Rattle.hp_acts.specs.Handling.{GoesLater}
use Rattle.hp_acts.specs.Plans.{test_plan}
use Rattle.hp_acts.specs.RowPlans.{act_then}
use Rattle.hp_acts.specs.Spending.{gives_away, leaves_whole}
use Rattle.hp_acts.specs.declared.turns.Next.TheVariants.{At}
use Rattle.hp_acts.proofs.RowRuns.{is_error, left_whole}
use Rattle.hp_acts.proofs.StepRuns.{act_crosses, act_goes, if_goes, is_steering, later_of, no_answer, no_next, not_steering, one_of, present_goes, renamed, steered, token_stays, unless_goes, way_of, way_on, whole_at}
use Rattle.hp_acts.proofs.turns.step.Goals as goal

pub returns-in-Done : goal.returns-in-Done
returns-in-Done g c =
    record {
      later = tt;
      goes = tt;
      stays = refl;
      plan = λ follow go. steered follow (present_plan follow c.args.present) c.args.fostering c.args.turn.now.token c.args.at go (g.B.Below.heard c.args.view.now.below) (reached c.args.view.now c.args.turn.now) c.args.act act.Done c.in-Done.is;
    }

pub returns-in-Again : goal.returns-in-Again
returns-in-Again g c =
    record {
      later = tt;
      goes = tt;
      stays = tt;
      plan = λ follow go. steered follow (present_plan follow c.args.present) c.args.fostering c.args.turn.now.token c.args.at go (g.B.Below.heard c.args.view.now.below) (reached c.args.view.now c.args.turn.now) c.args.act act.Again c.in-Again.is;
    }

pub returns-in-AgainAs : goal.returns-in-AgainAs
returns-in-AgainAs g c =
    record {
      later = tt;
      goes = tt;
      stays = tt;
      plan = λ follow go. renamed follow (present_plan follow c.args.present) c.args.fostering c.args.turn.now.token c.args.at go (g.B.Below.heard c.args.view.now.below) (reached c.args.view.now c.args.turn.now) c.args.act c.in-AgainAs.name c.rename.new.token c.in-AgainAs.is c.rename.ensures;
    }

pub returns-in-As : goal.returns-in-As
returns-in-As g c =
    record {
      later = tt;
      goes = subst UsesRules (sym c.in-As.is) tt;
      stays = refl;
      plan = λ follow go. steered follow (present_plan follow c.args.present) c.args.fostering c.args.turn.now.token c.args.at go (g.B.Below.heard c.args.view.now.below) (reached c.args.view.now c.args.turn.now) c.args.act (act.As c.in-As.mode) c.in-As.is;
    }

pub returns-in-AsFostered : goal.returns-in-AsFostered
returns-in-AsFostered g c =
    record {
      later = tt;
      goes = subst UsesRules (sym c.in-AsFostered.is) tt;
      stays = refl;
      plan = λ follow go. steered follow (present_plan follow c.args.present) c.args.fostering c.args.turn.now.token c.args.at go (g.B.Below.heard c.args.view.now.below) (reached c.args.view.now c.args.turn.now) c.args.act (act.AsFostered c.in-AsFostered.mode) c.in-AsFostered.is;
    }

pub returns-in-Some : goal.returns-in-Some
returns-in-Some g c =
    record {
      later = tt;
      goes = subst UsesRules (sym c.in-AsPresent.is) tt;
      stays = refl;
      plan = λ follow go. present_goes follow c.args.fostering c.args.turn.now.token c.args.at go (g.B.Below.heard c.args.view.now.below) (reached c.args.view.now c.args.turn.now) c.args.act c.args.present (Some c.in-Some.mode) c.in-AsPresent.is c.in-Some.is;
    }

pub returns-in-None : goal.returns-in-None
returns-in-None g c =
    record {
      later = omega arith;
      goes = way_of c.args.act act.AsPresent c.args.at (c.args.at + 1) (At (c.args.at + 1)) c.in-AsPresent.is refl refl;
      stays = (left_whole c.args.turn.now.token, λ w. refl);
      plan = λ follow go. present_goes follow c.args.fostering c.args.turn.now.token c.args.at go (g.B.Below.heard c.args.view.now.below) (reached c.args.view.now c.args.turn.now) c.args.act c.args.present None c.in-AsPresent.is c.in-None.is;
    }

pub returns-in_err-holds-in-If : goal.returns-in_err-holds-in-If
returns-in_err-holds-in-If g c =
    record {
      later = no_next c.from_residual.result c.in_err-holds-in-If.field-0.0 (GoesLater c.args.at) (is_error c.from_residual.result c.in_err-holds-in-If.field-0.0 c.from_residual.ensures.1);
      goes = no_next c.from_residual.result c.in_err-holds-in-If.field-0.0 (GoesBy c.args.act c.args.at) (is_error c.from_residual.result c.in_err-holds-in-If.field-0.0 c.from_residual.ensures.1);
      stays = no_next c.from_residual.result c.in_err-holds-in-If.field-0.0 (Stays (leaves_whole c.args.act (drop (c.args.at + 1) c.args.row.acts.now)) c.args.turn.now.token c.args.turn.now.token) (is_error c.from_residual.result c.in_err-holds-in-If.field-0.0 c.from_residual.ensures.1);
      plan = λ follow go. no_answer c.from_residual.result c.in_err-holds-in-If.field-0.0 (sight g.B.Below.heard c.args.view.now) (sight g.B.Below.heard c.holds.new.view) (λ v. test_plan c.args.turn.now.token c.in-If.test v)
          (act_then follow (present_plan follow c.args.present) c.args.fostering c.args.turn.now.token c.args.act c.args.at go (reached c.args.view.now c.args.turn.now))
          (going follow go c.args.at (reached c.holds.new.view c.args.turn.now) c.args.turn.now.token) (is_error c.from_residual.result c.in_err-holds-in-If.field-0.0 c.from_residual.ensures.1) c.in_err-holds-in-If.ensures.plan;
    }

pub returns-in_ok-holds-in-If : goal.returns-in_ok-holds-in-If
returns-in_ok-holds-in-If g c =
    record {
      later = later_of c.args.at c.in-If.otherwise c.in_ok-holds-in-If.holds c.behind.result (ap (goes_later c.args.at) (sym c.in-If.is) ∙ c.requires.later) c.behind.ensures;
      goes = way_of c.args.act (act.If c.in-If.test c.in-If.otherwise) c.args.at (if c.in_ok-holds-in-If.holds then c.args.at + 1 else c.in-If.otherwise) c.behind.result c.in-If.is c.behind.ensures (one_of c.args.at c.in-If.otherwise c.in_ok-holds-in-If.holds);
      stays = whole_at (leaves_whole c.args.act (drop (c.args.at + 1) c.args.row.acts.now)) c.args.turn.now.token (if c.in_ok-holds-in-If.holds then c.args.at + 1 else c.in-If.otherwise) c.behind.result c.behind.ensures;
      plan = λ follow go. if_goes follow (present_plan follow c.args.present) c.args.fostering c.args.turn.now.token c.args.at go (sight g.B.Below.heard c.args.view.now) (sight g.B.Below.heard c.holds.new.view) c.args.turn.now.handled
          c.args.act c.in-If.test c.in-If.otherwise c.in_ok-holds-in-If.holds c.behind.result c.in-If.is c.behind.ensures c.in_ok-holds-in-If.ensures.plan;
    }

pub returns-in_err-holds-in-Unless : goal.returns-in_err-holds-in-Unless
returns-in_err-holds-in-Unless g c =
    record {
      later = no_next c.from_residual-in_err-holds-in-Unless.result c.in_err-holds-in-Unless.field-0.0 (GoesLater c.args.at) (is_error c.from_residual-in_err-holds-in-Unless.result c.in_err-holds-in-Unless.field-0.0 c.from_residual-in_err-holds-in-Unless.ensures.1);
      goes = no_next c.from_residual-in_err-holds-in-Unless.result c.in_err-holds-in-Unless.field-0.0 (GoesBy c.args.act c.args.at) (is_error c.from_residual-in_err-holds-in-Unless.result c.in_err-holds-in-Unless.field-0.0 c.from_residual-in_err-holds-in-Unless.ensures.1);
      stays = no_next c.from_residual-in_err-holds-in-Unless.result c.in_err-holds-in-Unless.field-0.0 (Stays (leaves_whole c.args.act (drop (c.args.at + 1) c.args.row.acts.now)) c.args.turn.now.token c.args.turn.now.token) (is_error c.from_residual-in_err-holds-in-Unless.result c.in_err-holds-in-Unless.field-0.0 c.from_residual-in_err-holds-in-Unless.ensures.1);
      plan = λ follow go. no_answer c.from_residual-in_err-holds-in-Unless.result c.in_err-holds-in-Unless.field-0.0 (sight g.B.Below.heard c.args.view.now) (sight g.B.Below.heard c.holds-in-Unless.new.view) (λ v. test_plan c.args.turn.now.token c.in-Unless.test v)
          (act_then follow (present_plan follow c.args.present) c.args.fostering c.args.turn.now.token c.args.act c.args.at go (reached c.args.view.now c.args.turn.now))
          (going follow go c.args.at (reached c.holds-in-Unless.new.view c.args.turn.now) c.args.turn.now.token) (is_error c.from_residual-in_err-holds-in-Unless.result c.in_err-holds-in-Unless.field-0.0 c.from_residual-in_err-holds-in-Unless.ensures.1) c.in_err-holds-in-Unless.ensures.plan;
    }

pub returns-in_ok-holds-in-Unless : goal.returns-in_ok-holds-in-Unless
returns-in_ok-holds-in-Unless g c =
    record {
      later = later_of c.args.at c.in-Unless.otherwise (not c.in_ok-holds-in-Unless.holds) c.behind-in-Unless.result (ap (goes_later c.args.at) (sym c.in-Unless.is) ∙ c.requires.later) c.behind-in-Unless.ensures;
      goes = way_of c.args.act (act.Unless c.in-Unless.test c.in-Unless.otherwise) c.args.at (if (not c.in_ok-holds-in-Unless.holds) then c.args.at + 1 else c.in-Unless.otherwise) c.behind-in-Unless.result c.in-Unless.is c.behind-in-Unless.ensures (one_of c.args.at c.in-Unless.otherwise (not c.in_ok-holds-in-Unless.holds));
      stays = whole_at (leaves_whole c.args.act (drop (c.args.at + 1) c.args.row.acts.now)) c.args.turn.now.token (if (not c.in_ok-holds-in-Unless.holds) then c.args.at + 1 else c.in-Unless.otherwise) c.behind-in-Unless.result c.behind-in-Unless.ensures;
      plan = λ follow go. unless_goes follow (present_plan follow c.args.present) c.args.fostering c.args.turn.now.token c.args.at go (sight g.B.Below.heard c.args.view.now) (sight g.B.Below.heard c.holds-in-Unless.new.view) c.args.turn.now.handled
          c.args.act c.in-Unless.test c.in-Unless.otherwise c.in_ok-holds-in-Unless.holds c.behind-in-Unless.result c.in-Unless.is c.behind-in-Unless.ensures c.in_ok-holds-in-Unless.ensures.plan;
    }

pub returns-in-Stop : goal.returns-in-Stop
returns-in-Stop g c =
    record {
      later = omega arith;
      goes = way_of c.args.act act.Stop c.args.at (c.args.at + 1) (At (c.args.at + 1)) c.in-Stop.is refl refl;
      stays = (left_whole c.args.turn.now.token, λ w. refl);
      plan = λ follow go. steered follow (present_plan follow c.args.present) c.args.fostering c.args.turn.now.token c.args.at go (g.B.Below.heard c.args.view.now.below) (reached c.args.view.now c.args.turn.now) c.args.act act.Stop c.in-Stop.is;
    }

pub returns-in-Lexer : goal.returns-in-Lexer
returns-in-Lexer g c =
    record {
      later = omega arith;
      goes = way_of c.args.act (act.Lexer c.in-Lexer.rest) c.args.at (c.args.at + 1) (At (c.args.at + 1)) c.in-Lexer.is refl refl;
      stays = (left_whole c.args.turn.now.token, λ w. refl);
      plan = λ follow go. steered follow (present_plan follow c.args.present) c.args.fostering c.args.turn.now.token c.args.at go (g.B.Below.heard c.args.view.now.below) (reached c.args.view.now c.args.turn.now) c.args.act (act.Lexer c.in-Lexer.rest) c.in-Lexer.is;
    }

pub returns-in-Err : goal.returns-in-Err
returns-in-Err g c =
    record {
      later = tt;
      goes = tt;
      stays = tt;
      plan = λ follow go. act_crosses follow (present_plan follow c.args.present) c.args.fostering c.args.turn.now.token c.args.at go (sight g.B.Below.heard c.args.view.now) (sight g.B.Below.heard c.carry_out.new.view) c.args.turn.now.handled
          c.args.act (Err c.in-Err.refused) c.in-Err.refused (λ next. going follow go c.args.at (reached c.carry_out.new.view (record { token = c.carry_out.new.token; handled = c.args.turn.now.handled })) c.carry_out.new.token next) refl
          (not_steering c.args.act c.in_default.not-Done c.in_default.not-Again c.in_default.not-AgainAs c.in_default.not-As c.in_default.not-AsFostered c.in_default.not-AsPresent c.in_default.not-If c.in_default.not-Unless c.in_default.not-Stop c.in_default.not-Lexer) c.in-Err.ensures.plan;
    }

pub returns-in-Ok : goal.returns-in-Ok
returns-in-Ok g c =
    let steers : is_steering c.args.act ≡ false = not_steering c.args.act c.in_default.not-Done c.in_default.not-Again c.in_default.not-AgainAs c.in_default.not-As c.in_default.not-AsFostered c.in_default.not-AsPresent c.in_default.not-If c.in_default.not-Unless c.in_default.not-Stop c.in_default.not-Lexer in
    record {
      later = omega arith;
      goes = way_on c.args.act c.args.at steers;
      stays = (c.in-Ok.ensures.left, token_stays (gives_away c.args.act) (leaves_whole c.args.act (drop (c.args.at + 1) c.args.row.acts.now)) c.args.turn.now.token c.carry_out.new.token c.carry_out.ensures.stays (λ w a. c.carry_out.ensures.copies (c.spending_at-spending.ensures w a)));
      plan = λ follow go. act_goes follow (present_plan follow c.args.present) c.args.fostering c.args.turn.now.token c.args.at go (sight g.B.Below.heard c.args.view.now) (sight g.B.Below.heard c.carry_out.new.view) c.args.turn.now.handled c.args.act steers c.in-Ok.ensures.plan;
    }
