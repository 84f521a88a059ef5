use Rattle.std.proofs.Common.{◌∙◌, Bool, subst, sym}
use Rattle.hp_elements.specs.Tokens.{kind_of}
use Rattle.hp_foreign.specs.Plans.{goes_plan}
use Rattle.hp_views.specs.View.{Finds, sight, split_of}
use Rattle.hp_acts.specs.Carrying.{reached}
use Rattle.hp_acts.proofs.TurnRuns.{turn_early, turn_foreign, turn_in_mode}
use Rattle.hp_acts.proofs.UsualRuns.{straight_refused, turn_straight}
use Rattle.hp_acts.proofs.turns.take_turn.Goals as goal

pub returns-then-is_early : goal.returns-then-is_early
returns-then-is_early g c = turn_early (g.B.Below.heard c.args.view.now.below) c.args.turn.now.token (reached c.args.view.now c.args.turn.now) (sym c.is_early.ensures ∙ c.if-is_early.true)

pub returns-then-branch : goal.returns-then-branch
returns-then-branch g c =
    let P : Bool → Type 0 = λ b. Finds (sight g.B.Below.heard c.args.view.now) (sight g.B.Below.heard c.goes_to_foreign.new.view) (goes_plan (kind_of c.args.turn.now.token)) b in
    turn_foreign c.carry_row.result (g.B.Below.heard c.args.view.now.below) (g.B.Below.heard c.goes_to_foreign.new.view.below) (g.B.Below.heard c.carry_row.new.view.below) c.args.turn.now.token c.carry_row.new.turn.token (split_of c.args.view.now) (split_of c.goes_to_foreign.new.view)
    (reached c.args.view.now c.args.turn.now) (reached c.carry_row.new.view c.carry_row.new.turn) c.foreign_row-row.result.acts.now (sym c.is_early.ensures ∙ c.if-is_early.false) (subst P c.if-branch.true c.in_ok-goes_to_foreign.ensures) c.foreign_row-row.ensures c.carry_row.ensures.plan

pub returns-in_err-carry_straight : goal.returns-in_err-carry_straight
returns-in_err-carry_straight g c =
    let P : Bool → Type 0 = λ b. Finds (sight g.B.Below.heard c.args.view.now) (sight g.B.Below.heard c.goes_to_foreign.new.view) (goes_plan (kind_of c.args.turn.now.token)) b in
    straight_refused c.from_residual-in_err-carry_straight.result c.in_err-carry_straight.field-0.0 (g.B.Below.heard c.args.view.now.below) (g.B.Below.heard c.goes_to_foreign.new.view.below) (sight g.B.Below.heard c.carry_straight.new.view) c.in-Some.row c.args.turn.now.token c.carry_straight.new.token (split_of c.args.view.now) (split_of c.goes_to_foreign.new.view)
    (reached c.args.view.now c.args.turn.now) (reached c.carry_straight.new.view (record c.args.turn.now { token = c.carry_straight.new.token })) c.from_residual-in_err-carry_straight.ensures.1 (sym c.is_early.ensures ∙ c.if-is_early.false) (subst P c.if-branch.false c.in_ok-goes_to_foreign.ensures) c.in-Some.ensures c.in_err-carry_straight.ensures

pub returns-in-Some : goal.returns-in-Some
returns-in-Some g c =
    let P : Bool → Type 0 = λ b. Finds (sight g.B.Below.heard c.args.view.now) (sight g.B.Below.heard c.goes_to_foreign.new.view) (goes_plan (kind_of c.args.turn.now.token)) b in
    turn_straight (g.B.Below.heard c.args.view.now.below) (g.B.Below.heard c.goes_to_foreign.new.view.below) (g.B.Below.heard c.carry_straight.new.view.below) c.in-Some.row c.args.turn.now.token c.carry_straight.new.token (split_of c.args.view.now) (split_of c.goes_to_foreign.new.view) (split_of c.carry_straight.new.view)
    (reached c.args.view.now c.args.turn.now) (sym c.is_early.ensures ∙ c.if-is_early.false) (subst P c.if-branch.false c.in_ok-goes_to_foreign.ensures) c.in-Some.ensures c.in_ok-carry_straight.ensures

pub returns : goal.returns
returns g c =
    let P : Bool → Type 0 = λ b. Finds (sight g.B.Below.heard c.args.view.now) (sight g.B.Below.heard c.goes_to_foreign.new.view) (goes_plan (kind_of c.args.turn.now.token)) b in
    turn_in_mode c.carry_row-2.result (g.B.Below.heard c.args.view.now.below) (g.B.Below.heard c.goes_to_foreign.new.view.below) (g.B.Below.heard c.carry_row-2.new.view.below) c.args.turn.now.token c.carry_row-2.new.turn.token (split_of c.args.view.now) (split_of c.goes_to_foreign.new.view)
    (reached c.args.view.now c.args.turn.now) (reached c.carry_row-2.new.view c.carry_row-2.new.turn) c.row_in-row.result.acts.now (sym c.is_early.ensures ∙ c.if-is_early.false) (subst P c.if-branch.false c.in_ok-goes_to_foreign.ensures) c.row_in-row.ensures c.carry_row-2.ensures.plan
