use Rattle.std.proofs.Common.{◌≡◌, ◌-◌, ◌∙◌, Err, Ok, sym, suc, arith}
use Rattle.hp_acts.specs.Carrying.{going, present_plan, reached}
use Rattle.hp_acts.specs.RowPlans.{rules_plan}
use Rattle.hp_acts.proofs.RowRuns.{again_at, begins, came_again, came_left, done_at, ends_past, is_error, left_whole, moved_to, refused_at, refused_in, rest_behind, so_left, used_again, used_to, using_at}
use Rattle.hp_acts.proofs.TurnRuns.{nested_comes, nested_none}
use Rattle.hp_acts.proofs.turns.+carry_row.Goals as goal

pub loop-act-init : goal.loop-act-init
loop-act-init g t c = begins _ _ _ _ _ _ _ c.args.row.keeps

pub returns-in_err-next-clause-plan : goal.returns-in_err-next-clause-plan
returns-in_err-next-clause-plan g t c =
    let follow = rules_plan c.args.depth c.args.turn.now.token in
    let present = present_plan (rules_plan c.args.depth c.args.turn.now.token) c.args.present in
    let go = rest_behind follow present c.args.fostering c.args.turn.now.token c.args.row.acts.now c.loop-act.at in
    refused_at follow present c.args.fostering c.args.turn.now.token c.args.row.acts.now c.from_residual.result c.in_err-next.field-0.0 (g.B.Below.heard c.args.view.now.below) (reached c.args.view.now c.args.turn.now) c.loop-act.at (g.B.Below.heard c.loop-act.view.below) (g.B.Below.heard c.step.new.view.below) (reached c.loop-act.view c.loop-act.turn) (reached c.step.new.view c.step.new.turn) c.loop-act.turn.token c.step.new.turn.token c.in-Some.act
    (going follow go c.loop-act.at (reached c.step.new.view c.step.new.turn) c.step.new.turn.token)
    (is_error c.from_residual.result c.in_err-next.field-0.0 c.from_residual.ensures.1) c.loop-act.invariant (sym c.act.ensures.value ∙ c.in-Some.is) (c.in_err-next.ensures.plan follow go)

pub loop-act-preserved-in-At : goal.loop-act-preserved-in-At
loop-act-preserved-in-At g t c =
    let follow = rules_plan c.args.depth c.args.turn.now.token in
    let present = present_plan (rules_plan c.args.depth c.args.turn.now.token) c.args.present in
    let go = rest_behind follow present c.args.fostering c.args.turn.now.token c.args.row.acts.now c.loop-act.at in
    moved_to _ _ _ _ _ _ _ _ _ (g.B.Below.heard c.step.new.view.below) _ (reached c.step.new.view c.step.new.turn) _ c.step.new.turn.token c.in-Some.act c.in_ok-next.field-0 c.in-At.next c.loop-act.invariant (sym c.act.ensures.value ∙ c.in-Some.is)
    (record { plan = c.in_ok-next.ensures.plan follow go; later = c.in_ok-next.ensures.later; goes = c.in_ok-next.ensures.goes; stays = c.in_ok-next.ensures.stays }) c.in-At.is

pub returns-in-Done : goal.returns-in-Done
returns-in-Done g t c =
    let follow = rules_plan c.args.depth c.args.turn.now.token in
    let present = present_plan (rules_plan c.args.depth c.args.turn.now.token) c.args.present in
    let go = rest_behind follow present c.args.fostering c.args.turn.now.token c.args.row.acts.now c.loop-act.at in
    let parts = done_at follow present c.args.fostering c.args.turn.now.token c.args.row.acts.now (g.B.Below.heard c.args.view.now.below) (reached c.args.view.now c.args.turn.now) c.loop-act.at (g.B.Below.heard c.loop-act.view.below) (g.B.Below.heard c.step.new.view.below) (reached c.loop-act.view c.loop-act.turn) (reached c.step.new.view c.step.new.turn) c.loop-act.turn.token c.step.new.turn.token c.in-Some.act c.in_ok-next.field-0 c.loop-act.invariant (sym c.act.ensures.value ∙ c.in-Some.is)
    (record { plan = c.in_ok-next.ensures.plan follow go; later = c.in_ok-next.ensures.later; goes = c.in_ok-next.ensures.goes; stays = c.in_ok-next.ensures.stays }) c.in-Done.is in
    record { plan = parts.0; left = λ e. parts.1 }

pub returns-in-Again-clause-plan : goal.returns-in-Again-clause-plan
returns-in-Again-clause-plan g t c =
    let follow = rules_plan c.args.depth c.args.turn.now.token in
    let present = present_plan (rules_plan c.args.depth c.args.turn.now.token) c.args.present in
    let go = rest_behind follow present c.args.fostering c.args.turn.now.token c.args.row.acts.now c.loop-act.at in
    again_at follow present c.args.fostering c.args.turn.now.token c.args.row.acts.now (g.B.Below.heard c.args.view.now.below) (reached c.args.view.now c.args.turn.now) c.loop-act.at (g.B.Below.heard c.loop-act.view.below) (g.B.Below.heard c.step.new.view.below) (reached c.loop-act.view c.loop-act.turn) (reached c.step.new.view c.step.new.turn) c.loop-act.turn.token c.step.new.turn.token c.in-Some.act c.in_ok-next.field-0 c.loop-act.invariant (sym c.act.ensures.value ∙ c.in-Some.is)
    (record { plan = c.in_ok-next.ensures.plan follow go; later = c.in_ok-next.ensures.later; goes = c.in_ok-next.ensures.goes; stays = c.in_ok-next.ensures.stays }) c.in-Again.is

pub loop-act-preserved-then-depth-eq0 : goal.loop-act-preserved-then-depth-eq0
loop-act-preserved-then-depth-eq0 g t c =
    let follow = rules_plan c.args.depth c.args.turn.now.token in
    let present = present_plan (rules_plan c.args.depth c.args.turn.now.token) c.args.present in
    let go = rest_behind follow present c.args.fostering c.args.turn.now.token c.args.row.acts.now c.loop-act.at in
    let x = using_at follow present c.args.fostering c.args.turn.now.token c.args.row.acts.now (g.B.Below.heard c.args.view.now.below) (reached c.args.view.now c.args.turn.now) c.loop-act.at (g.B.Below.heard c.loop-act.view.below) (g.B.Below.heard c.step.new.view.below) (reached c.loop-act.view c.loop-act.turn) (reached c.step.new.view c.step.new.turn) c.loop-act.turn.token c.step.new.turn.token c.in-Some.act c.in_ok-next.field-0 c.in-Rules.mode c.in-Rules.fostering c.loop-act.invariant (sym c.act.ensures.value ∙ c.in-Some.is)
    (record { plan = c.in_ok-next.ensures.plan follow go; later = c.in_ok-next.ensures.later; goes = c.in_ok-next.ensures.goes; stays = c.in_ok-next.ensures.stays }) c.in-Rules.is in
    used_to follow present c.args.fostering c.args.turn.now.token c.args.row.acts.now (g.B.Below.heard c.args.view.now.below) (reached c.args.view.now c.args.turn.now) c.loop-act.at (g.B.Below.heard c.loop-act.view.below) (g.B.Below.heard c.step.new.view.below) (g.B.Below.heard c.step.new.view.below) (reached c.loop-act.view c.loop-act.turn) (reached c.step.new.view c.step.new.turn) (reached c.step.new.view c.step.new.turn) c.loop-act.turn.token c.step.new.turn.token c.step.new.turn.token c.in-Some.act c.in-Rules.mode c.in-Rules.fostering x
    (nested_none (g.B.Below.heard c.step.new.view.below) c.args.depth c.args.turn.now.token c.in-Rules.fostering c.in-Rules.mode (reached c.step.new.view c.step.new.turn) c.if-depth-eq0.true) (left_whole c.step.new.turn.token)

pub returns-in_err-carry_row-in-Rules-clause-plan :
    goal.returns-in_err-carry_row-in-Rules-clause-plan
returns-in_err-carry_row-in-Rules-clause-plan g t c =
    let follow = rules_plan c.args.depth c.args.turn.now.token in
    let present = present_plan (rules_plan c.args.depth c.args.turn.now.token) c.args.present in
    let go = rest_behind follow present c.args.fostering c.args.turn.now.token c.args.row.acts.now c.loop-act.at in
    let x = using_at follow present c.args.fostering c.args.turn.now.token c.args.row.acts.now (g.B.Below.heard c.args.view.now.below) (reached c.args.view.now c.args.turn.now) c.loop-act.at (g.B.Below.heard c.loop-act.view.below) (g.B.Below.heard c.step.new.view.below) (reached c.loop-act.view c.loop-act.turn) (reached c.step.new.view c.step.new.turn) c.loop-act.turn.token c.step.new.turn.token c.in-Some.act c.in_ok-next.field-0 c.in-Rules.mode c.in-Rules.fostering c.loop-act.invariant (sym c.act.ensures.value ∙ c.in-Some.is)
    (record { plan = c.in_ok-next.ensures.plan follow go; later = c.in_ok-next.ensures.later; goes = c.in_ok-next.ensures.goes; stays = c.in_ok-next.ensures.stays }) c.in-Rules.is in
    let deep : c.args.depth ≡ suc (c.args.depth - 1) = omega arith in
    refused_in follow present c.args.fostering c.args.turn.now.token c.args.row.acts.now c.from_residual-in_err-carry_row-in-Rules.result c.in_err-carry_row-in-Rules.field-0.0 (g.B.Below.heard c.args.view.now.below) (reached c.args.view.now c.args.turn.now) c.loop-act.at (g.B.Below.heard c.loop-act.view.below) (g.B.Below.heard c.step.new.view.below) (g.B.Below.heard c.carry_row.new.view.below) (reached c.loop-act.view c.loop-act.turn) (reached c.step.new.view c.step.new.turn) (reached c.carry_row.new.view c.carry_row.new.turn) c.loop-act.turn.token c.step.new.turn.token c.carry_row.new.turn.token c.in-Some.act c.in-Rules.mode c.in-Rules.fostering
    (is_error c.from_residual-in_err-carry_row-in-Rules.result c.in_err-carry_row-in-Rules.field-0.0 c.from_residual-in_err-carry_row-in-Rules.ensures.1) x
    (nested_comes (Err c.in_err-carry_row-in-Rules.field-0.0) (g.B.Below.heard c.step.new.view.below) (g.B.Below.heard c.carry_row.new.view.below) c.args.depth (c.args.depth - 1) c.args.turn.now.token c.step.new.turn.token c.carry_row.new.turn.token c.in-Rules.fostering c.in-Rules.mode c.row_in-used.result.acts.now (reached c.step.new.view c.step.new.turn) (reached c.carry_row.new.view c.carry_row.new.turn) deep x.whole c.row_in-used.ensures c.in_err-carry_row-in-Rules.ensures.plan)

pub returns-then-branch-clause-plan : goal.returns-then-branch-clause-plan
returns-then-branch-clause-plan g t c =
    let follow = rules_plan c.args.depth c.args.turn.now.token in
    let present = present_plan (rules_plan c.args.depth c.args.turn.now.token) c.args.present in
    let go = rest_behind follow present c.args.fostering c.args.turn.now.token c.args.row.acts.now c.loop-act.at in
    let x = using_at follow present c.args.fostering c.args.turn.now.token c.args.row.acts.now (g.B.Below.heard c.args.view.now.below) (reached c.args.view.now c.args.turn.now) c.loop-act.at (g.B.Below.heard c.loop-act.view.below) (g.B.Below.heard c.step.new.view.below) (reached c.loop-act.view c.loop-act.turn) (reached c.step.new.view c.step.new.turn) c.loop-act.turn.token c.step.new.turn.token c.in-Some.act c.in_ok-next.field-0 c.in-Rules.mode c.in-Rules.fostering c.loop-act.invariant (sym c.act.ensures.value ∙ c.in-Some.is)
    (record { plan = c.in_ok-next.ensures.plan follow go; later = c.in_ok-next.ensures.later; goes = c.in_ok-next.ensures.goes; stays = c.in_ok-next.ensures.stays }) c.in-Rules.is in
    let deep : c.args.depth ≡ suc (c.args.depth - 1) = omega arith in
    used_again follow present c.args.fostering c.args.turn.now.token c.args.row.acts.now (g.B.Below.heard c.args.view.now.below) (reached c.args.view.now c.args.turn.now) c.loop-act.at (g.B.Below.heard c.loop-act.view.below) (g.B.Below.heard c.step.new.view.below) (g.B.Below.heard c.carry_row.new.view.below) (reached c.loop-act.view c.loop-act.turn) (reached c.step.new.view c.step.new.turn) (reached c.carry_row.new.view c.carry_row.new.turn) c.loop-act.turn.token c.step.new.turn.token c.carry_row.new.turn.token c.in-Some.act c.in-Rules.mode c.in-Rules.fostering x
    (came_again c.in_ok-carry_row-in-Rules.field-0 (g.B.Below.heard c.step.new.view.below) (g.B.Below.heard c.carry_row.new.view.below) (rules_plan c.args.depth c.args.turn.now.token c.in-Rules.fostering c.in-Rules.mode (reached c.step.new.view c.step.new.turn)) c.carry_row.new.turn.token (reached c.carry_row.new.view c.carry_row.new.turn)
    (nested_comes (Ok c.in_ok-carry_row-in-Rules.field-0) (g.B.Below.heard c.step.new.view.below) (g.B.Below.heard c.carry_row.new.view.below) c.args.depth (c.args.depth - 1) c.args.turn.now.token c.step.new.turn.token c.carry_row.new.turn.token c.in-Rules.fostering c.in-Rules.mode c.row_in-used.result.acts.now (reached c.step.new.view c.step.new.turn) (reached c.carry_row.new.view c.carry_row.new.turn) deep x.whole c.row_in-used.ensures c.in_ok-carry_row-in-Rules.ensures.plan) c.if-branch.true)

pub loop-act-preserved : goal.loop-act-preserved
loop-act-preserved g t c =
    let follow = rules_plan c.args.depth c.args.turn.now.token in
    let present = present_plan (rules_plan c.args.depth c.args.turn.now.token) c.args.present in
    let go = rest_behind follow present c.args.fostering c.args.turn.now.token c.args.row.acts.now c.loop-act.at in
    let x = using_at follow present c.args.fostering c.args.turn.now.token c.args.row.acts.now (g.B.Below.heard c.args.view.now.below) (reached c.args.view.now c.args.turn.now) c.loop-act.at (g.B.Below.heard c.loop-act.view.below) (g.B.Below.heard c.step.new.view.below) (reached c.loop-act.view c.loop-act.turn) (reached c.step.new.view c.step.new.turn) c.loop-act.turn.token c.step.new.turn.token c.in-Some.act c.in_ok-next.field-0 c.in-Rules.mode c.in-Rules.fostering c.loop-act.invariant (sym c.act.ensures.value ∙ c.in-Some.is)
    (record { plan = c.in_ok-next.ensures.plan follow go; later = c.in_ok-next.ensures.later; goes = c.in_ok-next.ensures.goes; stays = c.in_ok-next.ensures.stays }) c.in-Rules.is in
    let deep : c.args.depth ≡ suc (c.args.depth - 1) = omega arith in
    used_to follow present c.args.fostering c.args.turn.now.token c.args.row.acts.now (g.B.Below.heard c.args.view.now.below) (reached c.args.view.now c.args.turn.now) c.loop-act.at (g.B.Below.heard c.loop-act.view.below) (g.B.Below.heard c.step.new.view.below) (g.B.Below.heard c.carry_row.new.view.below) (reached c.loop-act.view c.loop-act.turn) (reached c.step.new.view c.step.new.turn) (reached c.carry_row.new.view c.carry_row.new.turn) c.loop-act.turn.token c.step.new.turn.token c.carry_row.new.turn.token c.in-Some.act c.in-Rules.mode c.in-Rules.fostering x
    (came_left c.in_ok-carry_row-in-Rules.field-0 (g.B.Below.heard c.step.new.view.below) (g.B.Below.heard c.carry_row.new.view.below) (rules_plan c.args.depth c.args.turn.now.token c.in-Rules.fostering c.in-Rules.mode (reached c.step.new.view c.step.new.turn)) c.carry_row.new.turn.token (reached c.carry_row.new.view c.carry_row.new.turn)
    (nested_comes (Ok c.in_ok-carry_row-in-Rules.field-0) (g.B.Below.heard c.step.new.view.below) (g.B.Below.heard c.carry_row.new.view.below) c.args.depth (c.args.depth - 1) c.args.turn.now.token c.step.new.turn.token c.carry_row.new.turn.token c.in-Rules.fostering c.in-Rules.mode c.row_in-used.result.acts.now (reached c.step.new.view c.step.new.turn) (reached c.carry_row.new.view c.carry_row.new.turn) deep x.whole c.row_in-used.ensures c.in_ok-carry_row-in-Rules.ensures.plan) c.if-branch.false)
    (c.in_ok-carry_row-in-Rules.ensures.left c.if-branch.false)

pub returns : goal.returns
returns g t c =
    let follow = rules_plan c.args.depth c.args.turn.now.token in
    let present = present_plan (rules_plan c.args.depth c.args.turn.now.token) c.args.present in
    record {
      plan = ends_past follow present c.args.fostering c.args.turn.now.token c.args.row.acts.now (g.B.Below.heard c.args.view.now.below) (reached c.args.view.now c.args.turn.now) c.loop-act.at (g.B.Below.heard c.loop-act.view.below) (reached c.loop-act.view c.loop-act.turn) c.loop-act.turn.token c.loop-act.invariant (sym c.act.ensures.value ∙ c.in_default.is);
      left = λ e. so_left follow present c.args.fostering c.args.turn.now.token c.args.row.acts.now (g.B.Below.heard c.args.view.now.below) (reached c.args.view.now c.args.turn.now) c.loop-act.at (g.B.Below.heard c.loop-act.view.below) (reached c.loop-act.view c.loop-act.turn) c.loop-act.turn.token c.loop-act.invariant;
    }
