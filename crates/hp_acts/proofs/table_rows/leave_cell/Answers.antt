use Rattle.hp_elements.specs.declared.token.Mode.TheVariants as mode
use Rattle.hp_views.specs.FieldPlans.{switch_plan}
use Rattle.hp_views.specs.ListPlans.{clear_plan}
use Rattle.hp_views.specs.View.{sight}
use Rattle.hp_acts.proofs.UsualRuns.{carries_failed, carries_next}
use Rattle.hp_acts.proofs.table_rows.leave_cell.Goals as goal

pub returns-in_err-clear_to_marker : goal.returns-in_err-clear_to_marker
returns-in_err-clear_to_marker g c =
    carries_failed c.from_residual.result c.in_err-clear_to_marker.field-0.0 (sight g.B.Below.heard c.args.view.now) (sight g.B.Below.heard c.clear_to_marker.new.self)
    clear_plan (switch_plan mode.InRow) c.from_residual.ensures.1 c.in_err-clear_to_marker.ensures

pub returns : goal.returns
returns g c =
    carries_next c.switch_to.result (sight g.B.Below.heard c.args.view.now) (sight g.B.Below.heard c.clear_to_marker.new.self) (sight g.B.Below.heard c.switch_to.new.self)
    clear_plan (switch_plan mode.InRow) c.in_ok-clear_to_marker.ensures c.switch_to.ensures
