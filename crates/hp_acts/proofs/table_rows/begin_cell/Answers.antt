use Rattle.std.proofs.Common.{false}
use Rattle.hp_elements.specs.declared.kinds.Kinds.TheVariants as kinds
use Rattle.hp_elements.specs.declared.sets.SetName.TheVariants as set
use Rattle.hp_elements.specs.declared.token.Mode.TheVariants as mode
use Rattle.hp_views.specs.FieldPlans.{switch_plan}
use Rattle.hp_views.specs.ListPlans.{marker_plan}
use Rattle.hp_views.specs.PlacePlans.{insert_plan}
use Rattle.hp_views.specs.StackPlans.{pop_to_plan}
use Rattle.hp_views.specs.View.{sight}
use Rattle.hp_acts.specs.Usual.{cell_after_plan, cell_begun_plan}
use Rattle.hp_acts.proofs.UsualRuns.{carries_failed, carries_next}
use Rattle.hp_acts.proofs.table_rows.begin_cell.Goals as goal

pub returns-in_err-pop_to : goal.returns-in_err-pop_to
returns-in_err-pop_to g c =
    carries_failed c.from_residual.result c.in_err-pop_to.field-0.0 (sight g.B.Below.heard c.args.view.now) (sight g.B.Below.heard c.pop_to.new.self)
    (pop_to_plan (kinds.Set set.TableRowContext)) (cell_after_plan c.args.tag.now) c.from_residual.ensures.1 c.in_err-pop_to.ensures

pub returns-in_err-insert : goal.returns-in_err-insert
returns-in_err-insert g c =
    carries_next c.from_residual-in_err-insert.result (sight g.B.Below.heard c.args.view.now) (sight g.B.Below.heard c.pop_to.new.self) (sight g.B.Below.heard c.insert.new.view)
    (pop_to_plan (kinds.Set set.TableRowContext)) (cell_after_plan c.args.tag.now) c.in_ok-pop_to.ensures (carries_failed c.from_residual-in_err-insert.result c.in_err-insert.field-0.0 (sight g.B.Below.heard c.pop_to.new.self) (sight g.B.Below.heard c.insert.new.view)
    (insert_plan false c.args.tag.now) cell_begun_plan c.from_residual-in_err-insert.ensures.1 c.in_err-insert.ensures)

pub returns-in_err-switch_to : goal.returns-in_err-switch_to
returns-in_err-switch_to g c =
    carries_next c.from_residual-in_err-switch_to.result (sight g.B.Below.heard c.args.view.now) (sight g.B.Below.heard c.pop_to.new.self) (sight g.B.Below.heard c.switch_to.new.self)
    (pop_to_plan (kinds.Set set.TableRowContext)) (cell_after_plan c.args.tag.now) c.in_ok-pop_to.ensures (carries_next c.from_residual-in_err-switch_to.result (sight g.B.Below.heard c.pop_to.new.self) (sight g.B.Below.heard c.insert.new.view) (sight g.B.Below.heard c.switch_to.new.self)
    (insert_plan false c.args.tag.now) cell_begun_plan c.in_ok-insert.ensures (carries_failed c.from_residual-in_err-switch_to.result c.in_err-switch_to.field-0.0 (sight g.B.Below.heard c.insert.new.view) (sight g.B.Below.heard c.switch_to.new.self)
    (switch_plan mode.InCell) marker_plan c.from_residual-in_err-switch_to.ensures.1 c.in_err-switch_to.ensures))

pub returns : goal.returns
returns g c =
    carries_next c.add_marker.result (sight g.B.Below.heard c.args.view.now) (sight g.B.Below.heard c.pop_to.new.self) (sight g.B.Below.heard c.add_marker.new.self)
    (pop_to_plan (kinds.Set set.TableRowContext)) (cell_after_plan c.args.tag.now) c.in_ok-pop_to.ensures (carries_next c.add_marker.result (sight g.B.Below.heard c.pop_to.new.self) (sight g.B.Below.heard c.insert.new.view) (sight g.B.Below.heard c.add_marker.new.self)
    (insert_plan false c.args.tag.now) cell_begun_plan c.in_ok-insert.ensures (carries_next c.add_marker.result (sight g.B.Below.heard c.insert.new.view) (sight g.B.Below.heard c.switch_to.new.self) (sight g.B.Below.heard c.add_marker.new.self)
    (switch_plan mode.InCell) marker_plan c.in_ok-switch_to.ensures c.add_marker.ensures))
