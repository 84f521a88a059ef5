use Rattle.std.proofs.Common.{false}
use Rattle.hp_elements.specs.declared.kinds.Kinds.TheVariants as kinds
use Rattle.hp_elements.specs.declared.sets.SetName.TheVariants as set
use Rattle.hp_elements.specs.declared.token.Mode.TheVariants as mode
use Rattle.hp_views.specs.FieldPlans.{switch_plan}
use Rattle.hp_views.specs.PlacePlans.{insert_plan}
use Rattle.hp_views.specs.StackPlans.{pop_to_plan}
use Rattle.hp_views.specs.View.{sight}
use Rattle.hp_acts.specs.Usual.{row_after_plan}
use Rattle.hp_acts.proofs.UsualRuns.{carries_failed, carries_next}
use Rattle.hp_acts.proofs.table_rows.begin_row.Goals as goal

pub returns-in_err-pop_to : goal.returns-in_err-pop_to
returns-in_err-pop_to g c =
    carries_failed c.from_residual.result c.in_err-pop_to.field-0.0 (sight g.B.Below.heard c.args.view.now) (sight g.B.Below.heard c.pop_to.new.self)
    (pop_to_plan (kinds.Set set.TableBodyContext)) (row_after_plan c.args.tag.now) c.from_residual.ensures.1 c.in_err-pop_to.ensures

pub returns-in_err-insert : goal.returns-in_err-insert
returns-in_err-insert g c =
    carries_next c.from_residual-in_err-insert.result (sight g.B.Below.heard c.args.view.now) (sight g.B.Below.heard c.pop_to.new.self) (sight g.B.Below.heard c.insert.new.view)
    (pop_to_plan (kinds.Set set.TableBodyContext)) (row_after_plan c.args.tag.now) c.in_ok-pop_to.ensures (carries_failed c.from_residual-in_err-insert.result c.in_err-insert.field-0.0 (sight g.B.Below.heard c.pop_to.new.self) (sight g.B.Below.heard c.insert.new.view)
    (insert_plan false c.args.tag.now) (switch_plan mode.InRow) c.from_residual-in_err-insert.ensures.1 c.in_err-insert.ensures)

pub returns : goal.returns
returns g c =
    carries_next c.switch_to.result (sight g.B.Below.heard c.args.view.now) (sight g.B.Below.heard c.pop_to.new.self) (sight g.B.Below.heard c.switch_to.new.self)
    (pop_to_plan (kinds.Set set.TableBodyContext)) (row_after_plan c.args.tag.now) c.in_ok-pop_to.ensures (carries_next c.switch_to.result (sight g.B.Below.heard c.pop_to.new.self) (sight g.B.Below.heard c.insert.new.view) (sight g.B.Below.heard c.switch_to.new.self)
    (insert_plan false c.args.tag.now) (switch_plan mode.InRow) c.in_ok-insert.ensures c.switch_to.ensures)
