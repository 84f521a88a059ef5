use Rattle.std.proofs.Common.{◌≡◌, ℕ, Bool, true, false, List, Result, Ok, subst}
use Rattle.hp_control.specs.Plan.{followed_by}
use Rattle.hp_control.specs.Running.{runs_gives}
use Rattle.hp_control.specs.declared.change.Refusal.{Refusal}
use Rattle.hp_elements.specs.KnownNames as known
use Rattle.hp_elements.specs.Names.{text_of}
use Rattle.hp_elements.specs.declared.act.Scope.TheVariants as scope
use Rattle.hp_elements.specs.declared.kinds.Kinds.TheVariants as kinds
use Rattle.hp_elements.specs.declared.sets.SetName.TheVariants as set
use Rattle.hp_elements.specs.declared.token.Mode.TheVariants as mode
use Rattle.hp_views.specs.FieldPlans.{switch_plan}
use Rattle.hp_views.specs.StackPlans.{in_scope_plan, pop_plan, pop_to_plan}
use Rattle.hp_views.specs.View.{Carries, Finds, Sight, sight}
use Rattle.hp_acts.specs.Usual.{row_end_by, row_end_plan, row_left_plan}
use Rattle.hp_acts.proofs.UsualRuns.{carries_failed, carries_next, carries_then}
use Rattle.hp_acts.proofs.table_rows.end_row.Goals as goal

-- where it was found out whether a row is in scope
where_found : (result : Result (Unit {0}) Refusal) (old mid new : Sight) (name : List ℕ) (is_open found : Bool) → name ≡ text_of known.Tr → is_open ≡ found
    → Finds old mid (in_scope_plan scope.Table (kinds.Html name)) is_open → Carries result mid new (λ v. row_end_by v found) → Carries result old new row_end_plan
where_found result old mid new name is_open found named is f k =
    let P : Bool → Type 0 = λ b. Finds old mid (in_scope_plan scope.Table (kinds.Html name)) b in
    let Q : List ℕ → Type 0 = λ n. Carries result old new (λ v. followed_by (in_scope_plan scope.Table (kinds.Html n) v) (row_end_by v)) in
    subst Q named (carries_then result old mid new (in_scope_plan scope.Table (kinds.Html name)) row_end_by found (subst P is f) k)

pub returns-then-not-is_open : goal.returns-then-not-is_open
returns-then-not-is_open g c =
    let new = (sight g.B.Below.heard c.in_scope.new.self) in
    where_found (Ok tt) (sight g.B.Below.heard c.args.view.now) new new c.of_known.result c.in_ok-is_open.is_open false c.of_known.ensures c.if-not-is_open.true c.in_ok-is_open.ensures
    (runs_gives new.heard new.split)

pub returns-in_err-pop_to : goal.returns-in_err-pop_to
returns-in_err-pop_to g c =
    where_found c.from_residual-in_err-pop_to.result (sight g.B.Below.heard c.args.view.now) (sight g.B.Below.heard c.in_scope.new.self) (sight g.B.Below.heard c.pop_to.new.self) c.of_known.result c.in_ok-is_open.is_open true c.of_known.ensures c.if-not-is_open.false c.in_ok-is_open.ensures
    (carries_failed c.from_residual-in_err-pop_to.result c.in_err-pop_to.field-0.0 (sight g.B.Below.heard c.in_scope.new.self) (sight g.B.Below.heard c.pop_to.new.self)
    (pop_to_plan (kinds.Set set.TableRowContext)) row_left_plan c.from_residual-in_err-pop_to.ensures.1 c.in_err-pop_to.ensures)

pub returns-in_err-pop : goal.returns-in_err-pop
returns-in_err-pop g c =
    where_found c.from_residual-in_err-pop.result (sight g.B.Below.heard c.args.view.now) (sight g.B.Below.heard c.in_scope.new.self) (sight g.B.Below.heard c.pop.new.self) c.of_known.result c.in_ok-is_open.is_open true c.of_known.ensures c.if-not-is_open.false c.in_ok-is_open.ensures
    (carries_next c.from_residual-in_err-pop.result (sight g.B.Below.heard c.in_scope.new.self) (sight g.B.Below.heard c.pop_to.new.self) (sight g.B.Below.heard c.pop.new.self)
    (pop_to_plan (kinds.Set set.TableRowContext)) row_left_plan c.in_ok-pop_to.ensures
    (carries_failed c.from_residual-in_err-pop.result c.in_err-pop.field-0.0 (sight g.B.Below.heard c.pop_to.new.self) (sight g.B.Below.heard c.pop.new.self)
    pop_plan (switch_plan mode.InTableBody) c.from_residual-in_err-pop.ensures.1 c.in_err-pop.ensures))

pub returns : goal.returns
returns g c =
    where_found c.switch_to.result (sight g.B.Below.heard c.args.view.now) (sight g.B.Below.heard c.in_scope.new.self) (sight g.B.Below.heard c.switch_to.new.self) c.of_known.result c.in_ok-is_open.is_open true c.of_known.ensures c.if-not-is_open.false c.in_ok-is_open.ensures
    (carries_next c.switch_to.result (sight g.B.Below.heard c.in_scope.new.self) (sight g.B.Below.heard c.pop_to.new.self) (sight g.B.Below.heard c.switch_to.new.self)
    (pop_to_plan (kinds.Set set.TableRowContext)) row_left_plan c.in_ok-pop_to.ensures
    (carries_next c.switch_to.result (sight g.B.Below.heard c.pop_to.new.self) (sight g.B.Below.heard c.pop.new.self) (sight g.B.Below.heard c.switch_to.new.self)
    pop_plan (switch_plan mode.InTableBody) c.in_ok-pop.ensures
    c.switch_to.ensures))
