use Rattle.std.proofs.Common.{◌≡◌, ℕ, Bool, true, false, List, Result, Ok, subst}
use Rattle.hp_control.specs.Running.{runs_gives}
use Rattle.hp_control.specs.declared.change.Refusal.{Refusal}
use Rattle.hp_elements.specs.declared.act.Scope.TheVariants as scope
use Rattle.hp_elements.specs.declared.kinds.Kinds.TheVariants as kinds
use Rattle.hp_views.specs.ClosingPlans.{implied_plan}
use Rattle.hp_views.specs.StackPlans.{in_scope_plan, through_plan}
use Rattle.hp_acts.specs.Usual.{block_end_by, block_end_plan}
use Rattle.hp_views.specs.View.{Carries, Finds, Sight, sight}
use Rattle.hp_acts.proofs.UsualRuns.{carries_failed, carries_next, carries_then}
use Rattle.hp_acts.proofs.ends.close_block_any.Goals as goal

-- where it was found out whether one is in scope
where_found : (result : Result (Unit {0}) Refusal) (old mid new : Sight) (name : List ℕ) (is_open found : Bool) → is_open ≡ found
    → Finds old mid (in_scope_plan scope.Default (kinds.Html name)) is_open → Carries result mid new (λ v. block_end_by name v found) → Carries result old new (block_end_plan name)
where_found result old mid new name is_open found is f k =
    let P : Bool → Type 0 = λ b. Finds old mid (in_scope_plan scope.Default (kinds.Html name)) b in
    carries_then result old mid new (in_scope_plan scope.Default (kinds.Html name)) (block_end_by name) found (subst P is f) k

pub returns-then-not-is_open : goal.returns-then-not-is_open
returns-then-not-is_open g c =
    let new = (sight g.B.Below.heard c.in_scope.new.self) in
    let P : List ℕ → Type 0 = λ name. Finds (sight g.B.Below.heard c.args.view.now) new (in_scope_plan scope.Default (kinds.Html name)) c.in_ok-is_open.is_open in
    where_found (Ok tt) (sight g.B.Below.heard c.args.view.now) new new c.args.name c.in_ok-is_open.is_open false c.if-not-is_open.true (subst P c.in_ok-copy.ensures c.in_ok-is_open.ensures) (runs_gives new.heard new.split)

pub returns-in_err-implied : goal.returns-in_err-implied
returns-in_err-implied g c =
    let P : List ℕ → Type 0 = λ name. Finds (sight g.B.Below.heard c.args.view.now) (sight g.B.Below.heard c.in_scope.new.self) (in_scope_plan scope.Default (kinds.Html name)) c.in_ok-is_open.is_open in
    where_found c.from_residual-in_err-implied.result (sight g.B.Below.heard c.args.view.now) (sight g.B.Below.heard c.in_scope.new.self) (sight g.B.Below.heard c.implied.new.self) c.args.name c.in_ok-is_open.is_open true c.if-not-is_open.false (subst P c.in_ok-copy.ensures c.in_ok-is_open.ensures)
    (carries_failed c.from_residual-in_err-implied.result c.in_err-implied.field-0.0 (sight g.B.Below.heard c.in_scope.new.self) (sight g.B.Below.heard c.implied.new.self)
    implied_plan (through_plan (kinds.Html c.args.name) kinds.Nothing) c.from_residual-in_err-implied.ensures.1 c.in_err-implied.ensures)

pub returns : goal.returns
returns g c =
    let P : List ℕ → Type 0 = λ name. Finds (sight g.B.Below.heard c.args.view.now) (sight g.B.Below.heard c.in_scope.new.self) (in_scope_plan scope.Default (kinds.Html name)) c.in_ok-is_open.is_open in
    where_found c.through.result (sight g.B.Below.heard c.args.view.now) (sight g.B.Below.heard c.in_scope.new.self) (sight g.B.Below.heard c.through.new.self) c.args.name c.in_ok-is_open.is_open true c.if-not-is_open.false (subst P c.in_ok-copy.ensures c.in_ok-is_open.ensures)
    (carries_next c.through.result (sight g.B.Below.heard c.in_scope.new.self) (sight g.B.Below.heard c.implied.new.self) (sight g.B.Below.heard c.through.new.self)
    implied_plan (through_plan (kinds.Html c.args.name) kinds.Nothing) c.in_ok-implied.ensures
    c.through.ensures)
