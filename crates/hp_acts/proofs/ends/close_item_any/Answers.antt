use Rattle.std.proofs.Common.{◌≡◌, ℕ, Bool, true, false, List, Result, Ok, subst}
use Rattle.hp_control.specs.Plan.{followed_by}
use Rattle.hp_control.specs.Running.{runs_gives}
use Rattle.hp_control.specs.declared.change.Refusal.{Refusal}
use Rattle.hp_elements.specs.KnownNames as known
use Rattle.hp_elements.specs.Names.{text_of}
use Rattle.hp_elements.specs.declared.act.Scope.TheVariants as scope
use Rattle.hp_elements.specs.declared.kinds.Kinds.TheVariants as kinds
use Rattle.hp_views.specs.ClosingPlans.{implied_except_plan}
use Rattle.hp_views.specs.StackPlans.{in_scope_plan, through_plan}
use Rattle.hp_views.specs.View.{Carries, Finds, Sight, sight}
use Rattle.hp_acts.specs.Usual.{item_end_by, item_end_plan}
use Rattle.hp_acts.proofs.UsualRuns.{carries_failed, carries_next, carries_then}
use Rattle.hp_acts.proofs.ends.close_item_any.Goals as goal

-- where it was found out whether an item is in scope
where_found : (result : Result (Unit {0}) Refusal) (old mid new : Sight) (name : List ℕ) (is_open found : Bool) → name ≡ text_of known.Li → is_open ≡ found
    → Finds old mid (in_scope_plan scope.ListItem (kinds.Html name)) is_open → Carries result mid new (λ v. item_end_by v found) → Carries result old new item_end_plan
where_found result old mid new name is_open found named is f k =
    let P : Bool → Type 0 = λ b. Finds old mid (in_scope_plan scope.ListItem (kinds.Html name)) b in
    let Q : List ℕ → Type 0 = λ n. Carries result old new (λ v. followed_by (in_scope_plan scope.ListItem (kinds.Html n) v) (item_end_by v)) in
    subst Q named (carries_then result old mid new (in_scope_plan scope.ListItem (kinds.Html name)) item_end_by found (subst P is f) k)

pub returns-then-not-is_open : goal.returns-then-not-is_open
returns-then-not-is_open g c =
    let new = (sight g.B.Below.heard c.in_scope.new.self) in
    where_found (Ok tt) (sight g.B.Below.heard c.args.view.now) new new c.of_known.result c.in_ok-is_open.is_open false c.of_known.ensures c.if-not-is_open.true c.in_ok-is_open.ensures
    (runs_gives new.heard new.split)

pub returns-in_err-implied_except : goal.returns-in_err-implied_except
returns-in_err-implied_except g c =
    where_found c.from_residual-in_err-implied_except.result (sight g.B.Below.heard c.args.view.now) (sight g.B.Below.heard c.in_scope.new.self) (sight g.B.Below.heard c.implied_except.new.self) c.of_known.result c.in_ok-is_open.is_open true c.of_known.ensures c.if-not-is_open.false c.in_ok-is_open.ensures
    (carries_failed c.from_residual-in_err-implied_except.result c.in_err-implied_except.field-0.0 (sight g.B.Below.heard c.in_scope.new.self) (sight g.B.Below.heard c.implied_except.new.self)
    (implied_except_plan known.Li) (through_plan (kinds.Html (text_of known.Li)) kinds.Nothing) c.from_residual-in_err-implied_except.ensures.1 c.in_err-implied_except.ensures)

pub returns : goal.returns
returns g c =
    let Q : List ℕ → Type 0 = λ name. Carries c.through_named.result (sight g.B.Below.heard c.in_scope.new.self) (sight g.B.Below.heard c.through_named.new.self) (λ v. followed_by (implied_except_plan known.Li v) (through_plan (kinds.Html name) kinds.Nothing)) in
    where_found c.through_named.result (sight g.B.Below.heard c.args.view.now) (sight g.B.Below.heard c.in_scope.new.self) (sight g.B.Below.heard c.through_named.new.self) c.of_known.result c.in_ok-is_open.is_open true c.of_known.ensures c.if-not-is_open.false c.in_ok-is_open.ensures
    (subst Q c.of_known-2.ensures
    (carries_next c.through_named.result (sight g.B.Below.heard c.in_scope.new.self) (sight g.B.Below.heard c.implied_except.new.self) (sight g.B.Below.heard c.through_named.new.self)
    (implied_except_plan known.Li) (through_plan (kinds.Html c.of_known-2.result) kinds.Nothing) c.in_ok-implied_except.ensures c.through_named.ensures))
