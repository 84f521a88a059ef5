use Rattle.std.specs.Prelude.{Ok, ◌+◌, ◌<◌, ◌≤◌, length, drop, []}
use Rattle.std.proofs.Common.{◌≡◌, arith, ap, sym, ◌∙◌}
use Rattle.std.proofs.lemmas.List.{drop_all}
use Rattle.hp_control.specs.Plan.{gives}
use Rattle.hp_control.specs.Running.{runs_then}
use Rattle.hp_control.specs.Walks.{select_mode}
use Rattle.hp_views.specs.ResetPlans.{reset_on, reset_plan, select_plan, table_plan, to_mode}
use Rattle.hp_views.specs.View.{Sight, sight, split_of}
use Rattle.hp_views.proofs.AtOnce.{gives_at_once, gives_same}
use Rattle.hp_views.proofs.Carrying.{carries_then}
use Rattle.hp_views.proofs.Resetting.{reset_passes, reset_selects, reset_goes, carries_on}
use Rattle.hp_views.proofs.view.View.reset.Goals.{then-branch, else-branch}
use Rattle.hp_views.proofs.view.View.reset.Goals as goal

pub returns-in-Select : goal.returns-in-Select
returns-in-Select g c =
    let heard = g.B.Below.heard in
    let now = c.loop-depth.self in
    let st = now.change.stack in
    let k = c.loop-depth.depth in
    let there : k < length st = omega (arith, c.loop-depth-test.true, c.loop-depth.auto.depth-end, c.len-depth-end.ensures, ap (λ v. length v.change.stack) c.loop-depth.invariant.0) in
    let done = reset_selects (split_of now) k st there (sym c.decides_at.ensures ∙ c.in-Select.is) ∙ c.loop-depth.invariant.1 in
    let mid = sight heard c.table_comes.new.self in
    let table = c.in_ok-table_comes-in-Select.field-0 in
    let chosen : select_mode table ≡ c.if-branch.self =
    elim c.if-branch.branch [
      | then-branch w ↦ ap select_mode w.if-branch.true ∙ sym w.self-is
      | else-branch w ↦ ap select_mode w.if-branch.false ∙ sym w.self-is
    ] in
    let new : Sight = record { heard = mid.heard; split = to_mode mid.split c.if-branch.self } in
    carries_on heard now c.args.self.now (Ok tt) new (λ v. select_plan v (drop (k + 1) st)) reset_plan c.loop-depth.invariant.0 done
    (carries_then (Ok tt) (sight heard now) mid new (λ v. table_plan v (drop (k + 1) st)) (λ v b. gives (to_mode v (select_mode b))) table c.in_ok-table_comes-in-Select.ensures
    (gives_same mid.heard (to_mode mid.split (select_mode table)) new.split (ap (to_mode mid.split) chosen)))

pub returns-in-To : goal.returns-in-To
returns-in-To g c =
    let heard = g.B.Below.heard in
    let now = c.loop-depth.self in
    let st = now.change.stack in
    let k = c.loop-depth.depth in
    let there : k < length st = omega (arith, c.loop-depth-test.true, c.loop-depth.auto.depth-end, c.len-depth-end.ensures, ap (λ v. length v.change.stack) c.loop-depth.invariant.0) in
    let done = reset_goes (split_of now) k st c.in-To.mode there (sym c.decides_at.ensures ∙ c.in-To.is) ∙ c.loop-depth.invariant.1 in
    let new : Sight = record { heard = heard now.below; split = to_mode (split_of now) c.in-To.mode } in
    carries_on heard now c.args.self.now (Ok tt) new (λ v. gives (to_mode v c.in-To.mode)) reset_plan c.loop-depth.invariant.0 done (gives_at_once new.heard new.split)

pub loop-depth-preserved : goal.loop-depth-preserved
loop-depth-preserved g c =
    let now = c.loop-depth.self in
    let st = now.change.stack in
    let k = c.loop-depth.depth in
    let there : k < length st = omega (arith, c.loop-depth-test.true, c.loop-depth.auto.depth-end, c.len-depth-end.ensures, ap (λ v. length v.change.stack) c.loop-depth.invariant.0) in
    (c.loop-depth.invariant.0, reset_passes (split_of now) k st there (sym c.decides_at.ensures ∙ c.in-Nothing.is) ∙ c.loop-depth.invariant.1)

pub returns : goal.returns
returns g c =
    let heard = g.B.Below.heard in
    let now = c.loop-depth.self in
    let st = now.change.stack in
    let k = c.loop-depth.depth in
    let over : length st ≤ k = omega (arith, c.loop-depth-test.false, c.loop-depth.auto.depth-end, c.len-depth-end.ensures, ap (λ v. length v.change.stack) c.loop-depth.invariant.0) in
    let done = ap (reset_on (split_of now)) (sym (drop_all k st over)) ∙ c.loop-depth.invariant.1 in
    let new : Sight = record { heard = heard c.older_reset.new.below; split = to_mode (split_of now) c.in_ok-mode.mode } in
    carries_on heard now c.args.self.now (Ok tt) new (λ v. reset_on v []) reset_plan c.loop-depth.invariant.0 done
    (runs_then (λ m. gives (to_mode (split_of now) m)) c.in_ok-mode.ensures (gives_at_once new.heard new.split))
