use Rattle.std.proofs.Common.{ℕ, List, Some, Ok, Err, ap}
use Rattle.hp_elements.specs.declared.token.Mode.TheVariants as mode
use Rattle.hp_control.specs.declared.change.Change.{Change}
use Rattle.hp_views.specs.View.{sight, split_of}
use Rattle.hp_acts.proofs.TableRuns.{begin_done, begin_refused, carried_behind}
use Rattle.hp_acts.proofs.table_text.begin.Goals as goal

pub returns-in-Ok : goal.returns-in-Ok
returns-in-Ok g c =
    let change : List ℕ → Change = λ p. record c.args.view.now.change { mode = mode.InTableText; original = Some c.args.view.now.change.mode; pending = p } in
    begin_done (sight g.B.Below.heard c.args.view.now) (sight g.B.Below.heard c.append_pending.new.view) c.args.token.now c.requires
    (carried_behind (Ok tt) (g.B.Below.heard c.args.view.now.below) (sight g.B.Below.heard c.append_pending.new.view) c.args.token.now (split_of c.args.view.now) (change c.new.result) (ap change c.new.ensures) c.in-Ok.ensures.plan)

pub returns-in-Err : goal.returns-in-Err
returns-in-Err g c =
    let change : List ℕ → Change = λ p. record c.args.view.now.change { mode = mode.InTableText; original = Some c.args.view.now.change.mode; pending = p } in
    begin_refused c.in-Err.refused (sight g.B.Below.heard c.args.view.now) (sight g.B.Below.heard c.append_pending.new.view) c.args.token.now c.requires
    (carried_behind (Err c.in-Err.refused) (g.B.Below.heard c.args.view.now.below) (sight g.B.Below.heard c.append_pending.new.view) c.args.token.now (split_of c.args.view.now) (change c.new.result) (ap change c.new.ensures) c.in-Err.ensures.plan)
