use Rattle.std.proofs.Common.{arith, refl}
use Rattle.hp_views.specs.View.{sight, split_of}
use Rattle.hp_acts.specs.HandlePlans.{most_turns}
use Rattle.hp_acts.proofs.UsualRuns.{in_all_turns, none_dropped}
use Rattle.hp_acts.proofs.turns.handle.Goals as goal

pub returns-in-Some : goal.returns-in-Some
returns-in-Some g c =
    record {
      plan = none_dropped c.handle_usual.result (sight g.B.Below.heard c.args.view.now) (sight g.B.Below.heard c.handle_usual.new.view) c.args.token c.if-view.false
          (in_all_turns c.handle_usual.result (sight g.B.Below.heard c.args.view.now) (sight g.B.Below.heard c.handle_usual.new.view) c.args.token (most_turns (split_of c.args.view.now)) refl
          (c.handle_usual.ensures (most_turns (split_of c.args.view.now)) (omega arith)));
    }

pub returns : goal.returns
returns g c =
    record {
      plan = none_dropped c.handle_other.result (sight g.B.Below.heard c.args.view.now) (sight g.B.Below.heard c.handle_other.new.view) c.args.token c.if-view.false c.handle_other.ensures;
    }
