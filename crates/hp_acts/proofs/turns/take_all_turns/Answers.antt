use Rattle.std.proofs.Common.{◌+◌, ◌*◌, ◌^◌, ◌∙◌, ap}
use Rattle.hp_views.specs.View.{sight}
use Rattle.hp_acts.proofs.UsualRuns.{in_all_turns}
use Rattle.hp_acts.proofs.turns.take_all_turns.Goals as goal

pub returns : goal.returns
returns g c = in_all_turns c.take_turns.result (sight g.B.Below.heard c.args.view.now) (sight g.B.Below.heard c.take_turns.new.view) c.args.token c.most_turns-most.result (c.most_turns-most.ensures ∙ ap (λ n. 32 + 16 * (2 ^ 60 + n)) c.len.ensures) c.take_turns.ensures
