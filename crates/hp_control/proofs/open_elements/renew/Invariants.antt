use Rattle.std.proofs.Common.{◌≡◌, ◌-◌, drop}
use Rattle.hp_control.specs.Standings.{elements_of, summaries_of, AreSummaries}
use Rattle.hp_control.proofs.open_elements.renew.Given as goal

abbrev pub invariant-loop-turn : goal.invariant-loop-turn
invariant-loop-turn l = (elements_of l.standing ≡ elements_of l.initial.standing) × AreSummaries (drop (l.count - l.turn) (elements_of l.standing)) (drop (l.count - l.turn) (summaries_of l.standing))
