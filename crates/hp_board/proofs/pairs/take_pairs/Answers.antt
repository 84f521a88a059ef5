use Rattle.std.proofs.Common.{ap, drop, ◌∙◌}
use Rattle.std.proofs.lemmas.List.{drop-drop}
use Rattle.hp_board.proofs.pairs.take_pairs.Goals as goal

pub loop-turn-preserved : goal.loop-turn-preserved
loop-turn-preserved c = c.take_pair.ensures ∙ (ap (drop 1) c.loop-turn.invariant ∙ drop-drop 1 c.loop-turn._turn c.args.pairs.now)
