use Rattle.std.proofs.Common.{◌≡◌}
use Rattle.hp_control.specs.Walks.{among}
use Rattle.hp_control.proofs.tags.are_among.Given as goal

abbrev pub invariant-loop-attribute : goal.invariant-loop-attribute
invariant-loop-attribute l = among l.attribute-iterator l.those ≡ among l.these l.those
