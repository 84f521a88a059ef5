use Rattle.std.proofs.Common.{◌≡◌}
use Rattle.std.specs.List.{list_any}
use Rattle.hp_control.specs.Walks.{same_attribute}
use Rattle.hp_control.proofs.tags.is_among.Given as goal

abbrev pub invariant-loop-other : goal.invariant-loop-other
invariant-loop-other l = list_any (λ other. same_attribute l.attribute other) l.other-iterator ≡ list_any (λ other. same_attribute l.attribute other) l.those
