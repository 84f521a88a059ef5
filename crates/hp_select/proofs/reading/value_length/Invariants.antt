use Rattle.std.proofs.Common.{◌≡◌, ◌+◌, drop}
use Rattle.std.specs.List.{prefix_len}
use Rattle.hp_select.specs.Grammar.{is_in_value}
use Rattle.hp_select.proofs.reading.value_length.Given as goal

abbrev pub invariant-loop-at : goal.invariant-loop-at
invariant-loop-at l = l.at + prefix_len is_in_value (drop l.at l.text) ≡ prefix_len is_in_value l.text
