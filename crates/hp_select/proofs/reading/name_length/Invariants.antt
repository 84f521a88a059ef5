use Rattle.std.proofs.Common.{◌≡◌, ◌+◌, drop}
use Rattle.std.specs.List.{prefix_len}
use Rattle.hp_select.specs.Grammar.{goes_on_name}
use Rattle.hp_select.proofs.reading.name_length.Given as goal

abbrev pub invariant-loop-at : goal.invariant-loop-at
invariant-loop-at l = l.at + prefix_len goes_on_name (drop l.at l.text) ≡ prefix_len goes_on_name l.text
