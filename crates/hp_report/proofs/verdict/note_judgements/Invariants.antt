use Rattle.std.proofs.Common.{◌≡◌, length, map, reverse}
use Rattle.hp_report.specs.Noting.{first_said}
use Rattle.hp_report.proofs.verdict.note_judgements.Given as goal

abbrev pub invariant-loop-entry : goal.invariant-loop-entry
invariant-loop-entry l = l.verdicts ≡ first_said (length l.initial.verdicts) (reverse (map (λ e. e.now) l.yielded))
