use Rattle.std.proofs.Common.{◌+◌, ◌≤◌, All, vec_len}
use Rattle.hp_store.specs.Leaves.{IsCell}
use Rattle.hp_store.proofs.runs.add_cells.Given as goal

abbrev pub invariant-loop : goal.invariant-loop
invariant-loop l = record { cell : All IsCell l.cells.items; more : vec_len l.initial.cells + l.counter ≤ vec_len l.cells }
