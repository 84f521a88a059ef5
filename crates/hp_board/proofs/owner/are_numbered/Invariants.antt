-- The numbers so far are borne once.
use Rattle.std.proofs.Common.{◌≡◌, ◌==◌, ◌<◌, ℕ}
use Rattle.std.specs.Prelude.{count_by}
use Rattle.hp_board.proofs.owner.are_numbered.Given as goal

abbrev pub invariant-loop-worker : goal.invariant-loop-worker
invariant-loop-worker l = (worker : ℕ) → worker < l.worker → count_by (λ t. t.worker == worker) l.tallies ≡ 1
