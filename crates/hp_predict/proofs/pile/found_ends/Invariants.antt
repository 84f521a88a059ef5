use Rattle.std.proofs.Common.{◌≡◌, ◌≤◌, ◌++◌, length, take, drop}
use Rattle.hp_predict.specs.Guess.{with_ends}
use Rattle.hp_predict.proofs.pile.found_ends.Given as goal

abbrev pub invariant-loop-depth : goal.invariant-loop-depth
invariant-loop-depth l = record {
  within : l.found ≤ length l.ends;
  found : with_ends l.names l.ends ≡ take l.depth l.names ++ with_ends (drop l.depth l.names) (drop l.found l.ends);
}
