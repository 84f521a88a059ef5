use Rattle.std.proofs.Common.{◌≡◌, ◌+◌, ◌-◌, ◌++◌, length, drop}
use Rattle.hp_predict.specs.OpenNames.{Names}
use Rattle.hp_predict.specs.Piling.{IsOf}
use Rattle.hp_predict.proofs.pile.put_ends.Given as goal

abbrev pub invariant-loop-gone : goal.invariant-loop-gone
invariant-loop-gone l = record {
  of : (base : Names) → IsOf base l.fn.pile → IsOf (drop (length l.ends - l.gone) l.ends ++ base) l.pile;
  count : length l.pile.stack ≡ length l.fn.pile.stack + l.gone;
}
