use Rattle.std.proofs.Common.{◌≡◌, ◌≤◌, drop}
use Rattle.hp_adoption.specs.ArkPlans.{tally}
use Rattle.hp_adoption.proofs.ark.equal_entries.Given as goal

abbrev pub invariant-loop-depth : goal.invariant-loop-depth
invariant-loop-depth l = (tally l.tag (drop l.depth l.list) l.count l.earliest ≡ tally l.tag l.list 0 0) × (l.count ≤ l.depth)
