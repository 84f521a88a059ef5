use Rattle.std.proofs.Common.{◌≡◌, drop}
use Rattle.hp_views.specs.ResetPlans.{reset_on}
use Rattle.hp_views.specs.View.{split_of}
use Rattle.hp_views.proofs.view.View.reset.Given as goal

abbrev pub invariant-loop-depth : goal.invariant-loop-depth
invariant-loop-depth g l = (l.self ≡ l.initial.self) × (reset_on (split_of l.self) (drop l.depth l.self.change.stack) ≡ reset_on (split_of l.self) l.self.change.stack)
