use Rattle.std.proofs.Common.{ap, ◌∙◌}
use Rattle.hp_store.specs.Store.{Stored}
use Rattle.hp_store.specs.Parts.{free_of}
use Rattle.hp_store.proofs.Shrinking.{IsSound-same, seen-same}
use Rattle.hp_store.proofs.store.Store.shrink.Goals as goal

pub invariant_of-self : goal.invariant_of-self
invariant_of-self c = IsSound-same c.self.inside c.shrink.new.self c.self.invariant c.shrink.ensures

pub returns : goal.returns
returns c = seen-same c.self.inside c.shrink.new.self c.shrink.ensures ∙ ap (λ (s : Stored). record s { free = free_of c.shrink.new.self }) c.self.view_is
