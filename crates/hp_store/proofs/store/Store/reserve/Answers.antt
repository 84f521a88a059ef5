use Rattle.hp_store.proofs.Whole.{IsSound-wider}
use Rattle.hp_store.proofs.store.Store.reserve.Goals as goal

pub invariant_of-self : goal.invariant_of-self
invariant_of-self c = IsSound-wider c.self.inside c.widen.new.self c.self.invariant c.widen.ensures.wider
