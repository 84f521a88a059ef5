-- What is known of an edit by the way that it goes.
use Rattle.std.proofs.Common.{◌≡◌, Bool, true, false, refl}
use Rattle.hp_growth.specs.Reaching.{way}
use Rattle.hp_growth.specs.declared.reaching.Way.TheVariants.{Outer, Inner}

pub way-outer : (made reaching : Bool) → way made reaching ≡ Outer → (made ≡ true) × (reaching ≡ true)
way-outer true true h = (refl, refl)
way-outer true false h = absurd (cc)
way-outer false reaching h = absurd (cc)

pub way-inner : (made reaching : Bool) → way made reaching ≡ Inner → (made ≡ true) × (reaching ≡ false)
way-inner true false h = (refl, refl)
way-inner true true h = absurd (cc)
way-inner false reaching h = absurd (cc)
