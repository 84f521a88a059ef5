-- That the plans of adoption and of closing a link mean their acts.
use Rattle.std.specs.Prelude.{ℕ, Bool, List}
use Rattle.hp_control.specs.Adoption.{adopt}
use Rattle.hp_control.specs.Composed.{close_link}
use Rattle.hp_control.specs.Faithful.{Faithful}
use Rattle.hp_adoption.specs.AdoptPlans.{adopt_plan}
use Rattle.hp_adoption.specs.LinkPlans.{close_link_plan}

pub record AdoptionMeans : Type 0 where
  pub adopt : (fostering : Bool) (name : List ℕ) → Faithful (adopt_plan fostering name) (adopt fostering name)
  pub close_link : (fostering : Bool) → Faithful (close_link_plan fostering) (close_link fostering)
