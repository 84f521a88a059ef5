use Rattle.hp_adoption.specs.AdoptLaws.{adopt_faithful}
use Rattle.hp_adoption.specs.LinkLaws.{close_link_faithful}
use Rattle.hp_adoption.proofs.laws.adoption_means.Goals as goal

pub returns : goal.returns
returns c = record { adopt = adopt_faithful; close_link = close_link_faithful }
