use Rattle.hp_adoption.specs.ArkLaws.{append_to_list_faithful}
use Rattle.hp_adoption.proofs.laws.append_to_list_means.Goals as goal

pub returns : goal.returns
returns c = append_to_list_faithful
