use Rattle.hp_views.specs.ListLaws.{marker_faithful, append_faithful, clear_faithful, listed_faithful}
use Rattle.hp_views.proofs.laws.lists_mean.Goals as goal

pub returns : goal.returns
returns c = record { marker = marker_faithful; append = append_faithful; clear = clear_faithful; listed = listed_faithful }
