use Rattle.hp_pieces.proofs.Joining.{leads_exist, leads_join, leads_once, leads_valid, page_built}
use Rattle.hp_pieces.proofs.FitRuns.{never_asked, rests_for_more}
use Rattle.hp_pieces.proofs.laws.runs_between.Goals as goal

pub returns : goal.returns
returns c = record { exist = leads_exist; once = leads_once; valid = leads_valid; join = leads_join; page = page_built; asked = never_asked; rests = rests_for_more }
