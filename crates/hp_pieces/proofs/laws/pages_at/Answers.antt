use Rattle.hp_pieces.proofs.Places.{at_covers, at_end, at_fits, at_goes_on, at_once, at_start, at_valid}
use Rattle.hp_pieces.proofs.laws.pages_at.Goals as goal

pub returns : goal.returns
returns c = record { once = at_once; start = at_start; on = at_goes_on; covers = at_covers; end = at_end; valid = at_valid; fits = at_fits }
