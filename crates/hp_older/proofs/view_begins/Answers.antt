use Rattle.hp_older.proofs.Beginning.{begins}
use Rattle.hp_older.proofs.Began.{known-begin, views-begin}
use Rattle.hp_older.proofs.view_begins.Goals as goal

pub returns : goal.returns
returns c = record { state = begins; guessed = views-begin; known = known-begin }
