use Rattle.hp_older.proofs.Asked.{foreign-told, last_tag-told}
use Rattle.hp_older.proofs.Truly.{own-true}
use Rattle.hp_older.proofs.answers_over.Goals as goal

pub returns : goal.returns
returns c = record { foreign = foreign-told; last_tag = last_tag-told; own = own-true }
