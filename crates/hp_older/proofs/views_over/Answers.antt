use Rattle.hp_older.proofs.Began.{are-valid, stay-unedited}
use Rattle.hp_older.proofs.views_over.Goals as goal

pub returns : goal.returns
returns c = record { valid = are-valid; edits = stay-unedited }
