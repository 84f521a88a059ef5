use Rattle.hp_older.proofs.Texts.{texts-handled, texts-taken, texts-taken_below}
use Rattle.hp_older.proofs.texts_over.Goals as goal

pub returns : goal.returns
returns c = record { takes = texts-taken; below = texts-taken_below; handled = texts-handled }
