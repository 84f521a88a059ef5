use Rattle.hp_older.proofs.Whole.{all-handled}
use Rattle.hp_older.proofs.tokens_in_order.Goals as goal

pub returns : goal.returns
returns c = all-handled
