use Rattle.hp_older.proofs.Tokens.{tokens-go_on, tokens-handled, tokens-told}
use Rattle.hp_older.proofs.tokens_over.Goals as goal

pub returns : goal.returns
returns c = record { told = tokens-told; goes_on = tokens-go_on; handled = tokens-handled }
