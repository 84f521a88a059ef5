use Rattle.hp_pieces.proofs.LastTokens.{end-handled, end-read, end-runs}
use Rattle.hp_pieces.proofs.laws.ends_of_text.Goals as goal

pub returns : goal.returns
returns c = record { read = λ names l tokens end. (end-read names l tokens end, end-runs names l tokens end); handled = end-handled }
