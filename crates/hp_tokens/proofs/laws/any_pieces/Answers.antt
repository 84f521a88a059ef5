use Rattle.hp_tokens.proofs.Pieces.{any_pieces_lem}
use Rattle.hp_tokens.proofs.laws.any_pieces.Goals as goal

pub returns : goal.returns
returns c = any_pieces_lem
