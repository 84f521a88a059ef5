use Rattle.hp_serial.proofs.ReadingBack.{read_back}
use Rattle.hp_serial.proofs.escape.escaped_texts_are_read_back.Goals as goal

pub returns : goal.returns
returns c = read_back
