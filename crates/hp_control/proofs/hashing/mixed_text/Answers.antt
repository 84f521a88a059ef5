use Rattle.std.proofs.lemmas.Str.{encodes-chars}
use Rattle.hp_control.proofs.hashing.mixed_text.Goals as goal

pub returns : goal.returns
returns c = cc (encodes-chars c.args.text.now c.utf8.text)
