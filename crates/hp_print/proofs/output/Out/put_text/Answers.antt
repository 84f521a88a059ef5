use Rattle.std.proofs.lemmas.Str.{encodes-chars}
use Rattle.hp_print.proofs.output.Out.put_text.Goals as goal

pub returns : goal.returns
returns g c = rw (encodes-chars c.args.text.now c.utf8.text, ← c.as_bytes.ensures.value) c.put.ensures
