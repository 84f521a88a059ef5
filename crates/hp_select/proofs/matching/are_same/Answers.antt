use Rattle.hp_select.proofs.Texts.{bytes_eq-chars}
use Rattle.hp_select.proofs.matching.are_same.Goals as goal

pub returns : goal.returns
returns c = bytes_eq-chars c.eq.result c.args.text.now c.args.other.now c.eq.ensures c.utf8.text c.utf8.other
