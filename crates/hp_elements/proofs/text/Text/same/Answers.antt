use Rattle.hp_elements.proofs.TextLemmas.{same_texts}
use Rattle.hp_elements.proofs.text.Text.same.Goals as goal

pub returns : goal.returns
returns c = same_texts c.eq.result c.as_str.result.now c.as_str-2.result.now c.args.self.now c.args.other.now c.eq.ensures c.as_str.utf8 c.as_str-2.utf8 c.as_str.ensures c.as_str-2.ensures
