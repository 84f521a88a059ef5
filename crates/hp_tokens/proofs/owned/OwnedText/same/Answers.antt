use Rattle.hp_tokens.proofs.Texts.{told_same}
use Rattle.hp_tokens.proofs.owned.OwnedText.same.Goals as goal

pub returns : goal.returns
returns c = told_same _ _ _ _ _ c.as_str.utf8 c.as_str-2.utf8 c.as_str.ensures c.as_str-2.ensures c.eq.ensures
