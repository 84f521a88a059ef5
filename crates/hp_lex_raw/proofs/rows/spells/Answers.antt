use Rattle.std.proofs.Common.{refl}
use Rattle.hp_tokens.proofs.Texts.{tested}
use Rattle.hp_lex_raw.proofs.rows.spells.Goals as goal

pub returns : goal.returns
returns c = tested _ _ _ _ _ c.as_str.utf8 c.utf8.text c.as_str.ensures refl c.eq.ensures
