use Rattle.std.proofs.Common.{ap, sym}
use Rattle.hp_lex_markup.specs.declared.words.Word.{Word}
use Rattle.hp_lex_markup.specs.Words.{asks}
use Rattle.hp_lex_markup.proofs.words.Word.asks.Goals as goal

pub returns-in-Cdata : goal.returns-in-Cdata
returns-in-Cdata c = ap (λ (word : Word). asks word) (sym c.in-Cdata.is)
