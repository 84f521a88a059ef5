use Rattle.std.proofs.Common.{ℕ, List, Bor, arith}
use Rattle.hp_elements.proofs.EveryName.{in_table, index_below, text_in_table}
use Rattle.hp_elements.proofs.known.text_in.Goals as goal

pub bounds-texts-index : goal.bounds-texts-index
bounds-texts-index c = in_table (λ (x : Bor (List ℕ)). x.now) c.args.texts.now c.index.result c.args.name c.index.ensures c.requires

pub offset_bounds-texts-index : goal.offset_bounds-texts-index
offset_bounds-texts-index c = omega (arith, c.index.ensures, index_below c.args.name)

pub returns : goal.returns
returns c = text_in_table (λ (x : Bor (List ℕ)). x.now) c.args.texts.now _ c.index.result c.args.name c.index.ensures c.requires
