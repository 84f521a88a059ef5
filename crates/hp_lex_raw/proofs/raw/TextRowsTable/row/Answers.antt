use Rattle.hp_lex_raw.specs.Fine.{text_here}
use Rattle.hp_lex_raw.proofs.raw.TextRowsTable.row.Goals as goal

pub row-requires : goal.row-requires
row-requires c = text_here c.args.machine.now.state c.requires
