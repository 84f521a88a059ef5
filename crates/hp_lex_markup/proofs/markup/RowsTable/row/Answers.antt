use Rattle.hp_lex_markup.proofs.WordSteps.{row_here}
use Rattle.hp_lex_markup.proofs.markup.RowsTable.row.Goals as goal

pub row-requires : goal.row-requires
row-requires c = row_here c.args.machine.now.state c.requires
