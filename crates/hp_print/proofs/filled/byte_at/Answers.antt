use Rattle.std.proofs.lemmas.List.{take_more_set}
use Rattle.hp_print.proofs.filled.byte_at.Goals as goal

pub returns-clause-bytes : goal.returns-clause-bytes
returns-clause-bytes c = take_more_set c.args.into.now c.args.at c.args.byte c.requires
