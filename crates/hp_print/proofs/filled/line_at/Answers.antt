use Rattle.hp_print.proofs.Filling.{line_written}
use Rattle.hp_print.proofs.filled.line_at.Goals as goal

pub returns-clause-bytes : goal.returns-clause-bytes
returns-clause-bytes c = line_written _ _ _ _ _ _ _ _ _ c.front_at-at.ensures.bytes c.byte_at-at.ensures.bytes c.put_at-at.ensures.bytes c.two_at.ensures.bytes
