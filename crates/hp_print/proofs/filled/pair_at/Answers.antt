use Rattle.hp_print.proofs.Filling.{pair_written}
use Rattle.hp_print.proofs.filled.pair_at.Goals as goal

pub returns-clause-bytes : goal.returns-clause-bytes
returns-clause-bytes c =
    pair_written _ _ _ _ _ _ _ _ _ _ _ c.front_at-at.ensures.bytes c.put_at-at.ensures.bytes c.two_at-at.ensures.bytes c.put_at-at-2.ensures.bytes c.two_at.ensures.bytes
