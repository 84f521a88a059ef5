use Rattle.std.proofs.Common.{refl}
use Rattle.std.proofs.lemmas.Bool.{lt-ltb, le-ltb}
use Rattle.hp_cut.proofs.scans.starts_at.Goals as goal

pub returns-else-text-place-lt128 : goal.returns-else-text-place-lt128
returns-else-text-place-lt128 c = rw (lt-ltb _ _ c.if-place-text.true, le-ltb _ _ c.if-text-place-lt128.false) refl
