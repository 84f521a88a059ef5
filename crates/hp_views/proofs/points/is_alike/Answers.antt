use Rattle.std.proofs.Common.{refl}
use Rattle.std.specs.Str.{chars}
use Rattle.hp_elements.specs.Names.{lowered}
use Rattle.hp_elements.proofs.Lowering.{same_lowered}
use Rattle.hp_views.proofs.Alike.{told_alike}
use Rattle.hp_views.proofs.points.is_alike.Goals as goal

pub returns : goal.returns
returns c =
    told_alike c.eq_ignore_ascii_case.result (lowered c.args.text.now) (lowered (chars c.args.other.now))
    (same_lowered c.eq_ignore_ascii_case.result c.as_str.result.now c.args.other.now c.args.text.now (chars c.args.other.now) c.as_str.utf8 c.utf8.other c.as_str.ensures refl c.eq_ignore_ascii_case.ensures.test)
