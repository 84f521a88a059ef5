use Rattle.std.proofs.Common.{refl}
use Rattle.hp_select.proofs.Walking.{ok_then, entered}
use Rattle.hp_select.proofs.walk.enter.Goals as goal

pub returns : goal.returns
returns c =
    ok_then c.push_first.result _ _
    (λ pushed. entered c.args.tree.now c.args.mark _ c.args.id c.args.row.items _ _ _ c.in_ok-push.ensures.items refl refl refl c.requires.mark pushed)
    c.push_first.ensures
