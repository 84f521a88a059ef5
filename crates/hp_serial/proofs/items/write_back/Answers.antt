use Rattle.hp_serial.proofs.Joins.{ok_then}
use Rattle.hp_serial.proofs.Views.{back_shown, leaf_back}
use Rattle.hp_serial.proofs.items.write_back.Goals as goal

pub returns-in-Element : goal.returns-in-Element
returns-in-Element c t has = ok_then c.write_end_tag.result _ _ (back_shown t _ _ c.args.view _ c.in-Element.tag c.in-Element.is has) c.write_end_tag.ensures

pub returns-in_default : goal.returns-in_default
returns-in_default c t has = leaf_back t c.args.view _ c.in_default.not-Element
