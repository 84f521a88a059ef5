use Rattle.std.proofs.Common.{sym, ◌∙◌}
use Rattle.hp_serial.proofs.Joins.{ok_then, end_tag_joined}
use Rattle.hp_serial.proofs.items.write_end_tag.Goals as goal

pub returns : goal.returns
returns c =
    let closes = sym c.is_void.ensures ∙ c.if-is_void.false in
    let name = rw c.as_str.ensures at c.in_ok-put_str.ensures in
    ok_then c.put-2.result _ _ (λ last. end_tag_joined _ _ _ _ c.args.tag.now closes c.in_ok-put.ensures name last) c.put-2.ensures
