use Rattle.hp_serial.proofs.Joins.{ok_then, qualified_joined}
use Rattle.hp_serial.proofs.items.write_qualified.Goals as goal

pub returns : goal.returns
returns c =
    let first = rw c.prefix.ensures at c.in_ok-put.ensures in
    ok_then c.put_str.result _ _ (λ last. qualified_joined _ _ _ c.args.space c.args.name.now first (rw c.as_str.ensures at last)) c.put_str.ensures
