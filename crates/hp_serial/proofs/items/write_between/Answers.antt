use Rattle.hp_serial.proofs.Joins.{ok_then, between}
use Rattle.hp_serial.proofs.items.write_between.Goals as goal

pub returns : goal.returns
returns c =
    ok_then c.put-2.result _ _ (λ last. between c.args.out.now.items _ _ _ c.args.left.now _ _ c.in_ok-put.ensures c.in_ok-put_str.ensures last) c.put-2.ensures
