use Rattle.std.proofs.Common.{refl}
use Rattle.hp_fragment.proofs.Amounting.{ids-taken, numbers-taken}
use Rattle.hp_fragment.proofs.sink.split.Goals as goal

pub returns-in-Numbers-clause-split : goal.returns-in-Numbers-clause-split
returns-in-Numbers-clause-split c =
    numbers-taken c.put_all.result c.args.splitting.now (record { growing = c.put_all.new.self; naming = c.args.splitting.now.naming }) c.args.edits.now c.in-Numbers.is refl c.put_all.ensures.ok c.put_all.ensures.first

pub returns-in-Ids-clause-split : goal.returns-in-Ids-clause-split
returns-in-Ids-clause-split c =
    ids-taken c.put_all_told.result c.args.splitting.now (record { growing = c.put_all_told.new.self; naming = c.args.splitting.now.naming }) c.args.edits.now c.in-Ids.next c.in-Ids.is refl c.put_all_told.ensures.ok
