use Rattle.hp_fragment.proofs.Amounting.{kind-stays, taken-split}
use Rattle.hp_fragment.proofs.sink.Sink.take.Goals as goal

pub returns-else-len-lt-BATCH-2-clause-kind : goal.returns-else-len-lt-BATCH-2-clause-kind
returns-else-len-lt-BATCH-2-clause-kind c = kind-stays c.split.result c.args.self.now c.args.edits.now c.in-Splits.splitting c.split.new.splitting c.in-Splits.is c.split.ensures.split

pub returns-else-len-lt-BATCH-2-clause-amounts : goal.returns-else-len-lt-BATCH-2-clause-amounts
returns-else-len-lt-BATCH-2-clause-amounts c = taken-split c.split.result c.args.self.now c.args.edits.now c.split.new.edits c.in-Splits.splitting c.split.new.splitting c.in-Splits.is c.split.ensures.split c.split.ensures.edits
