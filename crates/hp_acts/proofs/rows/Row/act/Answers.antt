use Rattle.hp_acts.proofs.ActsAt.{later_at, short_at}
use Rattle.hp_acts.proofs.rows.Row.act.Goals as goal

pub returns-clause-later : goal.returns-clause-later
returns-clause-later c = later_at c.args.self.acts.now c.args.at c.act_at.result c.act_at.ensures c.args.self.later

pub returns-clause-short : goal.returns-clause-short
returns-clause-short c = short_at c.args.self.acts.now c.args.at c.act_at.result c.act_at.ensures c.args.self.short
