-- the table's rows are the rows of specs/, flat
use Rattle.hp_rules_page.proofs.acts.acts_numbered.Goals as goal

pub returns : goal.returns
returns c = c.acts_in.ensures
