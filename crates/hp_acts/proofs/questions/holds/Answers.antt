use Rattle.std.proofs.Common.{rules}
use Rattle.hp_acts.proofs.questions.holds.Goals as goal

pub returns-in-HasTemplateModes : goal.returns-in-HasTemplateModes
returns-in-HasTemplateModes g c = search rules
