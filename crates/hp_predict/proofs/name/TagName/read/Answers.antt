use Rattle.std.proofs.Common.{sym, ◌∙◌}
use Rattle.hp_elements.specs.Names.{lowered}
use Rattle.hp_elements.proofs.NameLemmas.{found_text}
use Rattle.hp_predict.proofs.name.TagName.read.Goals as goal

pub returns-in-Some : goal.returns-in-Some
returns-in-Some c = c.of_known.ensures ∙ found_text (lowered c.args.text.now) c.in-Some.known (sym c.in-Some.ensures)
