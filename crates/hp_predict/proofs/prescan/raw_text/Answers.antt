use Rattle.std.proofs.Common.{sym, ap, ◌∙◌}
use Rattle.hp_elements.specs.RawText.{raw_text_of}
use Rattle.hp_elements.proofs.NameLemmas.{found_text}
use Rattle.hp_predict.proofs.NameLemmas.{other_raw_text}
use Rattle.hp_predict.proofs.prescan.raw_text.Goals as goal

pub returns-in-Some : goal.returns-in-Some
returns-in-Some c = c.raw_text.ensures ∙ ap raw_text_of (found_text c.args.name.now c.in-Some.known (sym c.in-Some.ensures))

pub returns-in-None : goal.returns-in-None
returns-in-None c = sym (other_raw_text c.args.name.now (sym c.in-None.ensures))
