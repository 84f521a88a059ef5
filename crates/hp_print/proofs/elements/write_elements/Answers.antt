use Rattle.std.proofs.Common.{refl}
use Rattle.hp_print.proofs.Endings.{tells_failed, tells_part, tells_refused, tells_whole, whole_end}
use Rattle.hp_print.proofs.elements.write_elements.Goals as goal

pub returns-clause-whole : goal.returns-clause-whole
returns-clause-whole g c = tells_whole _ _ _ _ (whole_end _ _ _ _ _ _ c.in-Ok-new.ensures refl c.put_elements.ensures)

pub returns-clause-part : goal.returns-clause-part
returns-clause-part g c = tells_part _ _ _ _ (whole_end _ _ _ _ _ _ c.in-Ok-new.ensures refl c.put_elements.ensures)

pub returns-clause-failed : goal.returns-clause-failed
returns-clause-failed g c = tells_failed _ _ _ _ (whole_end _ _ _ _ _ _ c.in-Ok-new.ensures refl c.put_elements.ensures)

pub returns-clause-nothing : goal.returns-clause-nothing
returns-clause-nothing g c refused = absurd (tells_refused _ _ _ _ refused (whole_end _ _ _ _ _ _ c.in-Ok-new.ensures refl c.put_elements.ensures))
