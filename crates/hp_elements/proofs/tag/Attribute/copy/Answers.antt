use Rattle.std.proofs.Common.{refl}
use Rattle.hp_elements.proofs.tag.Attribute.copy.Goals as goal

pub returns : goal.returns
returns c = rw (c.in-Ok.ensures, c.in-Ok-copy.ensures) refl
