use Rattle.std.proofs.Common.{refl}
use Rattle.hp_elements.proofs.known.Known.text.Goals as goal

pub text_in-requires : goal.text_in-requires
text_in-requires c = refl

pub returns : goal.returns
returns c = c.text_in.ensures
