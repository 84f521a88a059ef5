use Rattle.std.proofs.lemmas.Str.{chars-nil}
use Rattle.hp_elements.proofs.text.Text.new.Goals as goal

pub returns : goal.returns
returns c = chars-nil
