use Rattle.hp_asked.proofs.Along.{right-before_text, right-name, right-section, right-tokens}
use Rattle.hp_asked.proofs.Silent.{right-silence}
use Rattle.hp_asked.proofs.right_goes_on.Goals as goal

pub returns : goal.returns
returns c = record { tokens = right-tokens; silence = right-silence; section = right-section; name = right-name; before_text = right-before_text }
