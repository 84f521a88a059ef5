use Rattle.hp_runs.proofs.Stopping.{blanks-stop, tag-stops, text-stops, tokens-stop}
use Rattle.hp_runs.proofs.coming.comes_to_touch.Goals as goal

pub returns : goal.returns
returns c = record { tokens = tokens-stop; tag = tag-stops; text = text-stops; blanks = blanks-stop }
