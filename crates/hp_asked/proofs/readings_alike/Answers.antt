use Rattle.hp_asked.proofs.OneByOne.{right-singly}
use Rattle.hp_asked.proofs.Readings.{readings-alike}
use Rattle.hp_asked.proofs.readings_alike.Goals as goal

pub returns : goal.returns
returns c = record { alike = readings-alike; singly = right-singly }
