use Rattle.std.proofs.Common.{ap, sym}
use Rattle.hp_program.specs.Status.{code_of}
use Rattle.hp_program.proofs.status.Status.code.Goals as goal

pub returns-in-NoMemory : goal.returns-in-NoMemory
returns-in-NoMemory c = ap code_of (sym c.in-NoMemory.is)

pub returns-in-BadSelector : goal.returns-in-BadSelector
returns-in-BadSelector c = ap code_of (sym c.in-BadSelector.is)
