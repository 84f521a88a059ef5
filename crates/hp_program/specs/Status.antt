-- The numbers of the statuses.
use Rattle.std.specs.Prelude.{ℕ}
use Rattle.hp_program.specs.declared.status.Status.{Status}
use Rattle.hp_program.specs.declared.status.Status.TheVariants.{Done, Usage, NotUtf8, TooLarge, ReadFault, WriteFault, NoMemory, BadCuts, BadSelector}

abbrev pub code_of : Status → ℕ
code_of Done = 0
code_of Usage = 2
code_of NotUtf8 = 3
code_of TooLarge = 4
code_of ReadFault = 5
code_of WriteFault = 6
code_of NoMemory = 7
code_of BadCuts = 8
code_of BadSelector = 15
