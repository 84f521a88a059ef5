use Rattle.hp_lexer.proofs.Loads.{silent_fall, steps_fall, switches_fall}
use Rattle.hp_lexer.proofs.laws.steps_fall.Goals as goal

pub returns-clause-steps : goal.returns-clause-steps
returns-clause-steps c = λ old new old_input new_input step s. steps_fall old new old_input new_input step s

pub returns-clause-switches : goal.returns-clause-switches
returns-clause-switches c = λ to l input e. switches_fall to l input e

pub returns-clause-silent : goal.returns-clause-silent
returns-clause-silent c = λ old new old_input new_input s. silent_fall old new old_input new_input s
