use Rattle.hp_lexer.proofs.PlacedSteps.{steps_placed, starts_placed, switches_placed, tells_placed, calls_run}
use Rattle.hp_lexer.proofs.laws.places.Goals as goal

pub returns-clause-steps : goal.returns-clause-steps
returns-clause-steps c = λ base whole old new old_input new_input step h a s. steps_placed base whole old new old_input new_input step h a s

pub returns-clause-starts : goal.returns-clause-starts
returns-clause-starts c = λ l base rested piece begins few below b. starts_placed l base rested piece begins few below b

pub returns-clause-switches : goal.returns-clause-switches
returns-clause-switches c = λ to l input base whole e a. switches_placed to l input base whole e a

pub returns-clause-tells : goal.returns-clause-tells
returns-clause-tells c = λ name l input base whole e a. tells_placed name l input base whole e a

pub returns-clause-calls : goal.returns-clause-calls
returns-clause-calls c = λ old input base whole pieces answers a calls. calls_run old input base whole pieces answers a calls
