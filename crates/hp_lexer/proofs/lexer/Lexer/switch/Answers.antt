use Rattle.std.proofs.Common.{ap, ◌∙◌}
use Rattle.hp_tokens.specs.declared.state.State.{State}
use Rattle.hp_tokens.specs.declared.machine.Machine.{Machine}
use Rattle.hp_tokens.specs.States.{enter}
use Rattle.hp_lexer.proofs.lexer.Lexer.switch.Goals as goal

pub returns : goal.returns
returns c =
    ap (λ (m : Machine). record c.args.self.now { lex = record c.args.self.now.lex { machine = m } })
    (c.enter.ensures ∙ ap (λ (s : State). enter s c.args.self.now.lex.machine) c.of_rest.ensures.state)
