use Rattle.std.proofs.Common.{ℕ, ap, ◌∙◌}
use Rattle.std.specs.Prelude.{map}
use Rattle.hp_tokens.specs.Rows.{character}
use Rattle.hp_tokens.specs.declared.lexing.LexState.{LexState}
use Rattle.hp_lexer.proofs.Direct.{plain_at_once}
use Rattle.hp_lexer.proofs.Parts.{text_in_tags}
use Rattle.hp_tokens.proofs.Told.{IfSome_both, IfNone_then}
use Rattle.hp_lexer.proofs.lexer.Lexer.next_reference.Goals as goal

pub returns-in-Nothing-clause-text : goal.returns-in-Nothing-clause-text
returns-in-Nothing-clause-text c =
    plain_at_once c.args.self.now (record c.args.self.now { lex = c.next_reference.new.state; rested = c.next_reference.new.rested }) c.args.input.now c.next_reference.new.input
    c.in-Nothing.is c.in-Nothing.is c.args.self.now.lex.machine.state c.next_reference.result
    (IfSome_both c.next_reference.result c.next_reference.ensures.here c.next_reference.ensures.turn
    (λ text here turn. text_in_tags c.args.self.now.names c.args.self.now.lex.machine.state _ _ (map character text) c.next_reference.new.rested here turn))
    c.next_reference.ensures.no_nul c.next_reference.ensures.long

pub returns-in-Nothing-clause-none : goal.returns-in-Nothing-clause-none
returns-in-Nothing-clause-none c =
    IfNone_then c.next_reference.result c.next_reference.ensures.none
    (λ same. (
      ap (λ (l : LexState). record c.args.self.now { lex = l; rested = c.next_reference.new.rested }) same.0 ∙ ap (λ (r : ℕ). record c.args.self.now { rested = r }) same.2,
      same.1,
    ))
