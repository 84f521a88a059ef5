use Rattle.std.proofs.Common.{ℕ, ap}
use Rattle.std.specs.Prelude.{map}
use Rattle.hp_tokens.specs.Rows.{character}
use Rattle.hp_lexer.proofs.Direct.{plain_at_once}
use Rattle.hp_lexer.proofs.Parts.{text_in_tags, text_in_raw}
use Rattle.hp_tokens.proofs.Told.{IfSome_both, IfNone_then}
use Rattle.hp_lexer.proofs.lexer.Lexer.next_plain.Goals as goal

pub returns-in-Data-clause-text : goal.returns-in-Data-clause-text
returns-in-Data-clause-text c =
    plain_at_once c.args.self.now (record c.args.self.now { rested = c.next_plain.new.rested }) c.args.input.now c.next_plain.new.input c.in-Nothing.is c.in-Nothing.is
    c.args.self.now.lex.machine.state c.next_plain.result
    (IfSome_both c.next_plain.result c.next_plain.ensures.here c.next_plain.ensures.turn
    (λ text here turn. text_in_tags c.args.self.now.names c.args.self.now.lex.machine.state _ _ (map character text) c.next_plain.new.rested here turn))
    c.next_plain.ensures.no_nul c.next_plain.ensures.long

pub returns-in-Data-clause-none : goal.returns-in-Data-clause-none
returns-in-Data-clause-none c =
    IfNone_then c.next_plain.result c.next_plain.ensures.none (λ same. (ap (λ (r : ℕ). record c.args.self.now { rested = r }) same.1, same.0))

pub returns-in_default-state-clause-text : goal.returns-in_default-state-clause-text
returns-in_default-state-clause-text c =
    plain_at_once c.args.self.now (record c.args.self.now { rested = c.next_plain-in_default-state.new.rested }) c.args.input.now c.next_plain-in_default-state.new.input
    c.in-Nothing.is c.in-Nothing.is c.args.self.now.lex.machine.state c.next_plain-in_default-state.result
    (IfSome_both c.next_plain-in_default-state.result c.next_plain-in_default-state.ensures.here c.next_plain-in_default-state.ensures.turn
    (λ text here turn. text_in_raw c.args.self.now.names c.args.self.now.lex.machine.state _ _ (map character text) c.next_plain-in_default-state.new.rested here turn))
    c.next_plain-in_default-state.ensures.no_nul c.next_plain-in_default-state.ensures.long

pub returns-in_default-state-clause-none : goal.returns-in_default-state-clause-none
returns-in_default-state-clause-none c =
    IfNone_then c.next_plain-in_default-state.result c.next_plain-in_default-state.ensures.none (λ same. (ap (λ (r : ℕ). record c.args.self.now { rested = r }) same.1, same.0))
