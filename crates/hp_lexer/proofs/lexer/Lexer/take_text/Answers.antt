use Rattle.std.proofs.Common.{ℕ, [], ◌∷◌, ap}
use Rattle.hp_elements.specs.declared.token.Token.{Token}
use Rattle.hp_tokens.specs.Advancing.{lexing}
use Rattle.hp_lexer.specs.Standing.{IsBatch}
use Rattle.hp_lexer.proofs.Parts.{text_in_tags, text_in_raw, group_in_tags, group_in_raw, IfSome_all}
use Rattle.hp_tokens.proofs.Told.{IfSome_both, IfNone_then}
use Rattle.hp_lexer.proofs.lexer.Lexer.take_text.Goals as goal

pub returns-in-Data-clause-ran : goal.returns-in-Data-clause-ran
returns-in-Data-clause-ran c =
    let old = lexing c.args.self.now.lex c.args.input.now c.args.self.now.rested in
    let new = lexing c.args.self.now.lex c.next_text.new.input c.next_text.new.rested in
    IfSome_both c.next_text.result c.next_text.ensures.here c.next_text.ensures.turn (λ token here turn.
    let there = text_in_tags c.args.self.now.names c.args.self.now.lex.machine.state old new (token ∷ []) c.next_text.new.rested here turn in
    (there.0, (c.args.self.now.lex.machine.state, there.1)))

pub returns-in-Data-clause-none : goal.returns-in-Data-clause-none
returns-in-Data-clause-none c =
    IfNone_then c.next_text.result c.next_text.ensures.none (λ same. (ap (λ (r : ℕ). record c.args.self.now { rested = r }) same.1, same.0))

pub returns-in_default-clause-ran : goal.returns-in_default-clause-ran
returns-in_default-clause-ran c =
    let old = lexing c.args.self.now.lex c.args.input.now c.args.self.now.rested in
    let new = lexing c.args.self.now.lex c.next_text-in_default.new.input c.next_text-in_default.new.rested in
    IfSome_both c.next_text-in_default.result c.next_text-in_default.ensures.here c.next_text-in_default.ensures.turn (λ token here turn.
    let there = text_in_raw c.args.self.now.names c.args.self.now.lex.machine.state old new (token ∷ []) c.next_text-in_default.new.rested here turn in
    (there.0, (c.args.self.now.lex.machine.state, there.1)))

pub returns-in_default-clause-none : goal.returns-in_default-clause-none
returns-in_default-clause-none c =
    IfNone_then c.next_text-in_default.result c.next_text-in_default.ensures.none (λ same. (ap (λ (r : ℕ). record c.args.self.now { rested = r }) same.1, same.0))

pub returns-in-Data-clause-batch : goal.returns-in-Data-clause-batch
returns-in-Data-clause-batch c =
    let old = lexing c.args.self.now.lex c.args.input.now c.args.self.now.rested in
    let new = lexing c.args.self.now.lex c.next_text.new.input c.next_text.new.rested in
    let R : Token → Type 0 = λ token. IsBatch c.args.self.now.names old new (token ∷ []) c.next_text.new.rested in
    IfSome_all c.next_text.result {R = R} c.next_text.ensures.here c.next_text.ensures.turn c.next_text.ensures.group (λ token here turn group. record {
      part = c.args.self.now.lex.machine.state;
      group = group_in_tags c.args.self.now.names c.args.self.now.lex.machine.state here group;
      stops = (text_in_tags c.args.self.now.names c.args.self.now.lex.machine.state old new (token ∷ []) c.next_text.new.rested here turn).1;
    })

pub returns-in_default-clause-batch : goal.returns-in_default-clause-batch
returns-in_default-clause-batch c =
    let old = lexing c.args.self.now.lex c.args.input.now c.args.self.now.rested in
    let new = lexing c.args.self.now.lex c.next_text-in_default.new.input c.next_text-in_default.new.rested in
    let R : Token → Type 0 = λ token. IsBatch c.args.self.now.names old new (token ∷ []) c.next_text-in_default.new.rested in
    IfSome_all c.next_text-in_default.result {R = R} c.next_text-in_default.ensures.here c.next_text-in_default.ensures.turn c.next_text-in_default.ensures.group (λ token here turn group. record {
      part = c.args.self.now.lex.machine.state;
      group = group_in_raw c.args.self.now.names c.args.self.now.lex.machine.state here group;
      stops = (text_in_raw c.args.self.now.names c.args.self.now.lex.machine.state old new (token ∷ []) c.next_text-in_default.new.rested here turn).1;
    })
