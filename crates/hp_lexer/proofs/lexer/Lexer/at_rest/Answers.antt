use Rattle.std.proofs.Common.{List, ap, ◌∙◌}
use Rattle.hp_names.specs.References.{Reference}
use Rattle.hp_tokens.specs.declared.lexing.LexState.{LexState}
use Rattle.hp_tokens.specs.Advancing.{rest_state}
use Rattle.hp_lexer.specs.declared.lexer.Asked.TheVariants as asked
use Rattle.hp_lexer.specs.declared.lexer.Lexer.{Lexer}
use Rattle.hp_lexer.proofs.lexer.Lexer.at_rest.Goals as goal

pub returns : goal.returns
returns c =
    let lexer : LexState → List Reference → Lexer = λ lex names. record { lex = lex; names = names; asked = asked.Nothing; rested = 4294967296 } in
    ap (λ (lex : LexState). lexer lex c.built_in.result) c.at_rest.ensures
    ∙ ap (λ (names : List Reference). lexer (rest_state c.args.rest c.args.after_cr) names) c.built_in.ensures
