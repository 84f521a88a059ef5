-- What ends the text of a lexer that was made from a state.
use Rattle.std.proofs.Common.{◌≡◌, ℕ, List, [], ◌^◌, subst}
use Rattle.hp_elements.specs.declared.token.Token.{Token}
use Rattle.hp_names.specs.BuiltIn.{built_in}
use Rattle.hp_tokens.specs.Advancing.{Ends as EndsText, end_of_text, lexing}
use Rattle.hp_tokens.specs.declared.lexing.LexState.{LexState}
use Rattle.hp_lexer.specs.declared.lexer.Asked.TheVariants as asked
use Rattle.hp_lexer.specs.declared.lexer.Lexer.{Lexer}
use Rattle.hp_lexer.specs.Table.{table}

-- the lexer over the built-in names, from a state
pub named-ends : (lexer : Lexer) (lex own : LexState) (tokens : List Token) → lexer ≡ record { lex = lex; names = built_in; asked = asked.Nothing; rested = 2 ^ 32 } → lex ≡ own
    → ((rested : ℕ) → EndsText (table lexer.names) (lexing lexer.lex end_of_text rested) [] tokens) → (rested : ℕ) → EndsText (table built_in) (lexing own end_of_text rested) [] tokens
named-ends lexer lex own tokens is same left =
    let P : Lexer → Type 0 = λ l. (rested : ℕ) → EndsText (table l.names) (lexing l.lex end_of_text rested) [] tokens in
    let Q : LexState → Type 0 = λ l. (rested : ℕ) → EndsText (table built_in) (lexing l end_of_text rested) [] tokens in
    subst Q same (subst P is left)
