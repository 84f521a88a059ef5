use Rattle.std.proofs.Common.{List, [], ◌∷◌, refl, sym, subst, ◌∙◌}
use Rattle.hp_elements.specs.declared.token.Token.{Token}
use Rattle.hp_tokens.specs.declared.rows.Turn.TheVariants.{Emitted}
use Rattle.hp_tokens.specs.Reading.{Unread}
use Rattle.hp_tokens.specs.Advancing.{lexing}
use Rattle.hp_lexer.specs.declared.lexer.Step.TheVariants.{Tokens}
use Rattle.hp_lexer.specs.Running.{Ran}
use Rattle.hp_lexer.specs.Standing.{Stepped, IsBatch, Batched, stands}
use Rattle.hp_lexer.proofs.Opening.{emitted, within_cut, batched, asks_tag, long, asks_data}
use Rattle.hp_lexer.proofs.lexer.Lexer.next_within.Goals as goal

pub returns-in-Some-clause-step : goal.returns-in-Some-clause-step
returns-in-Some-clause-step c =
    let P : List Token → Type 0 = λ tokens. Stepped c.args.self.now c.args.input.now c.take_text.new.self c.take_text.new.input (Tokens c.began.result tokens) in
    subst P (sym c.of_one.ensures) (emitted c.args.self.now c.open.new.self c.take_text.new.self c.args.input.now c.take_text.new.input (c.in-Some.token ∷ []) Emitted
    c.in_ok-open.ensures.lexer c.take_text.ensures.asked c.in-Some.ensures.ran refl c.began.result c.began.ensures)

pub returns-in-Emitted-clause-step : goal.returns-in-Emitted-clause-step
returns-in-Emitted-clause-step c =
    let none = c.in_default.ensures.none in
    let P : Unread → Type 0 = λ u. Ran c.take_text.new.self.names c.take_text.new.self.lex u c.take_text.new.self.rested c.run.new.self.lex c.run.new.input c.run.new.tokens c.run.new.self.rested c.in_ok-run.field-0 in
    emitted c.args.self.now c.take_text.new.self c.run.new.self c.args.input.now c.run.new.input c.run.new.tokens c.in_ok-run.field-0
    (none.0 ∙ c.in_ok-open.ensures.lexer) c.in_ok-run.ensures.asked (subst P none.1 c.in_ok-run.ensures.turn) c.in-Emitted.is c.began-in-Emitted.result c.began-in-Emitted.ensures

pub returns-in-NeedsMore-clause-step : goal.returns-in-NeedsMore-clause-step
returns-in-NeedsMore-clause-step c =
    let none = c.in_default.ensures.none in
    let P : Unread → Type 0 = λ u. Ran c.take_text.new.self.names c.take_text.new.self.lex u c.take_text.new.self.rested c.run.new.self.lex c.run.new.input c.run.new.tokens c.run.new.self.rested c.in_ok-run.field-0 in
    within_cut c.args.self.now c.take_text.new.self c.run.new.self c.args.input.now c.run.new.input c.run.new.tokens c.in_ok-run.field-0
    (none.0 ∙ c.in_ok-open.ensures.lexer) c.in_ok-run.ensures.asked (subst P none.1 c.in_ok-run.ensures.turn) c.in-NeedsMore.is
    c.in_ok-check_cut-in-NeedsMore.ensures.cut c.in_ok-check_cut-in-NeedsMore.ensures.used

pub returns-in-AskLastTag-clause-step : goal.returns-in-AskLastTag-clause-step
returns-in-AskLastTag-clause-step c =
    let none = c.in_default.ensures.none in
    let P : Unread → Type 0 = λ u. Ran c.take_text.new.self.names c.take_text.new.self.lex u c.take_text.new.self.rested c.run.new.self.lex c.run.new.input c.run.new.tokens c.run.new.self.rested c.in_ok-run.field-0 in
    asks_tag c.args.self.now c.take_text.new.self c.run.new.self c.args.input.now c.run.new.input c.run.new.tokens c.in_ok-run.field-0
    (none.0 ∙ c.in_ok-open.ensures.lexer) c.in_ok-run.ensures.asked (subst P none.1 c.in_ok-run.ensures.turn) c.in-AskLastTag.is

pub pass_cdata-requires-clause-long : goal.pass_cdata-requires-clause-long
pass_cdata-requires-clause-long c =
    let none = c.in_default.ensures.none in
    let P : Unread → Type 0 = λ u. Ran c.take_text.new.self.names c.take_text.new.self.lex u c.take_text.new.self.rested c.run.new.self.lex c.run.new.input c.run.new.tokens c.run.new.self.rested c.in_ok-run.field-0 in
    long c.args.self.now c.take_text.new.self c.run.new.self c.args.input.now c.run.new.input c.run.new.tokens c.in_ok-run.field-0
    (none.0 ∙ c.in_ok-open.ensures.lexer) c.in_ok-run.ensures.asked (subst P none.1 c.in_ok-run.ensures.turn) c.in-AskCdata.is

pub returns-in-AskCdata-clause-step : goal.returns-in-AskCdata-clause-step
returns-in-AskCdata-clause-step c =
    let none = c.in_default.ensures.none in
    let P : Unread → Type 0 = λ u. Ran c.take_text.new.self.names c.take_text.new.self.lex u c.take_text.new.self.rested c.run.new.self.lex c.run.new.input c.run.new.tokens c.run.new.self.rested c.in_ok-run.field-0 in
    asks_data c.args.self.now c.take_text.new.self c.run.new.self c.args.input.now c.run.new.input c.run.new.tokens c.in_ok-run.field-0
    (none.0 ∙ c.in_ok-open.ensures.lexer) c.in_ok-run.ensures.asked (subst P none.1 c.in_ok-run.ensures.turn) c.in-AskCdata.is
    c.pass_cdata.new.self c.pass_cdata.new.input c.pass_cdata.ensures.passed c.pass_cdata.ensures.asked c.pass_cdata.ensures.rested

pub returns-in-Some-clause-batch : goal.returns-in-Some-clause-batch
returns-in-Some-clause-batch c =
    let P : List Token → Type 0 = λ tokens. Batched c.args.self.now c.args.input.now c.take_text.new.self c.take_text.new.input (Tokens c.began.result tokens) in
    subst P (sym c.of_one.ensures) (batched c.args.self.now c.open.new.self c.take_text.new.self c.args.input.now c.take_text.new.input (c.in-Some.token ∷ []) Emitted
    c.in_ok-open.ensures.lexer c.take_text.ensures.asked c.in-Some.ensures.ran c.in-Some.ensures.batch)

pub returns-in-Emitted-clause-batch : goal.returns-in-Emitted-clause-batch
returns-in-Emitted-clause-batch c =
    let none = c.in_default.ensures.none in
    let P : Unread → Type 0 = λ u. Ran c.take_text.new.self.names c.take_text.new.self.lex u c.take_text.new.self.rested c.run.new.self.lex c.run.new.input c.run.new.tokens c.run.new.self.rested c.in_ok-run.field-0 in
    let Q : Unread → Type 0 = λ u. IsBatch c.take_text.new.self.names (lexing c.take_text.new.self.lex u c.take_text.new.self.rested) (lexing c.run.new.self.lex c.run.new.input c.run.new.self.rested) c.run.new.tokens c.run.new.self.rested in
    batched c.args.self.now c.take_text.new.self c.run.new.self c.args.input.now c.run.new.input c.run.new.tokens c.in_ok-run.field-0
    (none.0 ∙ c.in_ok-open.ensures.lexer) c.in_ok-run.ensures.asked (subst P none.1 c.in_ok-run.ensures.turn) (subst Q none.1 (c.in_ok-run.ensures.batch c.in-Emitted.is))
