use Rattle.std.proofs.Common.{◌≡◌, Bool, subst, sym, ◌∙◌, ap}
use Rattle.hp_tokens.specs.Advancing.{Turned, lexing}
use Rattle.hp_tokens.specs.declared.rows.Turn.{Turn}
use Rattle.hp_lex_tags.specs.Tags.{is_here, tag_rules}
use Rattle.hp_lexer.specs.Table.{table, gone_on}
use Rattle.hp_lexer.proofs.Parts.{tags-part, turned, group_by, still_emitted}
use Rattle.hp_lexer.proofs.turns.in_tags.Goals as goal

pub returns-clause-turn : goal.returns-clause-turn
returns-clause-turn c =
    let P : Turn → Type 0 = λ t. Turned (table c.args.names.now) is_here (lexing c.args.state.now c.args.input.now c.args.rested.now) c.args.tokens.now
    (lexing c.advance.new.state c.advance.new.input c.advance.new.rested) c.advance.new.tokens c.advance.new.rested t in
    let same : c.gone_on.result ≡ gone_on c.in_ok-turn.turn (is_here c.advance.new.state.machine.state) =
    c.gone_on.ensures ∙ ap (λ (b : Bool). gone_on c.in_ok-turn.turn b) c.is_here.ensures in
    subst P (sym same) (turned (tag_rules c.args.names.now) is_here c.args.names.now (tags-part c.args.names.now) _ _ _ _ _ c.in_ok-turn.turn c.in_ok-turn.ensures.turn)

pub returns-clause-group : goal.returns-clause-group
returns-clause-group c = λ is.
    let same : c.gone_on.result ≡ gone_on c.in_ok-turn.turn (is_here c.advance.new.state.machine.state) =
    c.gone_on.ensures ∙ ap (λ (b : Bool). gone_on c.in_ok-turn.turn b) c.is_here.ensures in
    group_by (tag_rules c.args.names.now) is_here c.args.names.now (tags-part c.args.names.now) (c.in_ok-turn.ensures.group (still_emitted c.in_ok-turn.turn _ (sym same ∙ is)))
