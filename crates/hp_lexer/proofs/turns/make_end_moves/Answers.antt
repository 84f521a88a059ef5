use Rattle.std.proofs.Common.{ℕ, Bool, subst, sym, ◌∙◌}
use Rattle.std.specs.Prelude.{IfOk}
use Rattle.hp_tokens.specs.declared.state.State.{State}
use Rattle.hp_tokens.specs.Advancing.{EndTurned, lexing, end_of_text}
use Rattle.hp_lex_tags.specs.Tags as tags
use Rattle.hp_lex_raw.specs.Raw as raw
use Rattle.hp_lex_markup.specs.Markup.{markup_rules}
use Rattle.hp_lex_markup.specs.Rows as markup
use Rattle.hp_lexer.specs.Table.{table}
use Rattle.hp_lexer.proofs.Parts.{part-tags, part-raw, part-markup, tags-part, raw-part, markup-part, end_turned}
use Rattle.hp_tokens.proofs.Told.{IfOk_then}
use Rattle.hp_lexer.proofs.turns.make_end_moves.Goals as goal

pub returns-then-is_here : goal.returns-then-is_here
returns-then-is_here c =
    let names = c.args.names.now in
    let P : (State → Bool) → Type 0 = λ p. IfOk c.at_end.result (λ turn. (rested : ℕ) → EndTurned (table names) p (lexing c.args.state.now end_of_text rested) c.args.tokens.now c.at_end.new.state c.at_end.new.tokens turn) in
    subst P (sym (part-tags c.args.state.now.machine.state (sym c.is_here.ensures ∙ c.if-is_here.true)))
    (IfOk_then c.at_end.result c.at_end.ensures (λ turn ended rested. end_turned (tags.tag_rules names) tags.is_here names (tags-part names) _ _ _ _ turn (ended rested)))

pub returns-then-is_here-2 : goal.returns-then-is_here-2
returns-then-is_here-2 c =
    let names = c.args.names.now in
    let P : (State → Bool) → Type 0 = λ p. IfOk c.at_end-then-is_here-2.result (λ turn. (rested : ℕ) → EndTurned (table names) p (lexing c.args.state.now end_of_text rested) c.args.tokens.now c.at_end-then-is_here-2.new.state c.at_end-then-is_here-2.new.tokens turn) in
    subst P (sym (part-raw c.args.state.now.machine.state (sym c.is_here-2.ensures ∙ c.if-is_here-2.true)))
    (IfOk_then c.at_end-then-is_here-2.result c.at_end-then-is_here-2.ensures (λ turn ended rested. end_turned raw.raw_rules raw.is_here names (raw-part names) _ _ _ _ turn (ended rested)))

pub returns : goal.returns
returns c =
    let names = c.args.names.now in
    let P : (State → Bool) → Type 0 = λ p. IfOk c.at_end-2.result (λ turn. (rested : ℕ) → EndTurned (table names) p (lexing c.args.state.now end_of_text rested) c.args.tokens.now c.at_end-2.new.state c.at_end-2.new.tokens turn) in
    subst P (sym (part-markup c.args.state.now.machine.state (sym c.is_here.ensures ∙ c.if-is_here.false) (sym c.is_here-2.ensures ∙ c.if-is_here-2.false)))
    (IfOk_then c.at_end-2.result c.at_end-2.ensures (λ turn ended rested. end_turned markup_rules markup.is_here names (markup-part names) _ _ _ _ turn (ended rested)))
