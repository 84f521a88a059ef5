use Rattle.std.proofs.Common.{◌≡◌, Bool, subst, sym, ◌∙◌}
use Rattle.std.specs.Prelude.{IfOk}
use Rattle.hp_tokens.specs.declared.state.State.{State}
use Rattle.hp_tokens.specs.Advancing.{Turned, lexing, IsGroup}
use Rattle.hp_tokens.specs.declared.rows.Turn.TheVariants.{Emitted}
use Rattle.hp_tokens.specs.Moves.{move}
use Rattle.hp_lexer.specs.Table.{table}
use Rattle.hp_lexer.proofs.Parts.{part-tags, part-raw, part-markup}
use Rattle.hp_lexer.proofs.turns.make_moves.Goals as goal

pub returns-then-is_here-clause-turn : goal.returns-then-is_here-clause-turn
returns-then-is_here-clause-turn c =
    let P : (State → Bool) → Type 0 = λ p. IfOk c.in_tags.result (λ turn. Turned (table c.args.names.now) p (lexing c.args.state.now c.args.input.now c.args.rested.now) c.args.tokens.now
    (lexing c.in_tags.new.state c.in_tags.new.input c.in_tags.new.rested) c.in_tags.new.tokens c.in_tags.new.rested turn) in
    subst P (sym (part-tags c.args.state.now.machine.state (sym c.is_here.ensures ∙ c.if-is_here.true))) c.in_tags.ensures.turn

pub returns-then-is_here-2-clause-turn : goal.returns-then-is_here-2-clause-turn
returns-then-is_here-2-clause-turn c =
    let P : (State → Bool) → Type 0 = λ p. IfOk c.in_raw.result (λ turn. Turned (table c.args.names.now) p (lexing c.args.state.now c.args.input.now c.args.rested.now) c.args.tokens.now
    (lexing c.in_raw.new.state c.in_raw.new.input c.in_raw.new.rested) c.in_raw.new.tokens c.in_raw.new.rested turn) in
    subst P (sym (part-raw c.args.state.now.machine.state (sym c.is_here-2.ensures ∙ c.if-is_here-2.true))) c.in_raw.ensures.turn

pub returns-clause-turn : goal.returns-clause-turn
returns-clause-turn c =
    let P : (State → Bool) → Type 0 = λ p. IfOk c.in_markup.result (λ turn. Turned (table c.args.names.now) p (lexing c.args.state.now c.args.input.now c.args.rested.now) c.args.tokens.now
    (lexing c.in_markup.new.state c.in_markup.new.input c.in_markup.new.rested) c.in_markup.new.tokens c.in_markup.new.rested turn) in
    subst P (sym (part-markup c.args.state.now.machine.state (sym c.is_here.ensures ∙ c.if-is_here.false) (sym c.is_here-2.ensures ∙ c.if-is_here-2.false))) c.in_markup.ensures.turn

pub returns-then-is_here-clause-group : goal.returns-then-is_here-clause-group
returns-then-is_here-clause-group c =
    let P : (State → Bool) → Type 0 = λ p. IfOk c.in_tags.result (λ turn. turn ≡ Emitted → IsGroup (move (table c.args.names.now)) p (lexing c.args.state.now c.args.input.now c.args.rested.now) c.args.tokens.now
    (lexing c.in_tags.new.state c.in_tags.new.input c.in_tags.new.rested) c.in_tags.new.tokens c.in_tags.new.rested) in
    subst P (sym (part-tags c.args.state.now.machine.state (sym c.is_here.ensures ∙ c.if-is_here.true))) c.in_tags.ensures.group

pub returns-then-is_here-2-clause-group : goal.returns-then-is_here-2-clause-group
returns-then-is_here-2-clause-group c =
    let P : (State → Bool) → Type 0 = λ p. IfOk c.in_raw.result (λ turn. turn ≡ Emitted → IsGroup (move (table c.args.names.now)) p (lexing c.args.state.now c.args.input.now c.args.rested.now) c.args.tokens.now
    (lexing c.in_raw.new.state c.in_raw.new.input c.in_raw.new.rested) c.in_raw.new.tokens c.in_raw.new.rested) in
    subst P (sym (part-raw c.args.state.now.machine.state (sym c.is_here-2.ensures ∙ c.if-is_here-2.true))) c.in_raw.ensures.group

pub returns-clause-group : goal.returns-clause-group
returns-clause-group c =
    let P : (State → Bool) → Type 0 = λ p. IfOk c.in_markup.result (λ turn. turn ≡ Emitted → IsGroup (move (table c.args.names.now)) p (lexing c.args.state.now c.args.input.now c.args.rested.now) c.args.tokens.now
    (lexing c.in_markup.new.state c.in_markup.new.input c.in_markup.new.rested) c.in_markup.new.tokens c.in_markup.new.rested) in
    subst P (sym (part-markup c.args.state.now.machine.state (sym c.is_here.ensures ∙ c.if-is_here.false) (sym c.is_here-2.ensures ∙ c.if-is_here-2.false))) c.in_markup.ensures.group
