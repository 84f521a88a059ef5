use Rattle.std.proofs.Common.{◌≡◌, ℕ, List, subst}
use Rattle.std.specs.Prelude.{IfOk}
use Rattle.hp_elements.specs.declared.token.Token.{Token}
use Rattle.hp_tokens.specs.declared.lexing.LexState.{LexState}
use Rattle.hp_tokens.specs.declared.rows.Turn.TheVariants as turns
use Rattle.hp_tokens.specs.Reading.{Unread}
use Rattle.hp_tokens.specs.Moves.{move}
use Rattle.hp_tokens.specs.Advancing.{lexing, IsGroup, Turned}
use Rattle.hp_lex_tags.specs.Tags.{is_here, tag_rules}
use Rattle.hp_lex_tags.proofs.tags.advance.Goals as goal

-- what holds from where nothing changed
from_unchanged : (P : LexState → Unread → ℕ → List Token → Type 0) (s t : LexState) (i j : Unread) (q r : ℕ) (us ts : List Token)
    → (t ≡ s) × (j ≡ i) × (r ≡ q) × (ts ≡ us) → P t j r ts → P s i q us
from_unchanged P s t i j q r us ts e h =
    let S : LexState → Type 0 = λ x. P x i q us in
    let I : Unread → Type 0 = λ x. P t x q us in
    let R : ℕ → Type 0 = λ x. P t j x us in
    let T : List Token → Type 0 = λ x. P t j r x in
    subst S e.0 (subst I e.1 (subst R e.2 (subst T e.3 h)))

pub returns-clause-turn : goal.returns-clause-turn
returns-clause-turn c =
    let P : LexState → Unread → ℕ → List Token → Type 0 = λ s i q ts. IfOk c.advance.result (λ turn. Turned (tag_rules c.args.names.now) is_here (lexing s i q) ts
    (lexing c.advance.new.state c.advance.new.input c.advance.new.rested) c.advance.new.tokens c.advance.new.rested turn) in
    from_unchanged P c.args.state.now c.emit_reference.new.state c.args.input.now c.emit_reference.new.input c.args.rested.now c.emit_reference.new.rested c.args.tokens.now c.emit_reference.new.tokens
    (c.in_ok-emit_reference.ensures.none c.if-branch.false) c.advance.ensures.turn

pub returns-clause-group : goal.returns-clause-group
returns-clause-group c =
    let P : LexState → Unread → ℕ → List Token → Type 0 = λ s i q ts. IfOk c.advance.result (λ turn. turn ≡ turns.Emitted → IsGroup (move (tag_rules c.args.names.now)) is_here (lexing s i q) ts
    (lexing c.advance.new.state c.advance.new.input c.advance.new.rested) c.advance.new.tokens c.advance.new.rested) in
    from_unchanged P c.args.state.now c.emit_reference.new.state c.args.input.now c.emit_reference.new.input c.args.rested.now c.emit_reference.new.rested c.args.tokens.now c.emit_reference.new.tokens
    (c.in_ok-emit_reference.ensures.none c.if-branch.false) c.advance.ensures.group
