use Rattle.std.proofs.Common.{ℕ, [], ap, subst, arith, append-nil}
use Rattle.hp_tokens.specs.declared.rows.Turn.{Turn}
use Rattle.hp_tokens.specs.declared.rows.Turn.TheVariants.{Moved}
use Rattle.hp_tokens.specs.Advancing.{lexing, end_of_text, EndTurned, Leaves}
use Rattle.hp_lexer.specs.Table.{table, part_of}
use Rattle.hp_lexer.proofs.Falling.{bytes}
use Rattle.hp_lexer.proofs.Ending.{left_none, left_on, left_held, left_smaller, ended_on, ended_if}
use Rattle.hp_lexer.proofs.turns.make_all_end_moves.Goals as goal
use Rattle.hp_lexer.proofs.turns.make_all_end_moves.Goals.{In-Moved}

pub parts-init : goal.parts-init
parts-init c = (c.requires.held, λ rested. left_none c.args.names.now c.args.state.now rested c.new-tokens.result c.new-tokens.ensures)

moved : (c : In-Moved) → EndTurned (table c.args.names.now) (part_of c.parts.state.machine.state) (lexing c.parts.state end_of_text 0) c.parts.tokens
    c.make_end_moves.new.state c.make_end_moves.new.tokens Moved
moved c =
    let P : Turn → Type 0 = λ t. EndTurned (table c.args.names.now) (part_of c.parts.state.machine.state) (lexing c.parts.state end_of_text 0) c.parts.tokens
    c.make_end_moves.new.state c.make_end_moves.new.tokens t in
    subst P c.in-Moved.is (c.in_ok-make_end_moves.ensures 0)

left : (c : In-Moved) (rested : ℕ) → Leaves (table c.args.names.now) (lexing c.args.state.now end_of_text rested) [] c.make_end_moves.new.state c.make_end_moves.new.tokens
left c rested =
    left_on c.args.names.now (lexing c.args.state.now end_of_text rested) c.parts.state [] c.parts.tokens (c.parts.invariant.1 rested)
    c.make_end_moves.new.state c.make_end_moves.new.tokens (moved c).0

pub parts-preserved : goal.parts-preserved
parts-preserved c = (
  omega (
    arith,
    left_held c.args.names.now (lexing c.args.state.now end_of_text 0) c.make_end_moves.new.state [] c.make_end_moves.new.tokens (left c 0),
    ap bytes (append-nil c.args.state.now.ahead),
    c.requires.held,
  ),
  λ rested. left c rested,
)

pub parts-smaller : goal.parts-smaller
parts-smaller c =
    left_smaller c.args.names.now c.parts.state c.make_end_moves.new.state c.parts.tokens c.make_end_moves.new.tokens (moved c).0 (moved c).1

pub returns-in_default : goal.returns-in_default
returns-in_default c = λ rested.
    ended_on c.args.names.now (lexing c.args.state.now end_of_text rested) c.parts.state [] c.parts.tokens (c.parts.invariant.1 rested) c.make_end_moves.new.tokens
    (ended_if c.args.names.now (part_of c.parts.state.machine.state) (lexing c.parts.state end_of_text 0) c.parts.tokens c.make_end_moves.new.state c.make_end_moves.new.tokens
    c.in_ok-make_end_moves.field-0 (c.in_ok-make_end_moves.ensures 0) c.in_default.not-Moved)
