use Rattle.std.proofs.Common.{List, refl, subst}
use Rattle.hp_names.specs.References.{Reference}
use Rattle.hp_tokens.specs.declared.rows.Turn.{Turn}
use Rattle.hp_tokens.specs.declared.rows.Turn.TheVariants.{Moved}
use Rattle.hp_tokens.specs.Advancing.{lexing, Turned, IsGroup}
use Rattle.hp_tokens.specs.Moves.{move}
use Rattle.hp_lexer.specs.Table.{table, part_of}
use Rattle.hp_lexer.proofs.Runs.{start, ran, batched, moved_on, moved_smaller}
use Rattle.hp_lexer.proofs.lexer.Lexer.run.Goals as goal
use Rattle.hp_lexer.proofs.lexer.Lexer.run.Goals.{In-Moved}

pub moves-init : goal.moves-init
moves-init c = (start c.args.self.now.names c.args.self.now.lex c.args.input.now c.args.self.now.rested c.args.tokens.now c.requires.none c.requires.held, refl, refl)

moved : (c : In-Moved) → Turned (table c.args.self.now.names) (part_of c.moves.self.lex.machine.state) (lexing c.moves.self.lex c.moves.input c.moves.self.rested) c.moves.tokens
    (lexing c.make_moves.new.state c.make_moves.new.input c.make_moves.new.rested) c.make_moves.new.tokens c.make_moves.new.rested Moved
moved c =
    let P : List Reference → Type 0 = λ n. Turned (table n) (part_of c.moves.self.lex.machine.state) (lexing c.moves.self.lex c.moves.input c.moves.self.rested) c.moves.tokens
    (lexing c.make_moves.new.state c.make_moves.new.input c.make_moves.new.rested) c.make_moves.new.tokens c.make_moves.new.rested c.in_ok-turn.turn in
    let Q : Turn → Type 0 = λ t. Turned (table c.args.self.now.names) (part_of c.moves.self.lex.machine.state) (lexing c.moves.self.lex c.moves.input c.moves.self.rested) c.moves.tokens
    (lexing c.make_moves.new.state c.make_moves.new.input c.make_moves.new.rested) c.make_moves.new.tokens c.make_moves.new.rested t in
    subst Q c.in-Moved.is (subst P c.moves.invariant.1 c.in_ok-turn.ensures.turn)

pub moves-smaller : goal.moves-smaller
moves-smaller c =
    moved_smaller c.args.self.now.names c.args.self.now.lex c.args.input.now c.args.self.now.rested c.moves.self.lex c.moves.input c.moves.self.rested
    c.make_moves.new.state c.make_moves.new.input c.make_moves.new.rested c.moves.tokens c.make_moves.new.tokens c.moves.invariant.0 (moved c)

pub moves-preserved : goal.moves-preserved
moves-preserved c = (
  moved_on c.args.self.now.names c.args.self.now.lex c.args.input.now c.args.self.now.rested c.moves.self.lex c.moves.input c.moves.self.rested
      c.make_moves.new.state c.make_moves.new.input c.make_moves.new.rested c.moves.tokens c.make_moves.new.tokens c.moves.invariant.0 (moved c) c.in_ok-turn.ensures.held,
  c.moves.invariant.1,
  c.moves.invariant.2,
)

pub returns-in_default : goal.returns-in_default
returns-in_default c =
    let P : List Reference → Type 0 = λ n. Turned (table n) (part_of c.moves.self.lex.machine.state) (lexing c.moves.self.lex c.moves.input c.moves.self.rested) c.moves.tokens
    (lexing c.make_moves.new.state c.make_moves.new.input c.make_moves.new.rested) c.make_moves.new.tokens c.make_moves.new.rested c.in_ok-turn.turn in
    let Q : List Reference → Type 0 = λ n. IsGroup (move (table n)) (part_of c.moves.self.lex.machine.state) (lexing c.moves.self.lex c.moves.input c.moves.self.rested) c.moves.tokens
    (lexing c.make_moves.new.state c.make_moves.new.input c.make_moves.new.rested) c.make_moves.new.tokens c.make_moves.new.rested in
    record {
      turn =
          ran c.args.self.now.names c.args.self.now.lex c.args.input.now c.args.self.now.rested c.moves.self.lex c.moves.input c.moves.self.rested
          c.make_moves.new.state c.make_moves.new.input c.make_moves.new.rested c.moves.tokens c.make_moves.new.tokens c.moves.invariant.0 c.in_ok-turn.turn
          (subst P c.moves.invariant.1 c.in_ok-turn.ensures.turn) c.in_default.not-Moved;
      batch = λ e.
          batched c.args.self.now.names c.args.self.now.lex c.args.input.now c.args.self.now.rested c.moves.self.lex c.moves.input c.moves.self.rested
          c.make_moves.new.state c.make_moves.new.input c.make_moves.new.rested c.moves.tokens c.make_moves.new.tokens c.moves.invariant.0 c.in_ok-turn.turn
          (subst P c.moves.invariant.1 c.in_ok-turn.ensures.turn) (subst Q c.moves.invariant.1 (c.in_ok-turn.ensures.group e)) e;
      held = c.in_ok-turn.ensures.held;
      names = c.moves.invariant.1;
      asked = c.moves.invariant.2;
    }
