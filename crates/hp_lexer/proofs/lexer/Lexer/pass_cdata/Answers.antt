use Rattle.std.proofs.Common.{◌≡◌, ℕ, refl, subst, arith}
use Rattle.hp_lexer.specs.Running.{Passed}
use Rattle.hp_lexer.proofs.Runs.{none_passed, one_passed}
use Rattle.hp_lexer.proofs.lexer.Lexer.pass_cdata.Goals as goal

pub loop-turn-init : goal.loop-turn-init
loop-turn-init c = (none_passed c.args.self.now.lex c.args.input.now c.requires.held, refl, refl)

pub take-requires : goal.take-requires
take-requires c = c.loop-turn.invariant.0.held

pub loop-turn-preserved : goal.loop-turn-preserved
loop-turn-preserved c = (
  one_passed c.loop-turn._turn c.args.self.now.lex c.args.input.now c.loop-turn.self.lex c.loop-turn.input c.take.new.self c.take.new.input c.take.result
      c.loop-turn.invariant.0 (omega (arith, c.requires.long, c.loop-turn-test.true)) c.take.ensures.value c.take.ensures.takes,
  c.loop-turn.invariant.1,
  c.loop-turn.invariant.2,
)

pub returns : goal.returns
returns c =
    let seven : c.loop-turn._turn ≡ 7 = omega (arith, c.loop-turn-test.false, c.loop-turn.auto._turn-end) in
    let P : ℕ → Type 0 = λ n. Passed n c.args.self.now.lex c.args.input.now c.loop-turn.self.lex c.loop-turn.input in
    record { passed = subst P seven c.loop-turn.invariant.0; asked = refl; names = c.loop-turn.invariant.1; rested = c.loop-turn.invariant.2 }
