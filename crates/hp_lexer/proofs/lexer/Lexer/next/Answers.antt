use Rattle.std.proofs.Common.{refl, subst}
use Rattle.hp_lexer.specs.declared.lexer.Step.{Step}
use Rattle.hp_lexer.specs.declared.lexer.Step.TheVariants.{AtCut}
use Rattle.hp_lexer.specs.Standing.{SteppedWithin}
use Rattle.hp_lexer.proofs.Opening.{cut_after, as_within}
use Rattle.hp_lexer.proofs.lexer.Lexer.next.Goals as goal

pub returns-in-AtCut-clause-step : goal.returns-in-AtCut-clause-step
returns-in-AtCut-clause-step c =
    let P : Step → Type 0 = λ s. SteppedWithin c.args.self.now c.args.input.now c.next_within.new.self c.next_within.new.input s in
    cut_after c.args.self.now c.next_within.new.self c.args.input.now c.next_within.new.input (subst P c.in-AtCut.is c.in_ok-step.ensures.step)

pub returns-in_default-clause-step : goal.returns-in_default-clause-step
returns-in_default-clause-step c =
    as_within c.args.self.now c.next_within.new.self c.args.input.now c.next_within.new.input c.in_ok-step.step c.in_default.not-AtCut c.in_ok-step.ensures.step
