use Rattle.std.proofs.Common.{rules, sym, subst}
use Rattle.hp_fragment.proofs.Handling.{Going, going-end, going-on, going-start, going-touched}
use Rattle.hp_fragment.proofs.Refusing.{refused-so}
use Rattle.hp_fragment.specs.Reading.{stage}
use Rattle.hp_fragment.proofs.parsing.Parsing.handle_all.Goals as goal

pub loop-token-init : goal.loop-token-init
loop-token-init g c = (
  tt,
  tt,
  subst (Going (stage g.B.Below.heard c.args.self.now) (stage g.B.Below.heard c.args.self.now) c.args.tokens) (sym c.into_iter-token-iterator.ensures.into_iter_gives)
      (going-start (stage g.B.Below.heard c.args.self.now) c.args.tokens),
)

pub loop-token-preserved : goal.loop-token-preserved
loop-token-preserved g c = (
  tt,
  tt,
  going-on (stage g.B.Below.heard c.args.self.now) (stage g.B.Below.heard c.loop-token.self) (stage g.B.Below.heard c.handle_one.new.self) c.args.tokens c.loop-token.token-iterator c.next.new.self c.in-Some.token
      c.loop-token.invariant.2 (search rules) c.in_ok-handle_one.ensures.handled,
)

pub returns-clause-handled : goal.returns-clause-handled
returns-clause-handled g c = going-end (stage g.B.Below.heard c.args.self.now) (stage g.B.Below.heard c.loop-token.self) c.args.tokens c.loop-token.token-iterator c.loop-token.invariant.2 (search rules)

pub returns-in_err-handle_one-clause-crossed : goal.returns-in_err-handle_one-clause-crossed
returns-in_err-handle_one-clause-crossed g c =
    refused-so c.from_residual.result c.in_err-handle_one.field-0.0 c.from_residual.ensures.1 c.in_err-handle_one.ensures.crossed
    (going-touched (stage g.B.Below.heard c.args.self.now) (stage g.B.Below.heard c.loop-token.self) (stage g.B.Below.heard c.handle_one.new.self) c.args.tokens c.loop-token.token-iterator c.next.new.self c.in-Some.token
    c.loop-token.invariant.2 (search rules))
