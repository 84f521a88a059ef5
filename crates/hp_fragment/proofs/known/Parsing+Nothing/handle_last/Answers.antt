use Rattle.std.proofs.Common.{◌∷◌, [], rules, sym, subst}
use Rattle.hp_elements.specs.declared.token.Token.{Token}
use Rattle.hp_fragment.proofs.Handling.{Going, going-end, going-on, going-start}
use Rattle.hp_fragment.specs.Known.{stage_of}
use Rattle.hp_fragment.specs.Reading.{Handled}
use Rattle.hp_fragment.proofs.known.Parsing+Nothing.handle_last.Goals as goal

pub loop-token-init : goal.loop-token-init
loop-token-init c = (
  tt,
  tt,
  subst (Going (stage_of c.args.self.now) (stage_of c.args.self.now) c.args.tokens) (sym c.into_iter-token-iterator.ensures.into_iter_gives)
      (going-start (stage_of c.args.self.now) c.args.tokens),
)

pub loop-token-preserved : goal.loop-token-preserved
loop-token-preserved c = (
  tt,
  tt,
  going-on (stage_of c.args.self.now) (stage_of c.loop-token.self) (stage_of c.handle_one.new.self) c.args.tokens c.loop-token.token-iterator c.next.new.self c.in-Some.token
      c.loop-token.invariant.2 (search rules) (subst (λ (t : Token). Handled (stage_of c.loop-token.self) (stage_of c.handle_one.new.self) (t ∷ [])) c.in_ok-own.ensures c.in_ok-handle_one.ensures.handled),
)

pub returns : goal.returns
returns c = going-end (stage_of c.args.self.now) (stage_of c.loop-token.self) c.args.tokens c.loop-token.token-iterator c.loop-token.invariant.2 (search rules)
