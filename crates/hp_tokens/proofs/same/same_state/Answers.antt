use Rattle.std.proofs.Common.{rules, sym, ◌∙◌}
use denote.Enum.Bare.{same_true, true_same}
use Rattle.hp_tokens.specs.contracts.state.State.{the_type}
use Rattle.hp_tokens.proofs.same.same_state.Goals as goal

pub returns : goal.returns
returns c = (
  λ is. same_true the_type (search rules) _ _ (sym c.eq.ensures ∙ is),
  λ e. c.eq.ensures ∙ true_same the_type _ _ e,
)
