-- Which resting state a state of the lexer is.
use Rattle.std.proofs.Common.{◌≡◌, Some, refl, ap, sym, ◌∙◌}
use Rattle.hp_elements.specs.declared.token.Rest.{Rest}
use Rattle.hp_elements.specs.declared.token.Rest.TheVariants as rest
use Rattle.hp_tokens.specs.declared.state.State.{State}
use Rattle.hp_tokens.specs.States.{state_of_rest}
use Rattle.hp_control.specs.Truth.{rest_of}

rest_of_rest : (r : Rest) → rest_of (state_of_rest r) ≡ Some r
rest_of_rest rest.Data = refl
rest_of_rest rest.Rcdata = refl
rest_of_rest rest.Rawtext = refl
rest_of_rest rest.Script = refl
rest_of_rest rest.Plaintext = refl
rest_of_rest rest.Escaped = refl
rest_of_rest rest.EscapedDash = refl
rest_of_rest rest.EscapedDashDash = refl
rest_of_rest rest.Double = refl
rest_of_rest rest.DoubleDash = refl
rest_of_rest rest.DoubleDashDash = refl
rest_of_rest rest.Cdata = refl

pub some_rest : (s : State) (r : Rest) → state_of_rest r ≡ s → rest_of s ≡ Some r
some_rest s r h = ap rest_of (sym h) ∙ rest_of_rest r
