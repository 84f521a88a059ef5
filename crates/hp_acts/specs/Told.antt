-- What a view over an unknown older state tells rightly of the whole: template modes, where those of its own stand with
-- templates of its own, and an element popped, where another is left. A token's handling is told where each act and each test on
-- its way is, up to the first act that touches something older.
use Rattle.std.specs.Prelude.{Bool, true, false, not, ◌&&◌, if◌then◌else◌, nat_lt, nat_le, List, [], ◌∷◌, length, Option, None, Some}
use Rattle.std.specs.List.{list_any}
use Rattle.hp_elements.specs.declared.act.Act.{Act}
use Rattle.hp_elements.specs.declared.act.Act.TheVariants as act
use Rattle.hp_elements.specs.declared.act.Test.{Test}
use Rattle.hp_elements.specs.declared.act.Test.TheVariants as test
use Rattle.hp_elements.specs.KnownNames as known
use Rattle.hp_elements.specs.declared.token.Token.{Token}
use Rattle.hp_control.specs.declared.element.OpenElement.{OpenElement}
use Rattle.hp_control.specs.States.{ControlState, is_named, is_template}
use Rattle.hp_views.specs.ResetLaws.{is_same}
use Rattle.hp_model.specs.AtOnce.{after_first}
use Rattle.hp_model.specs.Handling.{bound, settled}
use Rattle.hp_model.specs.Steps.{step}
use Rattle.hp_model.specs.Tokens.{is_line_feed}
use Rattle.hp_acts.specs.Suiting.{turns_suit}

-- made since s
abbrev pub is_new : ControlState → OpenElement → Bool
is_new s e = nat_le s.next e.id

abbrev pub any_new : ControlState → (OpenElement → Bool) → List OpenElement → Bool
any_new s test es = list_any (λ e. is_new s e && test e) es

abbrev pub is_first_new : ControlState → List OpenElement → Bool
is_first_new s [] = false
is_first_new s (e ∷ es) = is_new s e

abbrev pub has_new_mode : ControlState → ControlState → Bool
has_new_mode s c = nat_lt (length s.templates) (length c.templates)

-- new template modes are there where new templates are, and html isn't new
abbrev pub are_together : ControlState → ControlState → Bool
are_together s c = not (any_new s (is_named known.Html) c.stack) && is_same (any_new s is_template c.stack) (has_new_mode s c)

-- what the act reads of the older state is told
abbrev pub reads_told : ControlState → Act → ControlState → Bool
reads_told s act.Reset c = are_together s c
reads_told s act.FormPointer c = is_first_new s c.stack
reads_told s act.AppendToList c = is_first_new s c.stack
reads_told s _ c = true

abbrev pub is_act_told : ControlState → Bool → Token → Act → ControlState → Bool
is_act_told s fostering t a c = reads_told s a c && not (step fostering t a c).spared

abbrev pub is_test_told : ControlState → Test → ControlState → Bool
is_test_told s test.HasTemplateModes c = has_new_mode s c
is_test_told s _ c = true

-- each act and each test of a token's turns is
abbrev pub is_told : ControlState → Token → ControlState → Bool
is_told s t c = turns_suit s (is_act_told s) (is_test_told s) (bound c) t c

abbrev pub is_rest_told : ControlState → Option Token → ControlState → Bool
is_rest_told s None c = true
is_rest_told s (Some t) c = is_told s t c

-- of a token at once
abbrev pub is_told_at_once : ControlState → Token → ControlState → Bool
is_told_at_once s t c = if c.skip_lf && is_line_feed t then is_rest_told s (after_first t) (settled c) else is_told s t (settled c)
