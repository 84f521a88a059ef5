-- The parts of a guessed state, as far as they were made.
use Rattle.std.specs.Prelude.{◌≡◌}
use Rattle.hp_predict.specs.OpenNames.{Names}
use Rattle.hp_predict.specs.Guess.{elements, entries, template_modes, first_form}
use Rattle.hp_predict.specs.declared.pile.Pile.{Pile}

-- the parts are those of these names
pub record IsOf (names : Names) (pile : Pile) : Type 0 where
  pub stack : pile.stack ≡ elements names
  pub formatting : pile.formatting ≡ entries names
  pub templates : pile.templates ≡ template_modes names
  pub form : pile.form ≡ first_form names
