use Rattle.std.proofs.Common.{ap, sym}
use Rattle.std.specs.Prelude.{ℕ, Option, None, Some, if◌then◌else◌}
use Rattle.hp_elements.specs.KnownNames as known
use Rattle.hp_predict.specs.Guess.{first_of}
use Rattle.hp_predict.specs.OpenNames.{is_name}
use Rattle.hp_predict.proofs.pile.first_form.Goals as goal

pub returns-in-Some : goal.returns-in-Some
returns-in-Some c = ap (λ (form : Option ℕ). first_of form (if is_name known.Form c.args.name.now then Some c.args.id else None)) (sym c.in-Some.is)
