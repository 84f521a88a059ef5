use Rattle.std.proofs.Common.{List, [], ℕ, Option, sym, ap, ◌∙◌}
use Rattle.std.specs.Option.{unwrap_or}
use Rattle.std.proofs.lemmas.Str.{chars-nil}
use Rattle.hp_control.proofs.truths.last_tag.Goals as goal

pub returns-in-None : goal.returns-in-None
returns-in-None c = chars-nil ∙ ap (λ (o : Option (List ℕ)). unwrap_or o []) (sym c.in-None.is)
