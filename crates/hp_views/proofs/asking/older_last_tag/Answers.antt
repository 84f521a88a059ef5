use Rattle.std.proofs.Common.{◌≡◌, [], rules, ◌∙◌}
use Rattle.std.proofs.lemmas.Str.{chars-nil}
use Rattle.hp_views.proofs.asking.older_last_tag.Goals as goal

pub returns : goal.returns
returns g c =
    let none : c.in_ok-from_text-in_default.field-0 ≡ [] = c.in_ok-from_text-in_default.ensures ∙ chars-nil in
    search rules
