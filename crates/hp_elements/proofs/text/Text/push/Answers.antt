use Rattle.std.proofs.Common.{List, ℕ, ◌++◌, ◌∙◌, ap}
use Rattle.std.specs.Str.{chars}
use Rattle.hp_elements.proofs.TextLemmas.{on_ok, chars-encode}
use Rattle.hp_elements.proofs.text.Text.push.Goals as goal

pub returns-clause-ok : goal.returns-clause-ok
returns-clause-ok c =
    on_ok c.push_str.result c.push_str.ensures.ok
    (λ e. e ∙ ap (λ (xs : List ℕ). c.args.self.now ++ xs) (ap chars c.encode_utf8.ensures.value ∙ chars-encode c.args.c c.ranges.c.0))
