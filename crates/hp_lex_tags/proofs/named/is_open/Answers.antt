use Rattle.std.proofs.Common.{ap, ◌∙◌, List, ℕ}
use Rattle.std.specs.Str.{chars}
use Rattle.hp_names.specs.Longest.{is_open}
use Rattle.hp_lex_tags.proofs.NamedSteps.{open_of, closed_if}
use Rattle.hp_lex_tags.proofs.named.is_open.Goals as goal

pub returns-clause-open : goal.returns-clause-open
returns-clause-open c =
    c.is_open.ensures.exact ∙ (ap (λ (bs : List ℕ). is_open c.args.names.now bs) c.as_bytes.ensures.value
    ∙ open_of c.args.names.now c.rules.ensures.over_chars c.as_str.result.now c.args.ahead.now c.as_str.utf8 c.as_str.ensures)

pub returns-clause-closed : goal.returns-clause-closed
returns-clause-closed c =
    closed_if c.is_open.result c.args.names.now c.rules.ensures.over_chars c.as_bytes.result.now c.args.ahead.now c.as_bytes.ensures.utf8
    (ap (λ (bs : List ℕ). chars bs) c.as_bytes.ensures.value ∙ c.as_str.ensures) c.is_open.ensures.closed
