use Rattle.std.proofs.Common.{ap, ◌∙◌, List, ℕ}
use Rattle.hp_names.specs.Longest.{longest}
use Rattle.hp_lex_tags.proofs.NamedSteps.{longest_of, fits_of}
use Rattle.hp_lex_tags.proofs.named.longest.Goals as goal

pub returns-clause-found : goal.returns-clause-found
returns-clause-found c =
    c.longest.ensures.exact ∙ (ap (λ (bs : List ℕ). longest c.args.names.now bs) c.as_bytes.ensures.value
    ∙ longest_of c.args.names.now c.rules.ensures.over_chars c.as_str.result.now c.args.ahead.now c.as_str.utf8 c.as_str.ensures)

pub returns-clause-fits : goal.returns-clause-fits
returns-clause-fits c =
    fits_of c.args.names.now c.args.ahead.now c.longest.result
    (c.longest.ensures.exact ∙ (ap (λ (bs : List ℕ). longest c.args.names.now bs) c.as_bytes.ensures.value
    ∙ longest_of c.args.names.now c.rules.ensures.over_chars c.as_str.result.now c.args.ahead.now c.as_str.utf8 c.as_str.ensures))
