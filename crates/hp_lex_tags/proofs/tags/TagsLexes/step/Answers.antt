use Rattle.hp_lex_tags.specs.Tags.{tag_rules}
use Rattle.hp_lex_tags.proofs.NamedSteps.{tags_rows}
use Rattle.hp_tokens.proofs.Told.{IfOk_then}
use Rattle.hp_lex_tags.proofs.tags.TagsLexes.step.Goals as goal

pub returns-in_default-clause-step : goal.returns-in_default-clause-step
returns-in_default-clause-step c =
    IfOk_then c.read.result c.read.ensures.step (λ step steps. steps (tag_rules c.args.self.now.names.now) (tags_rows c.args.self.now.names.now))

pub returns-in_default-clause-held : goal.returns-in_default-clause-held
returns-in_default-clause-held c = c.read.ensures.held

pub returns-in-NamedCharacterReference-clause-step : goal.returns-in-NamedCharacterReference-clause-step
returns-in-NamedCharacterReference-clause-step c = c.step.ensures.step

pub returns-in-NamedCharacterReference-clause-held : goal.returns-in-NamedCharacterReference-clause-held
returns-in-NamedCharacterReference-clause-held c = c.step.ensures.held
