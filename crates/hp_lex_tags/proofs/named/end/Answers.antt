use Rattle.std.proofs.Common.{◌∙◌, sym, false}
use Rattle.hp_names.specs.Longest.{longest}
use Rattle.hp_tokens.proofs.Stepping.{end_by_rows}
use Rattle.hp_lex_tags.specs.Rows.{has_row, row}
use Rattle.hp_lex_tags.specs.Tags.{tag_rules}
use Rattle.hp_lex_tags.proofs.NamedSteps.{tags_rows, end_goes, decided_held}
use Rattle.hp_lex_tags.proofs.named.end.Goals as goal

pub returns-then-is_pair_next-clause-step : goal.returns-then-is_pair_next-clause-step
returns-then-is_pair_next-clause-step c = λ rested settled. (
  false,
  c.drop_line_feed.ensures.dropped _ has_row row c.args.tokens.now (end_by_rows (tag_rules c.args.names.now) has_row row (tags_rows c.args.names.now)) rested settled,
)

pub returns-clause-step : goal.returns-clause-step
returns-clause-step c = λ rested settled.
    end_goes c.args.names.now c.args.state.now c.args.input.now c.decide.new.state c.args.tokens.now c.decide.new.tokens rested
    c.requires.here c.requires.held c.requires.ended (sym c.is_pair_next.ensures ∙ c.if-is_pair_next.false) c.in_ok-decide.ensures settled

pub returns-clause-held : goal.returns-clause-held
returns-clause-held c =
    decided_held (longest c.args.names.now c.args.state.now.ahead) c.args.state.now c.args.input.now c.decide.new.state
    c.args.tokens.now c.decide.new.tokens c.in_ok-decide.ensures c.requires.held

pub returns-then-is_pair_next-clause-held : goal.returns-then-is_pair_next-clause-held
returns-then-is_pair_next-clause-held c = c.drop_line_feed.ensures.held

pub returns-then-is_pair_next-clause-ended : goal.returns-then-is_pair_next-clause-ended
returns-then-is_pair_next-clause-ended c = c.drop_line_feed.ensures.ended c.requires.ended

pub returns-clause-ended : goal.returns-clause-ended
returns-clause-ended c = c.requires.ended
