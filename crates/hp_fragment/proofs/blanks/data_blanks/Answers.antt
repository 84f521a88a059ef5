use Rattle.std.proofs.Common.{ap, refl}
use Rattle.hp_tokens.specs.Rows.{is_blank}
use Rattle.hp_tokens.specs.declared.state.State.TheVariants.{Data}
use Rattle.hp_tokens.proofs.Texts.{has_none, has_some}
use Rattle.hp_tokens.proofs.WholeTexts.{whole_turn, whole-none}
use Rattle.hp_lex_tags.specs.Rows.{has_row, row}
use Rattle.hp_lex_tags.specs.Tags.{is_here, tag_rules}
use Rattle.hp_lex_tags.proofs.NamedSteps.{tags_rows}
use Rattle.hp_lex_tags.proofs.PlainRows.{data_blanks}
use Rattle.hp_lexer.proofs.Parts.{text_in_tags}
use Rattle.hp_fragment.proofs.blanks.data_blanks.Goals as goal

pub returns-then-is_empty-clause-none : goal.returns-then-is_empty-clause-none
returns-then-is_empty-clause-none c = (
  whole-none is_blank refl c.args.input.now c.skip_pair_cr.new.self c.take_blanks-text.new.self c.take_blanks-text.result c.skip_pair_cr.ensures
      c.take_blanks-text.ensures.run c.take_blanks-text.ensures.stops (has_none _ c.if-is_empty.ensures),
  refl,
)

pub returns-clause-turn : goal.returns-clause-turn
returns-clause-turn c =
    text_in_tags c.args.names.now c.args.state.now.machine.state _ _ _ _ (ap is_here c.requires.data)
    (whole_turn (tag_rules c.args.names.now) has_row row (tags_rows c.args.names.now) Data refl is_blank refl refl data_blanks
    refl is_here c.args.state.now c.args.input.now c.skip_pair_cr.new.self c.take_blanks-text.new.self c.take_blanks-text.result c.args.rested.now
    c.place-place.result c.requires.data c.if-state.false (has_none _ c.if-not-is_empty.ensures) c.place-place.ensures.place c.skip_pair_cr.ensures
    c.take_blanks-text.ensures.run (has_some _ c.if-is_empty.ensures))
