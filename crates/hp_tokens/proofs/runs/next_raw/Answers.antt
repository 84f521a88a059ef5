use Rattle.std.proofs.Common.{refl, [], ◌∷◌}
use Rattle.hp_tokens.specs.Plain.{none_of, whole_raw_stops}
use Rattle.hp_tokens.proofs.Texts.{has_none, has_some}
use Rattle.hp_tokens.proofs.WholeTexts.{whole_turn, whole-none, no-first}
use Rattle.hp_tokens.proofs.runs.next_raw.Goals as goal

pub returns-then-is_empty-clause-none : goal.returns-then-is_empty-clause-none
returns-then-is_empty-clause-none g c = (
  whole-none (none_of whole_raw_stops) refl c.args.input.now c.skip_pair_cr.new.self c.take_raw-text.new.self c.take_raw-text.result c.skip_pair_cr.ensures
      c.take_raw-text.ensures.run c.take_raw-text.ensures.stops (has_none _ c.if-is_empty.ensures),
  refl,
)

pub returns-clause-turn : goal.returns-clause-turn
returns-clause-turn g c = λ rules here rows.
    whole_turn rules g.T.Table.has_row g.T.Table.row_of rows c.args.state.now.machine.state c.requires.row (none_of whole_raw_stops) refl refl c.requires.plain
    c.requires.resting here c.args.state.now c.args.input.now c.skip_pair_cr.new.self c.take_raw-text.new.self c.take_raw-text.result c.args.rested.now
    c.place-place.result refl c.if-state.false (has_none _ c.if-not-is_empty.ensures) c.place-place.ensures.place c.skip_pair_cr.ensures
    c.take_raw-text.ensures.run (has_some _ c.if-is_empty.ensures)

pub returns-clause-no_nul : goal.returns-clause-no_nul
returns-clause-no_nul g c = no-first 0 (13 ∷ 60 ∷ []) c.take_raw-text.result c.take_raw-text.ensures.run.passes
