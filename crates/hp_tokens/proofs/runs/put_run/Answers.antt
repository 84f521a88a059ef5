use Rattle.std.proofs.Common.{refl, ap}
use Rattle.std.specs.Str.{chars}
use Rattle.hp_tokens.specs.declared.machine.Machine.{Machine}
use Rattle.hp_tokens.proofs.Texts.{has_none, some_spelled}
use Rattle.hp_tokens.proofs.PlainRuns.{put_ran, none_taken}
use Rattle.hp_tokens.proofs.runs.put_run.Goals as goal

pub returns-then-is_empty-clause-ran : goal.returns-then-is_empty-clause-ran
returns-then-is_empty-clause-ran g c =
    (refl, none_taken g.R.Run.passes c.args.input.now c.take_run-run.new.self c.take_run-run.result.now c.if-is_empty.ensures c.take_run-run.ensures.run)

pub returns-clause-ran : goal.returns-clause-ran
returns-clause-ran g c = λ next rows tokens rested settled.
    put_ran g.T.Table.has_row g.T.Table.row_of next rows c.args.state.now.machine.state c.requires.row g.R.Run.passes g.met.R.Run.no_cr
    c.args.part c.requires.plain c.args.state.now _ c.args.input.now c.take_run-run.new.self (chars c.take_run-run.result.now) refl c.if-state.false
    (has_none _ c.if-not-is_empty.ensures) c.take_run-run.ensures.run (some_spelled c.take_run-run.result.now c.take_run-run.utf8 c.if-is_empty.ensures)
    (ap (λ (m : Machine). record { machine = m; ahead = c.args.state.now.ahead }) c.in_ok-put_text.ensures) tokens rested
