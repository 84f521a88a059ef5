use Rattle.std.proofs.Common.{sym}
use Rattle.hp_words.specs.Settings.{settings}
use Rattle.hp_program.proofs.Answered.{as_told, exact_run}
use Rattle.hp_program.proofs.top.hpar.Goals as goal

pub returns-clause-run : goal.returns-clause-run
returns-clause-run g c = record {
  note = _;
  answer = as_told (settings c.args.words.now) _ _ _ _ _ (sym c.status.ensures) c.put_for-outcome.ensures.answer;
  noted = c.write_note.ensures;
}

pub returns-clause-exact : goal.returns-clause-exact
returns-clause-exact g c = exact_run c.args.words.now _ _ _ _ (as_told (settings c.args.words.now) _ _ _ _ _ (sym c.status.ensures) c.put_for-outcome.ensures.answer)
