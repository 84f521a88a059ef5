use Rattle.hp_control.proofs.StartLemmas.{start_valid}
use Rattle.hp_lexer.proofs.Steady.{table_steady}
use Rattle.hp_lexer.specs.Table.{table}
use Rattle.hp_model.proofs.Running.{one_tree, runs-join, runs-valid}
use Rattle.hp_model.specs.Runs.{at_start}
use Rattle.hp_runs.proofs.Bounded.{pages_fit}
use Rattle.hp_runs.proofs.Existing.{run_exists, tree_exists}
use Rattle.hp_runs.proofs.TableRows.{table_read}
use Rattle.hp_runs.proofs.runs.pages.Goals as goal

pub returns : goal.returns
returns c = record {
  join = λ names. runs-join (table names) (table_steady names);
  valid = λ names. runs-valid (table names) (table_read names);
  pages = λ names new text es run. runs-valid (table names) (table_read names) at_start new text es run start_valid;
  fit = pages_fit;
  tree = λ names. one_tree (table names);
  run_exists = run_exists;
  tree_exists = tree_exists;
}
