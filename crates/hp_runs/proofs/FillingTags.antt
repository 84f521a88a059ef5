-- The rows of text and tags do the same where the last start tag's name is told.
use Rattle.std.proofs.Common.{ℕ, List, Some}
use Rattle.hp_tokens.specs.declared.machine.Machine.{Machine}
use Rattle.hp_tokens.specs.declared.state.State.{State}
use Rattle.hp_tokens.specs.declared.state.State.TheVariants.{Data}
use Rattle.hp_lex_tags.specs.Rows.{row, row_of}
use Rattle.hp_runs.specs.Filled.{filled}
use Rattle.hp_runs.proofs.FillingRows.{fills, Fills}

each_fills : (s : State) (name : List ℕ) (m : Machine) (c : ℕ) → Fills name (row_of s m (Some c)) (row_of s (filled name m) (Some c))
each_fills Data name m c = search fills depth 9
each_fills _ name m c = search fills depth 9

pub row_fills : (name : List ℕ) (m : Machine) (c : ℕ) → Fills name (row m (Some c)) (row (filled name m) (Some c))
row_fills name m c = each_fills m.state name m c
