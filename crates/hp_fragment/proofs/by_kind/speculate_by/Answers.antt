use Rattle.hp_pieces.specs.By.{chunk_of, says_by}
use Rattle.hp_pieces.specs.declared.by.By.{By}
use Rattle.hp_fragment.proofs.Covering.{reached-by, reached-first, told-first}
use Rattle.hp_fragment.proofs.by_kind.speculate_by.Goals as goal

pub told_by-requires : goal.told_by-requires
told_by-requires c = record { by = reached-by (record { kind = c.args.kind; chunk = c.args.chunk }) c.in_ok-guessed.guessed c.in_ok-guessed.ensures }

pub returns-clause-guess : goal.returns-clause-guess
returns-clause-guess c =
    let by : By = record { kind = c.args.kind; chunk = c.args.chunk } in
    told-first (says_by by) c.in_ok-guessed.guessed c.told_by.result by c.told_by.ensures (reached-first (says_by by) (chunk_of by) c.in_ok-guessed.guessed c.in_ok-guessed.ensures)
