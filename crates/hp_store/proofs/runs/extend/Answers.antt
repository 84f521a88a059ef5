use Rattle.std.proofs.Common.{◌++◌, ap, ◌∙◌, arith}
use Rattle.std.specs.List.{concat}
use Rattle.std.proofs.lemmas.List.{append-nil, length-append}
use Rattle.std.proofs.lemmas.List.Folds.{concat-append}
use Rattle.hp_store.proofs.runs.extend.Goals as goal

pub append-requires : goal.append-requires
append-requires c = rw c.take_cell.ensures.result c.requires.room

pub append-requires-in-Some : goal.append-requires-in-Some
append-requires-in-Some c = rw (c.take_cell-in-Some.ensures.result, c.join_last.ensures.count) c.requires.room

pub returns-then-is_empty-clause-text : goal.returns-then-is_empty-clause-text
returns-then-is_empty-clause-text c =
    ap concat c.append.ensures
    ∙ concat-append c.args.runs.now c.take_cell.result
    ∙ ap (λ xs. concat c.args.runs.now ++ xs) (ap concat c.take_cell.ensures.result ∙ append-nil c.args.text)

pub returns-then-is_empty-clause-runs : goal.returns-then-is_empty-clause-runs
returns-then-is_empty-clause-runs c = rw (c.append.ensures, c.take_cell.ensures.result, length-append) (omega arith)

pub returns-in-Some-clause-runs : goal.returns-in-Some-clause-runs
returns-in-Some-clause-runs c = rw (c.append-in-Some.ensures, c.take_cell-in-Some.ensures.result, length-append, c.join_last.ensures.count) (omega arith)

pub returns-in_default-clause-text : goal.returns-in_default-clause-text
returns-in_default-clause-text c = c.in_default.ensures.joined

pub returns-in-Some-clause-text : goal.returns-in-Some-clause-text
returns-in-Some-clause-text c =
    ap concat c.append-in-Some.ensures
    ∙ concat-append c.join_last.new.runs c.take_cell-in-Some.result
    ∙ ap (λ xs. concat c.join_last.new.runs ++ xs) (ap concat c.take_cell-in-Some.ensures.result ∙ append-nil c.in-Some.text ∙ c.in-Some.ensures.kept.0)
    ∙ ap (λ xs. concat xs ++ c.args.text) c.in-Some.ensures.kept.1
