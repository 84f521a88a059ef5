use Rattle.std.proofs.Common.{IfOk, subst, sym}
use Rattle.hp_predict.specs.declared.quiet.GuessKind.{GuessKind}
use Rattle.hp_pieces.specs.By.{chunk_of, says_by}
use Rattle.hp_fragment.specs.Guessing.{IsReached}
use Rattle.hp_fragment.proofs.by_kind.guess_by.Goals as goal

pub returns-in-Prescan : goal.returns-in-Prescan
returns-in-Prescan c =
    subst (λ (kind : GuessKind). IfOk c.guess_by_prescan.result (IsReached (says_by (record { kind = kind; chunk = c.args.by.chunk })) (chunk_of c.args.by) (chunk_of c.args.by))) (sym c.in-Prescan.is)
    c.guess_by_prescan.ensures
