use Rattle.std.proofs.Common.{IfOk, List, ℕ, subst}
use Rattle.hp_control.specs.States.{ControlState}
use Rattle.hp_control.specs.Truth.{answer_of}
use Rattle.hp_predict.specs.Guess.{guessed}
use Rattle.hp_predict.specs.declared.quiet.GuessKind.TheVariants.{Prescan}
use Rattle.hp_pieces.specs.By.{before_of, chunk_of}
use Rattle.hp_pieces.specs.declared.by.By.{By}
use Rattle.hp_fragment.specs.Guessing.{IsReached}
use Rattle.hp_fragment.proofs.by_kind.guess_by_prescan.Goals as goal

pub returns : goal.returns
returns c =
    let by : By = record { kind = Prescan; chunk = c.args.chunk } in
    let is : IfOk c.guess-guessed.result (IsReached (answer_of (guessed (before_of by) (chunk_of by))) c.text_in.result.now c.text_in.result.now) =
    subst (λ (s : ControlState). IfOk c.guess-guessed.result (IsReached (answer_of s) c.text_in.result.now c.text_in.result.now)) c.in_ok-prescan.ensures.state c.guess-guessed.ensures in
    subst (λ (text : List ℕ). IfOk c.guess-guessed.result (IsReached (answer_of (guessed (before_of by) (chunk_of by))) text text)) c.text_in.ensures is
